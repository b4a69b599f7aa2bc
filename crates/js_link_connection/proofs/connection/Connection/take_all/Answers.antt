use Rattle.std.proofs.Common.{◌≡◌, ◌∙◌, Err, rules}
use Rattle.js_link_connection.proofs.Frames.{after_all, after_error, after_frame}
use Rattle.js_link_connection.proofs.connection.Connection.take_all.Goals as goal

pub returns-in_err-take_next-clause-reads : goal.returns-in_err-take_next-clause-reads
returns-in_err-take_next-clause-reads c =
    let old = c.args.self.now in
    let said = c.in_err-take_next.ensures in
    let is : c.from_residual.result ≡ Err c.in_err-take_next.field-0.0 = search rules in
    rw (is) (after_error c.in_err-take_next.field-0.0 old.most old.came old c.frames.self c.take_next.new.self c.frames.invariant.most c.frames.invariant.so_far said.next said.fewer said.place)

pub frames-preserved : goal.frames-preserved
frames-preserved c =
    let old = c.args.self.now in
    let said = c.in_ok-take_next.ensures in
    record {
      so_far = after_frame c.in_ok-take_next.field-0 old.most old.came old c.frames.self c.take_next.new.self c.if-branch.true c.frames.invariant.most c.frames.invariant.so_far said.next said.fewer said.place;
      most = said.most ∙ c.frames.invariant.most;
      quiet = said.quiet ∙ c.frames.invariant.quiet;
    }

pub returns-clause-reads : goal.returns-clause-reads
returns-clause-reads c =
    let old = c.args.self.now in
    let said = c.in_ok-take_next.ensures in
    after_all c.in_ok-take_next.field-0 old.most old.came old c.frames.self c.take_next.new.self c.if-branch.false c.frames.invariant.most c.frames.invariant.so_far said.next said.fewer said.place
