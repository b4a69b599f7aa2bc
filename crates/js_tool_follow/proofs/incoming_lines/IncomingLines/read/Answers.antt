use Rattle.std.proofs.Common.{ℕ, List, length, length-append, nat_lt, ap, ◌∙◌, arith}
use Rattle.js_tool_io.specs.declared.transfer.Stop.{Stop}
use Rattle.js_tool_follow.specs.Standing.{answered}
use Rattle.js_tool_follow.proofs.LinesReceived.{keeps_more, next_cut, next_last, none_came, searched_all, held_more}
use Rattle.js_tool_follow.proofs.ConversationEnds.{read_twice}
use Rattle.js_tool_follow.proofs.Calls.{read_on, cut_on, heard_last}
use Rattle.js_tool_follow.proofs.incoming_lines.IncomingLines.read.Goals as goal

pub returns-in-Some-clause-line : goal.returns-in-Some-clause-line
returns-in-Some-clause-line g c =
    next_cut c.args.self.now.left c.reads.self.left c.cut.new.self.line c.cut.new.self.left (g.P.Peer.view c.args.peer.now).left (g.P.Peer.view c.reads.peer).left c.in-Some.end c.reads.invariant.kept c.in-Some.ensures c.cut.ensures.line c.cut.ensures.left

pub returns-in-Some-clause-heard : goal.returns-in-Some-clause-heard
returns-in-Some-clause-heard g c = λ asked lines has.
    cut_on asked lines c.reads.self.left c.cut.new.self.line c.cut.new.self.left (answered asked lines) (answered asked lines) c.in-Some.end (g.P.Peer.view c.reads.peer).turns c.in-Some.ensures c.cut.ensures.line c.cut.ensures.left
    (c.reads.invariant.heard asked lines has)

pub returns-then-branch-eq0-clause-line : goal.returns-then-branch-eq0-clause-line
returns-then-branch-eq0-clause-line g c =
    let (bytes, is, long, consumes, call) = c.in_ok-fill.ensures.grown in
    let held = c.reads.self.left in
    let more = c.fill.new.self.left in
    let opened = (g.P.Peer.view c.args.peer.now).left in
    let known = (g.P.Peer.view c.fill.new.peer).left in
    next_last c.args.self.now.left more c.cut_last.new.self.line c.cut_last.new.self.left opened known known c.cut_last.result
    (keeps_more c.args.self.now.left held more bytes opened (g.P.Peer.view c.reads.peer).left known c.reads.invariant.kept is consumes)
    (c.in_ok-fill.ensures.at_end c.if-branch-eq0.true)
    (none_came held bytes more c.in_default.ensures is (omega (arith, long, c.if-branch-eq0.true)))
    c.cut_last.ensures.line c.cut_last.ensures.some

pub returns-then-branch-eq0-clause-heard : goal.returns-then-branch-eq0-clause-heard
returns-then-branch-eq0-clause-heard g c = λ asked lines has.
    heard_last asked Stop lines c.cut_last.new.self.line c.cut_last.new.self.left (g.P.Peer.view c.fill.new.peer).turns c.cut_last.result (nat_lt 0 (length c.fill.new.self.left)) c.cut_last.ensures.some
    (c.in_ok-fill.ensures.punctual asked lines c.in_default.ensures (c.reads.invariant.heard asked lines has))

pub reads-preserved : goal.reads-preserved
reads-preserved g c =
    let (bytes, is, long, consumes, call) = c.in_ok-fill.ensures.grown in
    let held = c.reads.self.left in
    let more = c.fill.new.self.left in
    record {
      kept = keeps_more c.args.self.now.left held more bytes (g.P.Peer.view c.args.peer.now).left (g.P.Peer.view c.reads.peer).left (g.P.Peer.view c.fill.new.peer).left c.reads.invariant.kept is consumes;
      within = held_more held c.left-searched.result.now bytes more c.left-searched.ensures is;
      searched = searched_all held c.left-searched.result.now bytes more c.in_default.ensures c.left-searched.ensures is;
      heard = λ asked lines has. read_on asked lines held bytes more (g.P.Peer.view c.reads.peer).turns (g.P.Peer.view c.fill.new.peer).turns call c.in_default.ensures is (c.reads.invariant.heard asked lines has);
      reads = read_twice (g.P.Peer.view c.args.peer.now) (g.P.Peer.view c.reads.peer) (g.P.Peer.view c.fill.new.peer) c.reads.invariant.reads c.in_ok-fill.ensures.reads;
    }

pub reads-smaller : goal.reads-smaller
reads-smaller g c =
    let (bytes, is, long, consumes, call) = c.in_ok-fill.ensures.grown in
    let more = ap (λ (l : List ℕ). length l) is ∙ length-append c.reads.self.left bytes in
    let whole = ap (λ (l : List ℕ). length l) c.left-searched.ensures in
    omega (arith, more, whole, long)
