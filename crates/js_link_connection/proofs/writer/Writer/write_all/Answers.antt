use Rattle.js_link_outbox.specs.Outbox.{outgoing}
use Rattle.js_link_connection.proofs.Steps.{one_written, takes_only}
use Rattle.js_link_connection.proofs.writer.Writer.write_all.Goals as goal

pub frames-preserved : goal.frames-preserved
frames-preserved c =
    let one = rw c.if-branch.true at c.in_ok-write_next.ensures.writes in
    record {
      writes = one_written c.args.self.now c.frames.self c.write_next.new.self (outgoing c.args.link.now) (outgoing c.frames.link) (outgoing c.write_next.new.link) c.frames.invariant.writes one;
      link = takes_only c.args.link.now c.frames.link c.write_next.new.link c.frames.invariant.link c.in_ok-write_next.ensures.link;
    }
