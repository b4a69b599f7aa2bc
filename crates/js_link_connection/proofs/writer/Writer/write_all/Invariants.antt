use Rattle.std.proofs.Common.{length}
use Rattle.js_link_outbox.specs.Outbox.{outgoing}
use Rattle.js_link_connection.specs.Writer.{Writes, TakesOnly, due}
use Rattle.js_link_connection.proofs.writer.Writer.write_all.Given as goal

abbrev pub invariant-frames : goal.invariant-frames
invariant-frames l = record {
  writes : Writes l.fn.self (outgoing l.fn.link) l.self (outgoing l.link);
  link : TakesOnly l.fn.link l.link;
}

abbrev pub decreases-frames : goal.decreases-frames
decreases-frames l = length (due l.self (outgoing l.link))
