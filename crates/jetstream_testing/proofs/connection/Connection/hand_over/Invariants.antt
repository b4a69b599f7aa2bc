use Rattle.js_link_outbox.specs.Calls.{SendsNothing}
use Rattle.jetstream_testing.proofs.connection.Connection.hand_over.Given as goal

abbrev pub invariant-places : goal.invariant-places
invariant-places l = record {
  sends : SendsNothing l.fn.link l.link;
}
