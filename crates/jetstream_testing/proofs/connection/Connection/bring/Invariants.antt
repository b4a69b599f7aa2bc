use Rattle.js_link_outbox.specs.Calls.{SendsNothing}
use Rattle.jetstream_testing.proofs.connection.Connection.bring.Given as goal

abbrev pub invariant-arrivals : goal.invariant-arrivals
invariant-arrivals l = record {
  sends : SendsNothing l.fn.link l.link;
}
