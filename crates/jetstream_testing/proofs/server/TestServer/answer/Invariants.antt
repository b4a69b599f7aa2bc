use Rattle.jetstream_testing.specs.Calls.{Awaits}
use Rattle.jetstream_testing.proofs.server.TestServer.answer.Given as goal

-- the call was polled so far, and was pending each time
abbrev pub invariant-rounds : goal.invariant-rounds
invariant-rounds g l = record {
  awaited : Awaits g.S.State.polled l.fn.call l.fn.now l.waiting;
}
