use Rattle.jetstream_testing.specs.Calls.{unpolled, pending}
use Rattle.jetstream_testing.proofs.server.TestServer.answer.Goals as goal

pub rounds-init : goal.rounds-init
rounds-init g c = record { awaited = unpolled }

pub rounds-preserved : goal.rounds-preserved
rounds-preserved g c = record { awaited = pending _ _ _ _ c.rounds.invariant.awaited c.in-Pending.ensures.polled }

pub returns-in-Ready : goal.returns-in-Ready
returns-in-Ready g c = record { answers = record { last = _; before = _; after = _; awaited = c.rounds.invariant.awaited; ready = c.in-Ready.ensures.polled } }
