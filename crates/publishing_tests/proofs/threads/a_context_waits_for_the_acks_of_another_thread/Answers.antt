use denote.Param.Send.{sendable}
use Rattle.std.proofs.Crossing.{crosses}
use Rattle.js_context.proofs.OtherThread.{context_send}
use Rattle.publishing_tests.proofs.threads.a_context_waits_for_the_acks_of_another_thread.Goals as goal

pub join-reaped-requires-send-F : goal.join-reaped-requires-send-F
join-reaped-requires-send-F g c κs within = search (sendable, crosses, context_send) depth 20
