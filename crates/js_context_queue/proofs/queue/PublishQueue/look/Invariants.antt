use Rattle.std.proofs.Common.{None, []}
use Rattle.js_context_queue.specs.InFlight.{waits_of}
use Rattle.js_context_queue.specs.QueuePoll.{Runs, place}
use Rattle.js_context_queue.specs.Queue.{EachHasOne, Keeps}
use Rattle.js_context_queue.proofs.Rounds.{AreLeftAlone, Rests}
use Rattle.js_context_queue.proofs.Tried.{Looked}
use Rattle.js_context_queue.proofs.queue.PublishQueue.look.Given as goal

abbrev pub invariant-loop-looked : goal.invariant-loop-looked
invariant-loop-looked g l = record {
  each : EachHasOne [] l.fn.self l.self;
  keeps : Keeps l.fn.self l.self;
  runs : Runs l.now None (place l.fn.self (g.L.Link.view l.fn.link)) (place l.self (g.L.Link.view l.link));
  looked : Looked l.looked l.now l.fn.self l.self (g.L.Link.view l.fn.link) (g.L.Link.view l.link);
  rests : AreLeftAlone l.now (g.L.Link.view l.fn.link) (waits_of l.fn.self.in_flight) → Rests l.looked l.now l.fn.self l.self (g.L.Link.view l.fn.link) (g.L.Link.view l.link);
}
