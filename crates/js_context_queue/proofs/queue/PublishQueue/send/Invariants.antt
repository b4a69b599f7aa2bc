use Rattle.std.proofs.Common.{◌≡◌, None, [], false}
use Rattle.js_context_queue.specs.QueuePoll.{Runs, place}
use Rattle.js_context_queue.specs.Queue.{EachHasOne, Keeps}
use Rattle.js_context_queue.specs.LeftAlone.{CanSendNone}
use Rattle.js_context_queue.specs.Wakes.{is_first_over}
use Rattle.js_context_queue.proofs.Tried.{Sent}
use Rattle.js_context_queue.proofs.queue.PublishQueue.send.Given as goal

abbrev pub invariant-loop-tried : goal.invariant-loop-tried
invariant-loop-tried g l = record {
  each : EachHasOne [] l.fn.self l.self;
  keeps : Keeps l.fn.self l.self;
  runs : Runs l.now None (place l.fn.self (g.L.Link.view l.fn.link)) (place l.self (g.L.Link.view l.link));
  sent : Sent l.tried l.now (place l.fn.self (g.L.Link.view l.fn.link)) (place l.self (g.L.Link.view l.link));
  stays : CanSendNone l.fn.self.unsent l.fn.self.context (g.L.Link.view l.fn.link) → is_first_over l.fn.self.send_timeout l.fn.self.unsent l.now ≡ false
      → (l.self ≡ l.fn.self) × (g.L.Link.view l.link ≡ g.L.Link.view l.fn.link);
}
