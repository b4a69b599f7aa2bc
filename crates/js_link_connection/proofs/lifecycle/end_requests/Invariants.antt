use Rattle.std.proofs.Common.{◌≡◌, drop}
use Rattle.js_link_outbox.specs.Calls.{SendsNothing}
use Rattle.js_link_outbox.specs.Outbox.{outbox_view}
use Rattle.js_link_connection.specs.Connection.{ended_view}
use Rattle.js_link_connection.proofs.lifecycle.end_requests.Given as goal

abbrev pub invariant-loop-number : goal.invariant-loop-number
invariant-loop-number l = record {
  view : ended_view (drop l.number-index l.numbers) (outbox_view l.link) ≡ ended_view l.numbers (outbox_view l.fn.link);
  sends : SendsNothing l.fn.link l.link;
}
