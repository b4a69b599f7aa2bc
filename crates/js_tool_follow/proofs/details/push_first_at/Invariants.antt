use Rattle.std.proofs.Common.{◌≡◌, drop}
use Rattle.js_tool_follow.specs.Details.{text_at}
use Rattle.js_tool_follow.proofs.details.push_first_at.Given as goal

-- nothing was written yet, and the message stands among those that are left
abbrev pub invariant-loop-message : goal.invariant-loop-message
invariant-loop-message l = record {
  same : l.out.items ≡ l.initial.out.items;
  left : text_at l.step l.sequence l.number (drop l.message-index l.messages) ≡ text_at l.step l.sequence l.number l.messages;
}
