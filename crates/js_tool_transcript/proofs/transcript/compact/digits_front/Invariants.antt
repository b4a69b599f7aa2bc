use Rattle.std.proofs.Common.{◌≡◌}
use Rattle.js_tool_transcript.proofs.transcript.compact.digits_front.Given as goal

abbrev pub invariant-loop-byte : goal.invariant-loop-byte
invariant-loop-byte l = l.count ≡ l.byte-index
