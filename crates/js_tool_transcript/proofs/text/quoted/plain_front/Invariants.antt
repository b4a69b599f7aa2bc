use Rattle.std.proofs.Common.{◌≡◌, ◌++◌, take, drop}
use Rattle.json.specs.Print.{escape}
use Rattle.js_tool_transcript.proofs.text.quoted.plain_front.Given as goal

abbrev pub invariant-loop-byte : goal.invariant-loop-byte
invariant-loop-byte l = record {
  counted : l.count ≡ l.byte-index;
  same : escape (take l.count l.bytes) ≡ take l.count l.bytes;
  plain : escape l.bytes ≡ take l.count l.bytes ++ escape (drop l.count l.bytes);
}
