use Rattle.std.proofs.Common.{◌≡◌, ◌++◌, drop, flat_map, map}
use Rattle.js_tool_explain.specs.SentencePart.{said_by, said_text}
use Rattle.js_tool_explain.proofs.sentence_part.push_parts.Given as goal

abbrev pub invariant-loop-part : goal.invariant-loop-part
invariant-loop-part l = l.out.items ++ flat_map said_text (map said_by (drop l.part-index l.parts)) ≡ l.initial.out.items ++ flat_map said_text (map said_by l.parts)
