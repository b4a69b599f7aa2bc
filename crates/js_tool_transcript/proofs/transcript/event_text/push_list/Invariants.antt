use Rattle.std.proofs.Common.{◌≡◌, ◌++◌, false}
use Rattle.js_base.specs.Headers.{pairs}
use Rattle.js_tool_transcript.specs.EventText.{list_text, AreTextPairs}
use Rattle.js_tool_transcript.proofs.transcript.event_text.push_list.Given as goal

-- what was written, with the headers that are still to be written; where those are texts, all are
abbrev pub invariant-loop-header : goal.invariant-loop-header
invariant-loop-header l = record {
  text : l.out.items ++ list_text l.later (pairs l.header-iterator) ≡ l.initial.out.items ++ list_text false (pairs l.headers);
  utf8 : AreTextPairs (pairs l.header-iterator) → AreTextPairs (pairs l.headers);
}
