use Rattle.std.proofs.Common.{◌≡◌, ◌++◌, drop}
use Rattle.js_tool_transcript.specs.RelayConfigText.{further_texts}
use Rattle.js_tool_transcript.proofs.relay.push_further.Given as goal

abbrev pub invariant-loop-filter : goal.invariant-loop-filter
invariant-loop-filter l = l.out.items ++ further_texts (drop l.filter-index l.filters) ≡ l.initial.out.items ++ further_texts l.filters
