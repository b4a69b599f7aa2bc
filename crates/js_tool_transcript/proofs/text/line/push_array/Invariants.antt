use Rattle.std.proofs.Common.{◌≡◌, ◌++◌, drop, map, false}
use Rattle.serde_json.specs.View.{items_of}
use Rattle.serde_json.specs.Written.{items_text}
use Rattle.js_tool_transcript.specs.Text.{cell_data}
use Rattle.js_tool_transcript.proofs.text.line.push_array.Given as goal

abbrev pub invariant-loop-cell : goal.invariant-loop-cell
invariant-loop-cell l = l.out.items ++ items_text l.later (items_of (map cell_data (drop l.cell-index l.cells))) ≡ l.initial.out.items ++ items_text false (items_of (map cell_data l.cells))
