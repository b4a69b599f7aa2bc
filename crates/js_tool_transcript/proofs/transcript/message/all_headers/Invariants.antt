use Rattle.std.proofs.Common.{◌≡◌, drop}
use Rattle.serde_json.specs.View.{items_view}
use Rattle.js_json_members.specs.Member.{all_read}
use Rattle.js_tool_transcript.specs.Message.{header}
use Rattle.js_tool_transcript.proofs.Loop.{after_items}
use Rattle.js_tool_transcript.proofs.transcript.message.all_headers.Given as goal

abbrev pub invariant-loop-value : goal.invariant-loop-value
invariant-loop-value l =
    after_items l.headers (all_read header l.key (items_view (drop l.value-index l.values))) ≡ all_read header l.key (items_view l.values)
