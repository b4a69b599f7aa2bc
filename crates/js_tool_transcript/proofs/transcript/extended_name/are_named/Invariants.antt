use Rattle.std.proofs.Common.{◌≡◌}
use Rattle.serde_json.specs.View.{members_view}
use Rattle.js_tool_transcript.specs.ExtendedName.{members_with}
use Rattle.js_tool_transcript.proofs.transcript.extended_name.are_named.Given as goal

abbrev pub invariant-loop-text : goal.invariant-loop-text
invariant-loop-text l = members_with l.keys l.names (members_view l.members.entries) ≡ members_with l.keys l.names (members_view l.text-iterator)
