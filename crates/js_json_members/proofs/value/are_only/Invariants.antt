use Rattle.std.proofs.Common.{◌≡◌}
use Rattle.serde_json.specs.View.{members_view}
use Rattle.js_json_members.specs.Value.{members_only}
use Rattle.js_json_members.proofs.value.are_only.Given as goal

abbrev pub invariant-loop-name : goal.invariant-loop-name
invariant-loop-name l = members_only l.keys (members_view l.members.entries)
    ≡ members_only l.keys (members_view l.name-iterator)
