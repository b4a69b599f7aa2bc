use Rattle.std.proofs.Common.{◌≡◌, []}
use Rattle.serde_json.specs.View.{members_view}
use Rattle.js_json_members.specs.Member.{entries_with}
use Rattle.js_json_members.proofs.kinds.by_name.Given as goal

abbrev pub invariant-loop-name : goal.invariant-loop-name
invariant-loop-name g l =
    let reads = g.T.Member.reads in
    entries_with reads l.key l.found (members_view l.name-iterator)
    ≡ entries_with reads l.key [] (members_view l.members.entries)
