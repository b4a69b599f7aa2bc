use Rattle.std.proofs.Common.{◌≡◌, false}
use Rattle.serde_json.specs.Data.{no_members}
use Rattle.serde_json.specs.View.{members_view}
use Rattle.serde_json.specs.Written.{members_have_float}
use Rattle.js_json_members.specs.Rows.{entries_data}
use Rattle.js_json_members.proofs.written.entries_written.Given as goal

abbrev pub invariant-loop-name : goal.invariant-loop-name
invariant-loop-name g l =
    let writes = g.T.Written.writes in
    (entries_data writes l.key (members_view l.members.entries) l.name-iterator
    ≡ entries_data writes l.key no_members l.entries.entries)
    × (members_have_float (members_view l.members.entries) ≡ false)
