use Rattle.std.proofs.Common.{◌≡◌, drop, map, false}
use Rattle.serde_json.specs.View.{view}
use Rattle.js_json_members.specs.Rows.{all_data, list_has_float}
use Rattle.js_json_members.proofs.Loop.{with_front}
use Rattle.js_json_members.proofs.written.all_written.Given as goal

abbrev pub invariant-loop-item : goal.invariant-loop-item
invariant-loop-item g l =
    let writes = g.T.Written.writes in
    (with_front (map view l.values.items) (all_data writes l.key (drop l.item-index l.items))
    ≡ all_data writes l.key l.items)
    × (list_has_float (map view l.values.items) ≡ false)
