use Rattle.std.proofs.Common.{◌≡◌, drop}
use Rattle.serde_json.specs.View.{items_view}
use Rattle.js_json_members.specs.Member.{all_read}
use Rattle.js_json_members.proofs.Loop.{with_front}
use Rattle.js_json_members.proofs.kinds.all_read.Given as goal

abbrev pub invariant-loop-value : goal.invariant-loop-value
invariant-loop-value g l =
    let reads = g.T.Member.reads in
    with_front l.items.items (all_read reads l.key (items_view (drop l.value-index l.values)))
    ≡ all_read reads l.key (items_view l.values)
