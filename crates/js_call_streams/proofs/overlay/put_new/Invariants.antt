use Rattle.std.proofs.Common.{◌≡◌}
use Rattle.serde_json.specs.View.{view, members_view}
use Rattle.js_call_streams.specs.Overlay.{with_new}
use Rattle.js_call_streams.proofs.overlay.put_new.Given as goal

abbrev pub invariant-loop-key : goal.invariant-loop-key
invariant-loop-key l =
    with_new (view l.kept) (members_view l.key-iterator) (members_view l.out.entries)
    ≡ with_new (view l.kept) (members_view l.changed.entries) (members_view l.fn.out.entries)
