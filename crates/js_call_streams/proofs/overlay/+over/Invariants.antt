use Rattle.std.proofs.Common.{◌≡◌}
use Rattle.serde_json.specs.View.{view, members_view}
use Rattle.js_call_streams.specs.Overlay.{members_over}
use Rattle.js_call_streams.proofs.overlay.+over.Given as goal

abbrev pub invariant-members_over-loop-key : goal.invariant-members_over-loop-key
invariant-members_over-loop-key l =
    members_over (members_view l.key-iterator) (view l.before) (view l.after) (members_view l.out.entries)
    ≡ members_over (members_view l.members.entries) (view l.before) (view l.after) (members_view l.fn.out.entries)
