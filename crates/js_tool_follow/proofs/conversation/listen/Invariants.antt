use Rattle.std.proofs.Common.{ℕ, ◌-◌, ◌^◌, List}
use Rattle.js_tool.specs.declared.command.FollowOptions.{FollowOptions}
use Rattle.js_tool_follow.specs.Conversation.{IsAt}
use Rattle.js_tool_follow.specs.Peer.{Dialogue}
use Rattle.js_tool_follow.proofs.conversation.listen.Given as goal

abbrev pub invariant-turns : goal.invariant-turns
invariant-turns g l =
    (asked : FollowOptions) → (from : Dialogue) → (told : List (List ℕ)) → IsAt asked from (g.P.Peer.view l.initial.peer) told l.initial.lines.left l.initial.listener
    → (now : List (List ℕ)) × IsAt asked from (g.P.Peer.view l.peer) now l.lines.left l.listener

abbrev pub decreases-turns : goal.decreases-turns
decreases-turns g l = 2 ^ 64 - l.listener.replay.value.count
