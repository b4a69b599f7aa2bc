use Rattle.std.proofs.Common.{◌≤◌, ◌-◌, ◌^◌, ℕ, List, length}
use Rattle.std.specs.Io.KnownBytes.{Keeps, prepend_known}
use Rattle.js_tool.specs.declared.command.FollowOptions.{FollowOptions}
use Rattle.js_tool_follow.specs.IncomingLines.{HasNoFeed}
use Rattle.js_tool_follow.specs.Punctuality.{Holds, TurnsSoFar}
use Rattle.js_tool_follow.specs.Standing.{answered}
use Rattle.js_tool_follow.specs.Peer.{HasRead}
use Rattle.js_tool_follow.proofs.incoming_lines.IncomingLines.read.Given as goal

abbrev pub invariant-reads : goal.invariant-reads
invariant-reads g l = record {
  kept : Keeps (prepend_known l.initial.self.left (g.P.Peer.view l.initial.peer).left) (prepend_known l.self.left (g.P.Peer.view l.peer).left);
  within : l.searched ≤ length l.self.left;
  searched : HasNoFeed l.self.left l.searched;
  heard : (asked : FollowOptions) → (lines : List (List ℕ)) → Holds (g.P.Peer.view l.initial.peer).turns (TurnsSoFar asked lines l.initial.self.left (answered asked lines) (answered asked lines))
      → Holds (g.P.Peer.view l.peer).turns (TurnsSoFar asked lines l.self.left (answered asked lines) (answered asked lines));
  reads : HasRead (g.P.Peer.view l.initial.peer) (g.P.Peer.view l.peer);
}

abbrev pub decreases-reads : goal.decreases-reads
decreases-reads g l = 2 ^ 64 - length l.self.left
