use Rattle.std.proofs.Common.{ℕ, List, length, ◌++◌, ◌-◌, ◌≤◌, take}
use Rattle.std.specs.Io.KnownBytes.{Appends}
use Rattle.js_tool.specs.declared.command.FollowOptions.{FollowOptions}
use Rattle.js_tool_follow.specs.Punctuality.{Holds, TurnsSoFar, IsPunctual}
use Rattle.js_tool_follow.specs.Peer.{HasWritten}
use Rattle.js_tool_follow.proofs.output.write_all.Given as goal

abbrev pub invariant-loop-at : goal.invariant-loop-at
invariant-loop-at g l = record {
  so_far : Appends (g.P.Peer.view l.initial.peer).taken (g.P.Peer.view l.peer).taken (take l.at l.text);
  within : l.at ≤ length l.text;
  said : (asked : FollowOptions) → (lines : List (List ℕ)) → (held before passed : List ℕ) → Holds (g.P.Peer.view l.initial.peer).turns (TurnsSoFar asked lines held before passed)
      → Holds (g.P.Peer.view l.peer).turns (TurnsSoFar asked lines held (before ++ take l.at l.text) passed);
  punctual : (asked : FollowOptions) → Holds (g.P.Peer.view l.initial.peer).turns (IsPunctual asked) → Holds (g.P.Peer.view l.peer).turns (IsPunctual asked);
  writes : HasWritten (g.P.Peer.view l.initial.peer) (g.P.Peer.view l.peer);
}

abbrev pub decreases-loop-at : goal.decreases-loop-at
decreases-loop-at g l = length l.text - l.at
