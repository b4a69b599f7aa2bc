-- That all is answered before more is read.
use Rattle.std.specs.Prelude.{◌≡◌, ℕ, ◌==◌, List, [], ◌∷◌, ◌++◌, Option, Some, None, Result, Ok, Err, ⊤, if◌then◌else◌}
use Rattle.js_tool.specs.declared.command.FollowOptions.{FollowOptions}
use Rattle.js_tool_follow.specs.declared.incoming_lines.Incoming.{Incoming}
use Rattle.js_tool_follow.specs.declared.incoming_lines.Incoming.TheVariants as incoming
use Rattle.js_tool_follow.specs.declared.peer.PeerCall.{PeerCall}
use Rattle.js_tool_follow.specs.declared.peer.PeerCall.TheVariants as turn
use Rattle.js_tool_follow.specs.Peer.{heard, written, flushed}
use Rattle.js_tool_follow.specs.Standing.{answered}

-- ---- lines of which all bytes are there

-- a byte before the first of them, if there is one
abbrev pub onto_whole : ℕ → List (List ℕ) → List (List ℕ)
onto_whole b [] = []
onto_whole b (line ∷ lines) = (b ∷ line) ∷ lines

-- the pieces that end with a line feed
abbrev pub whole_lines : List ℕ → List (List ℕ)
whole_lines [] = []
whole_lines (b ∷ bytes) = if b == 10 then [] ∷ whole_lines bytes else onto_whole b (whole_lines bytes)

-- ---- punctual

-- what was passed on is the answer to all whole lines that were read
abbrev pub IsCaughtUp : FollowOptions → List PeerCall → Type 0
IsCaughtUp asked turns = flushed turns ≡ answered asked (whole_lines (heard turns))

-- whenever something was read, all was answered before. The last call stands first
abbrev pub IsPunctual : FollowOptions → List PeerCall → Type 0
IsPunctual asked [] = ⊤
IsPunctual asked (turn.Read bytes ∷ before) = IsCaughtUp asked before × IsPunctual asked before
IsPunctual asked (turn.Wrote bytes ∷ before) = IsPunctual asked before
IsPunctual asked (turn.Flushed ∷ before) = IsPunctual asked before

-- ---- on the way

-- calls are told, and this holds of them
abbrev pub Holds : Option (List PeerCall) → (List PeerCall → Type 0) → Type 0
Holds None P = ⊥
Holds (Some turns) P = P turns

-- These calls are punctual. What was read is these lines and the bytes that are held, whatever follows; this was written, and that was passed on.
pub record TurnsSoFar (asked : FollowOptions) (lines : List (List ℕ)) (held before passed : List ℕ) (turns : List PeerCall) : Type 0 where
  pub punctual : IsPunctual asked turns
  pub cut : (more : List ℕ) → whole_lines (heard turns ++ more) ≡ lines ++ whole_lines (held ++ more)
  pub written : written turns ≡ before
  pub flushed : flushed turns ≡ passed

-- a line more was read, or it stays punctual
abbrev pub HearsNext : {E : Type 0} → FollowOptions → List (List ℕ) → Result Incoming E → List ℕ → List ℕ → Option (List PeerCall) → Type 0
HearsNext asked lines (Ok incoming.Line) line held turns = Holds turns (TurnsSoFar asked (lines ++ line ∷ []) held (answered asked lines) (answered asked lines))
HearsNext asked lines (Ok incoming.Last) line held turns = Holds turns (IsPunctual asked)
HearsNext asked lines (Ok incoming.End) line held turns = Holds turns (IsPunctual asked)
HearsNext asked lines (Err stop) line held turns = Holds turns (IsPunctual asked)
