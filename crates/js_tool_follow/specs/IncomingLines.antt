-- The lines of a peer, as they come.
use Rattle.std.specs.Prelude.{◌≡◌, ℕ, ◌<◌, ◌==◌, List, [], ◌∷◌, ◌++◌, length, slice_index, Option, Some, None, IsTrue, option_map, ⊤}
use Rattle.js_tool_io.specs.Lines.{lines_of}
use Rattle.js_tool_follow.specs.declared.incoming_lines.Incoming.{Incoming}
use Rattle.js_tool_follow.specs.declared.incoming_lines.Incoming.TheVariants as incoming

-- the line that was read last, and the bytes that were read behind it
pub record Held : Type 0 where
  pub line : List ℕ
  pub left : List ℕ

-- the lines that are left, where the peer tells its bytes
abbrev pub lines_left : List ℕ → Option (List ℕ) → Option (List (List ℕ))
lines_left held left = option_map (λ bytes. lines_of (held ++ bytes)) left

-- the next of the lines that were left was read, or the last one, or none was left
abbrev pub IsNext : Incoming → Option (List (List ℕ)) → List ℕ → Option (List (List ℕ)) → Type 0
IsNext next None line after = ⊤
IsNext incoming.Line (Some lines) line None = ⊥
IsNext incoming.Line (Some lines) line (Some after) = lines ≡ line ∷ after
IsNext incoming.Last (Some lines) line after = lines ≡ line ∷ []
IsNext incoming.End (Some lines) line after = lines ≡ []

-- none of the first so many bytes is a line feed
abbrev pub HasNoFeed : List ℕ → ℕ → Type 0
HasNoFeed bytes n = (k : ℕ) → k < n → IsTrue (slice_index bytes k == 10) → ⊥

-- the first line feed stands there
pub record IsFirstFeed (bytes : List ℕ) (place : ℕ) : Type 0 where
  pub within : place < length bytes
  pub here : IsTrue (slice_index bytes place == 10)
  pub before : HasNoFeed bytes place
