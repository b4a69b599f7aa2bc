-- Bytes cut into lines.
use Rattle.std.specs.Prelude.{◌≡◌, ℕ, ◌==◌, Bool, true, false, ◌∷◌, [], List, if◌then◌else◌}

-- a byte before the first line
abbrev pub onto_first : ℕ → List (List ℕ) → List (List ℕ)
onto_first b [] = (b ∷ []) ∷ []
onto_first b (line ∷ lines) = (b ∷ line) ∷ lines

-- the pieces between line feeds, with none after a line feed at the end
abbrev pub lines_of : List ℕ → List (List ℕ)
lines_of [] = []
lines_of (b ∷ bytes) = if b == 10 then [] ∷ lines_of bytes else onto_first b (lines_of bytes)

-- the line that was read last, and those that are left
pub record Reading : Type 0 where
  pub line : List ℕ
  pub left : List (List ℕ)

-- the next line was read, or none is left
abbrev pub IsRead : Bool → Reading → Reading → Type 0
IsRead true old new = old.left ≡ new.line ∷ new.left
IsRead false old new = old.left ≡ []
