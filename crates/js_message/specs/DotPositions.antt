-- Where the dots of a text stand, and the tokens between them.
use Rattle.std.specs.Prelude.{ℕ, zero, suc, ◌≡◌, ◌+◌, ◌<◌, ◌==◌, List, [], ◌∷◌, length, slice_index, slice_index_or, if◌then◌else◌}
use Rattle.js_message.specs.declared.dot_positions.Dots.{Dots}

-- the places of the dots of a text whose first byte stands at a place
abbrev pub dots_from : ℕ → List ℕ → List ℕ
dots_from place [] = []
dots_from place (byte ∷ bytes) = if byte == 46 then place ∷ dots_from (place + 1) bytes else dots_from (place + 1) bytes

-- the places of the dots of a text
abbrev pub dots_of : List ℕ → List ℕ
dots_of text = dots_from 0 text

-- where a token begins, counted from 0: the first at the start, each other behind a dot
abbrev pub token_start : List ℕ → ℕ → ℕ
token_start places zero = 0
token_start places (suc k) = slice_index places k + 1

-- where a token ends: at the next dot, or with the text
abbrev pub token_end : List ℕ → ℕ → ℕ → ℕ
token_end places text_length k = slice_index_or places k text_length

-- so many places were counted, and the first ten of them are kept
pub record Keeps (places : List ℕ) (dots : Dots) : Type 0 where
  pub counted : dots.count ≡ length places
  pub kept : (k : ℕ) → k < 10 → k < dots.count → slice_index dots.places k ≡ slice_index places k

-- the dots are those of the text
abbrev pub IsScanned : List ℕ → Dots → Type 0
IsScanned text dots = Keeps (dots_of text) dots
