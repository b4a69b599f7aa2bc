-- Bytes in pieces that end where lines do.
use Rattle.std.specs.Prelude.{◌≡◌, ℕ, List, [], ◌∷◌, ◌++◌, flat_map}
use Rattle.std.specs.Global.{Vec}

-- the bytes of all pieces
abbrev pub joined : List (Vec ℕ) → List ℕ
joined pieces = flat_map (λ piece. piece.items) pieces

-- the last byte is a line feed
abbrev pub EndsLine : List ℕ → Type 0
EndsLine bytes = (front : List ℕ) × (bytes ≡ front ++ 10 ∷ [])
