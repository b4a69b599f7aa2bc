-- Steps that follow one another.
use Rattle.std.specs.Prelude.{◌≡◌, List, [], ◌∷◌}

-- these steps lead from one state to another, one after another
abbrev pub Chain : {W S : Type 0} → (W → S → W → Type 0) → W → List S → W → Type 0
Chain step w [] u = w ≡ u
Chain {W} step w (s ∷ ss) u = (v : W) × step w s v × Chain step v ss u
