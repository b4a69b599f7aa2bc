-- Numbers as they are written.
use Rattle.std.specs.Prelude.{ℕ, ◌≡◌, Bool, true, false, codes, refl, ◌&&◌, ◌==◌, ◌||◌, not, List, [], ◌∷◌, length}
use Rattle.std.specs.Char.{is_ascii_digit}
use Rattle.std.specs.List.{list_all}

-- a digit, and a zero before none
abbrev pub begins_well : List ℕ → Bool
begins_well [] = false
begins_well (first ∷ rest) = not (first == 48) || length rest == 0

-- digits, at least one, and a zero before none of them
abbrev pub is_written : List ℕ → Bool
is_written digits = begins_well digits && list_all is_ascii_digit digits

-- worked, and what is refused: a zero before a digit, a sign, nothing
worked : (is_written (codes "0") ≡ true) × (is_written (codes "70") ≡ true) × (is_written (codes "07") ≡ false) × (is_written (codes "+7") ≡ false) × (is_written [] ≡ false)
worked = (refl, refl, refl, refl, refl)
