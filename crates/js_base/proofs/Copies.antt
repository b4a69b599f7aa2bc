-- A copy is equal to what it was made of.
use Rattle.std.proofs.Common.{◌≡◌, subst}
use Rattle.std.specs.Prelude.{Result, Ok, IfOk}

pub copied : {A E : Type 0} {r : Result A E} {x y : A} → r ≡ Ok x → IfOk r (λ copy. copy ≡ y) → x ≡ y
copied {y = y} is h = subst (λ r. IfOk r (λ copy. copy ≡ y)) is h
