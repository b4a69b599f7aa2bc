-- Choices between two values, and lists of facts.
use Rattle.std.proofs.Common.{◌≡◌, Bool, true, false, List, [], ◌∷◌, ◌++◌, refl}
use Rattle.std.specs.Prelude.{⊤, if◌then◌else◌}
use Rattle.std.specs.List.{AllByRecursion}
use Rattle.js_ordered_table.specs.declared.row.Row.{Row}
use Rattle.js_ordered_table.specs.Arrivals.{in_place_of}

pub if_both : {A : Type 0} (P : A → Type 0) (b : Bool) (x y : A) → P x → P y → P (if b then x else y)
if_both P true x y px py = px
if_both P false x y px py = py

pub if_with : {A : Type 0} (P : A → Type 0) (b : Bool) (x y : A) → (b ≡ true → P x) → P y → P (if b then x else y)
if_with P true x y px py = px refl
if_with P false x y px py = py

pub all_append : {A : Type 0} (P : A → Type 0) (xs ys : List A) → AllByRecursion P xs → AllByRecursion P ys → AllByRecursion P (xs ++ ys)
all_append P [] ys pxs pys = pys
all_append P (x ∷ xs) ys pxs pys = (pxs.0, all_append P xs ys pxs.1 pys)

pub all_in_place : (P : Row → Type 0) (xs ys : List Row) → AllByRecursion P xs → AllByRecursion P ys → AllByRecursion P (in_place_of xs ys)
all_in_place P [] ys pxs pys = pys
all_in_place P (x ∷ xs) ys pxs pys = pxs

-- the same, with facts that wait until the choice is known
pub if_each : {A : Type 0} (P : A → Type 0) (b : Bool) (x y : A) → (⊤ → P x) → (⊤ → P y) → P (if b then x else y)
if_each P true x y px py = px tt
if_each P false x y px py = py tt
