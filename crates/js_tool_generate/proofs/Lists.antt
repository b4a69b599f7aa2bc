-- Lists of facts, and numbers that count up.
use Rattle.std.proofs.Common.{◌≡◌, ℕ, zero, suc, ◌+◌, ◌<◌, Bool, true, false, List, [], ◌∷◌, ◌++◌, length, map, take, slice_index, slice_get, Some, refl, ap, ◌∙◌, arith}
use Rattle.std.specs.List.{AllByRecursion}
use Rattle.js_tool_generate.specs.Server.{upwards}

pub all_take : {A : Type 0} (P : A → Type 0) (n : ℕ) (xs : List A) → AllByRecursion P xs → AllByRecursion P (take n xs)
all_take P zero xs pxs = tt
all_take P (suc n) [] pxs = tt
all_take P (suc n) (x ∷ xs) pxs = (pxs.0, all_take P n xs pxs.1)

pub length_upwards : (from n : ℕ) → length (upwards from n) ≡ n
length_upwards from zero = refl
length_upwards from (suc n) = let h = length_upwards (from + 1) n in omega (arith, h)

pub index_upwards : (from n k : ℕ) → k < n → slice_index (upwards from n) k ≡ from + k
index_upwards from zero k within = absurd (omega arith)
index_upwards from (suc n) zero within = omega arith
index_upwards from (suc n) (suc k) within = let h = index_upwards (from + 1) n k (omega arith) in omega (arith, h)

pub map_upwards : {A : Type 0} (f : ℕ → A) (from n k : ℕ) → k < n → slice_get (map f (upwards from n)) k ≡ Some (f (from + k))
map_upwards f from zero k within = absurd (omega arith)
map_upwards f from (suc n) zero within = ap (λ (i : ℕ). Some (f i)) (omega arith)
map_upwards f from (suc n) (suc k) within = map_upwards f (from + 1) n k (omega arith) ∙ ap (λ (i : ℕ). Some (f i)) (omega arith)
