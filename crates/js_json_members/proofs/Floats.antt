-- Putting values without floats together.
use Rattle.std.proofs.Common.{◌≡◌, refl, map, ◌||◌, Bool, true, false, true≢false, ℕ, ℤ, pos, negsuc, List, [], ◌∷◌}
use Rattle.std.proofs.Common.{◌++◌, nat_cmp, Ordering, Less, Equal, Greater}
use Rattle.std.specs.Ordering.{match_ordering}
use Rattle.std.specs.Cmp.Lexicographic.{slice_cmp}
use Rattle.serde_json.specs.Data.{Data, number, Members, no_members, member, put}
use Rattle.serde_json.specs.View.{view}
use Rattle.serde_json.specs.declared.value.Value.{Value}
use Rattle.serde_json.specs.Find.{of_integer}
use Rattle.serde_json.specs.Written.{has_float, members_have_float}
use Rattle.js_json_members.specs.Rows.{list_has_float}

both_false : (a b : Bool) → a ≡ false → b ≡ false → (a || b) ≡ false
both_false a b p q = rw (p, q) refl

first_false : (a b : Bool) → (a || b) ≡ false → a ≡ false
first_false false b e = refl
first_false true b e = e

second_false : (a b : Bool) → (a || b) ≡ false → b ≡ false
second_false false b e = e
second_false true b e = absurd (true≢false e)

at_place : (o : Ordering) (a b c : Members) → members_have_float a ≡ false → members_have_float b ≡ false
    → members_have_float c ≡ false → members_have_float (match_ordering o a b c) ≡ false
at_place Less a b c p q r = p
at_place Equal a b c p q r = q
at_place Greater a b c p q r = r

pub no_float_put : (k : List ℕ) (d : Data) (ms : Members) → has_float d ≡ false → members_have_float ms ≡ false
    → members_have_float (put k d ms) ≡ false
no_float_put k d no_members p q = both_false _ _ p refl
no_float_put k d (member l e ms) p q =
    let here = first_false (has_float e) (members_have_float ms) q in
    let rest = second_false (has_float e) (members_have_float ms) q in
    at_place (slice_cmp nat_cmp k l) (member k d (member l e ms)) (member l d ms) (member l e (put k d ms))
    (both_false _ _ p q) (both_false _ _ p rest) (both_false _ _ here (no_float_put k d ms p rest))

pub no_float_last : (vs : List Value) (v : Value) → list_has_float (map view vs) ≡ false → has_float (view v) ≡ false
    → list_has_float (map view (vs ++ v ∷ [])) ≡ false
no_float_last [] v p q = both_false _ _ q refl
no_float_last (u ∷ vs) v p q =
    let here = first_false (has_float (view u)) (list_has_float (map view vs)) p in
    both_false _ _ here (no_float_last vs v (second_false (has_float (view u)) (list_has_float (map view vs)) p) q)

pub integer_is_no_float : (z : ℤ) → has_float (number (of_integer z)) ≡ false
integer_is_no_float (pos n) = refl
integer_is_no_float (negsuc n) = refl
