-- Strings by name, as texts by name.
use Rattle.std.proofs.Common.{◌≡◌, List, [], ◌∷◌, nat_cmp, Ordering, Less, Equal, Greater, refl, ap, ◌∙◌}
use Rattle.std.specs.Prelude.{String, string_bytes, string_cmp}
use Rattle.std.specs.declared.alloc.Global.{Global}
use Rattle.std.specs.Cmp.Lexicographic.{slice_cmp}
use Rattle.std.specs.List.{AllByRecursion}
use Rattle.std.specs.List.Sorted.{IsStrictlySortedBy}
use Rattle.std.specs.Map.{keys_of}
use Rattle.std.specs.Ordering.{match_ordering}
use Rattle.std.specs.BTreeMap.{insert_entry}
use Rattle.js_base.specs.TextMap.{bytes_of}

abbrev pub Strings : Type 0
Strings = List (String Global × String Global)

all_below : (x : String Global) (es : Strings) → AllByRecursion (λ y. string_cmp x y ≡ Less) (keys_of es) → AllByRecursion (λ y. slice_cmp nat_cmp (string_bytes x) y ≡ Less) (keys_of (bytes_of es))
all_below x [] h = tt
all_below x (e ∷ es) h = (h.0, all_below x es h.1)

-- the order of strings is that of their bytes
pub texts_sorted : (es : Strings) → IsStrictlySortedBy string_cmp (keys_of es) → IsStrictlySortedBy (slice_cmp nat_cmp) (keys_of (bytes_of es))
unfolding IsStrictlySortedBy
texts_sorted [] h = tt
texts_sorted (e ∷ es) h = (all_below e.0 es h.0, texts_sorted es h.1)

bytes_of-match : (o : Ordering) (a b c : Strings) → bytes_of (match_ordering o a b c) ≡ match_ordering o (bytes_of a) (bytes_of b) (bytes_of c)
bytes_of-match Less a b c = refl
bytes_of-match Equal a b c = refl
bytes_of-match Greater a b c = refl

pub bytes_of-insert : (es : Strings) (k v : String Global) → bytes_of (insert_entry string_cmp es k v) ≡ insert_entry (slice_cmp nat_cmp) (bytes_of es) (string_bytes k) (string_bytes v)
bytes_of-insert [] k v = refl
bytes_of-insert (e ∷ es) k v =
    bytes_of-match (string_cmp k e.0) _ _ _
    ∙ ap (λ rest. match_ordering (string_cmp k e.0) (bytes_of ((k, v) ∷ e ∷ es)) (bytes_of ((e.0, v) ∷ es)) ((string_bytes e.0, string_bytes e.1) ∷ rest)) (bytes_of-insert es k v)
