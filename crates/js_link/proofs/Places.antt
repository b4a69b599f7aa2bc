-- What a function reads of a list at every place, once one place was set or one more was pushed.
use mathlib.Core.Path.{fun_ext}
use Rattle.std.proofs.Math.Dec.{eqb-suc-zero, eqb-zero-suc, eqb-suc-suc}
use Rattle.std.proofs.Common.{◌≡◌, ℕ, zero, suc, ◌<◌, ◌≤◌, List, [], ◌∷◌, ◌++◌, Option, Some, None, length, refl, sym, ap, arith}
use Rattle.std.specs.Prelude.{slice_get, slice_set}
use Rattle.js_link.specs.LinkView.{put}

-- what f reads at each place after one is set
set_at : {A B : Type 0} (f : Option A → B) (xs : List A) (i : ℕ) (v : A) → i < length xs → (k : ℕ) → f (slice_get (slice_set xs i v) k) ≡ put (λ n. f (slice_get xs n)) i (f (Some v)) k
set_at f [] i v l k = absurd (omega arith)
set_at f (x ∷ xs) zero v l zero = refl
set_at f (x ∷ xs) zero v l (suc k) = rw (eqb-suc-zero k) refl
set_at f (x ∷ xs) (suc i) v l zero = rw (eqb-zero-suc i) refl
set_at f (x ∷ xs) (suc i) v l (suc k) = rw (eqb-suc-suc k i) (set_at f xs i v (omega arith) k)

pub reads_set : {A B : Type 0} (f : Option A → B) (xs : List A) (i : ℕ) (v : A) → i < length xs → (λ n. f (slice_get (slice_set xs i v) n)) ≡ put (λ n. f (slice_get xs n)) i (f (Some v))
reads_set f xs i v l = fun_ext (set_at f xs i v l)

-- what f reads at each place after one more is pushed
push_at : {A B : Type 0} (f : Option A → B) (xs : List A) (v : A) (k : ℕ) → f (slice_get (xs ++ v ∷ []) k) ≡ put (λ n. f (slice_get xs n)) (length xs) (f (Some v)) k
push_at f [] v zero = refl
push_at f [] v (suc k) = rw (eqb-suc-zero k) refl
push_at f (x ∷ xs) v zero = rw (eqb-zero-suc (length xs)) refl
push_at f (x ∷ xs) v (suc k) = rw (eqb-suc-suc k (length xs)) (push_at f xs v k)

pub reads_push : {A B : Type 0} (f : Option A → B) (xs : List A) (v : A) → (λ n. f (slice_get (xs ++ v ∷ []) n)) ≡ put (λ n. f (slice_get xs n)) (length xs) (f (Some v))
reads_push f xs v = fun_ext (push_at f xs v)

-- a place that was set
pub get_set : {A : Type 0} (xs : List A) (i : ℕ) (v : A) → i < length xs → slice_get (slice_set xs i v) i ≡ Some v
get_set [] i v l = absurd (omega arith)
get_set (x ∷ xs) zero v l = refl
get_set (x ∷ xs) (suc i) v l = get_set xs i v (omega arith)

pub get_past : {A : Type 0} (xs : List A) (i : ℕ) → length xs ≤ i → slice_get xs i ≡ None
get_past [] i l = refl
get_past (x ∷ xs) zero l = absurd (omega arith)
get_past (x ∷ xs) (suc i) l = get_past xs i (omega arith)

-- the place that was pushed
pub get_push : {A : Type 0} (xs : List A) (v : A) → slice_get (xs ++ v ∷ []) (length xs) ≡ Some v
get_push [] v = refl
get_push (x ∷ xs) v = get_push xs v

some_same : {A : Type 0} {x y : A} → Some x ≡ Some y → x ≡ y
some_same e = cc

-- an element that is written back changes nothing
pub set_back : {A : Type 0} (xs : List A) (i : ℕ) (v : A) → slice_get xs i ≡ Some v → slice_set xs i v ≡ xs
set_back [] i v e = refl
set_back (x ∷ xs) zero v e = ap (λ y. y ∷ xs) (sym (some_same e))
set_back (x ∷ xs) (suc i) v e = ap (λ ys. x ∷ ys) (set_back xs i v e)
