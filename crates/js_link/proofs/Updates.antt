-- What a function reads at every number, once one number has another value.
use mathlib.Core.Path.{fun_ext}
use Rattle.std.proofs.Common.{◌≡◌, ℕ, ◌==◌, Bool, true, false, refl, sym, ap, cond, ⊎_elim}
use Rattle.std.proofs.lemmas.Bool.Decides.{eqb_tells}
use Rattle.js_link.specs.LinkView.{put}

-- what f reads of a choice
cond_read : {A B : Type 0} (f : A → B) (b : Bool) (x y : A) → f (cond b x y) ≡ cond b (f x) (f y)
cond_read f true x y = refl
cond_read f false x y = refl

-- what f reads once one number has the value x
pub reads_put : {A B : Type 0} (f : A → B) (g : ℕ → A) (n : ℕ) (x : A) → (λ i. f (put g n x i)) ≡ put (λ i. f (g i)) n (f x)
reads_put f g n x = fun_ext (λ i. cond_read f _ x (g i))

-- a value that is put where it stands changes nothing
put_same_at : {B : Type 0} (f : ℕ → B) (i k : ℕ) → put f i (f i) k ≡ f k
put_same_at f i k = ⊎_elim (λ h. rw h.0 (ap f (sym h.1))) (λ h. rw h.0 refl) (eqb_tells k i)

pub put_same : {B : Type 0} (f : ℕ → B) (i : ℕ) (b : B) → b ≡ f i → put f i b ≡ f
put_same f i b e = rw e (fun_ext (put_same_at f i))

-- the value that was put
pub put_here : {B : Type 0} (f : ℕ → B) (i : ℕ) (b : B) → put f i b i ≡ b
put_here f i b = ⊎_elim (λ h. rw h.0 refl) (λ h. absurd (h.1 refl)) (eqb_tells i i)

-- of two choices by one test the first decides
twice : {B : Type 0} (c : Bool) (x y z : B) → cond c x (cond c y z) ≡ cond c x z
twice true x y z = refl
twice false x y z = refl

-- a value that is put over another
pub put_put : {B : Type 0} (f : ℕ → B) (i : ℕ) (a b : B) → put (put f i a) i b ≡ put f i b
put_put f i a b = fun_ext (λ k. twice (k == i) b a (f k))
