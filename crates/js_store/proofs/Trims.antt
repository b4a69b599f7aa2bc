-- What is left of a name whose `KV_`s are cut off its front.
use Rattle.std.proofs.Common.{ℕ, ◌≡◌, List, [], ◌∷◌, ◌++◌, drop, codes, refl, sym, ap, ◌∙◌, true, false, Bool, Option, Some, None, IfSome, if◌then◌else◌, arith}
use Rattle.std.specs.Str.Pattern.{CutsPrefixes, IsTrimStartMatches, FindsTextPrefix}
use Rattle.std.proofs.lemmas.Slice.Eq.{starts_is}
use Rattle.std.proofs.lemmas.Bool.Decides.{Decides-eqb}
use Rattle.js_store.specs.SourceBuckets.{begins_as_stream}
use Rattle.js_store.specs.Places.{without_prefix}

-- one `KV_` is passed over
passed : (rest : List ℕ) → without_prefix (codes "KV_" ++ rest) ≡ without_prefix rest
unfolding without_prefix
passed rest = refl

-- so are all that were cut off
cut_off : (ns s r : List ℕ) → CutsPrefixes (FindsTextPrefix (codes "KV_")) s ns r → without_prefix s ≡ without_prefix r
cut_off [] s r h = ap without_prefix (sym h)
cut_off (n ∷ ns) s r h = cut_off ns s h.0 h.1 ∙ ap without_prefix h.2.1 ∙ passed (drop n h.0) ∙ ap without_prefix (sym h.3)

-- a test that does not pass
else_kept : (b : Bool) (r other : List ℕ) → (b ≡ true → ⊥) → (if b then other else r) ≡ r
else_kept true r other h = absurd (h refl)
else_kept false r other h = refl

-- a name that does not begin so is left as it is
kept : (r : List ℕ) → ((rest : List ℕ) → r ≡ codes "KV_" ++ rest → ⊥) → without_prefix r ≡ r
unfolding without_prefix
kept [] h = refl
kept (a ∷ []) h = refl
kept (a ∷ b ∷ []) h = refl
kept (a ∷ b ∷ c ∷ rest) h =
    let name = a ∷ b ∷ c ∷ rest in
    let begins = (starts_is Decides-eqb name (codes "KV_") (begins_as_stream name) refl).0 in
    else_kept (begins_as_stream name) name (without_prefix rest) (λ e. h (drop 3 name) (begins e))

-- where no `KV_` is found at the front, the name is left as it is
trimmed : (o : Option ℕ) (r : List ℕ) → FindsTextPrefix (codes "KV_") r o → IfSome o (λ n. n ≡ 0) → without_prefix r ≡ r
trimmed None r lacks h = kept r lacks
trimmed (Some n) r found h = absurd (omega (arith, found.0, h))

-- what `trim_start_matches` leaves
pub trims : (s r : List ℕ) → IsTrimStartMatches (FindsTextPrefix (codes "KV_")) s r → r ≡ without_prefix s
trims s r h = sym (trimmed h.1.0 r h.1.1 h.1.2) ∙ sym (cut_off h.0.0 s r h.0.1)
