-- Seconds: their next digit, and their parts joined.
use Rattle.std.proofs.Common.{◌≡◌, ℕ, zero, suc, ◌+◌, ◌*◌, ◌/◌, ◌%◌, ◌-◌, List, ◌∷◌, ◌++◌, refl, ap, ◌∙◌, append_assoc, arith}
use Rattle.std.proofs.lemmas.Bool.{ne_eqb}
use Rattle.js_base.specs.Clock.{second}
use Rattle.js_tool_explain.specs.SentencePart.{digits}

pub next_digit : (places rest : ℕ) → (places ≡ 0 → ⊥) → (rest ≡ 0 → ⊥) → digits places rest ≡ (48 + rest * 10 / second) ∷ digits (places - 1) (rest * 10 % second)
next_digit zero rest some more = absurd (some refl)
next_digit (suc places) rest some more = let e : suc places - 1 ≡ places = omega arith in rw (ne_eqb rest 0 more, e) refl

pub joined : (old a b end between after new : List ℕ) → between ≡ old ++ a → after ≡ between ++ b → new ≡ after ++ end → new ≡ old ++ (a ++ b ++ end)
joined old a b end between after new first second_part third =
    third ∙ ap (λ (text : List ℕ). text ++ end) (second_part ∙ ap (λ (text : List ℕ). text ++ b) first ∙ append_assoc old a b) ∙ append_assoc old (a ++ b) end
