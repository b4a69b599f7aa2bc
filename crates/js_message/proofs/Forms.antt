-- The two forms of an acknowledgement subject, by the number of its tokens.
use Rattle.std.proofs.Common.{◌≡◌, ℕ, ◌<◌, ◌≤◌, List, [], ◌∷◌, length, Some, None, Err, ap, refl, arith}
use Rattle.js_message.specs.declared.info_error.InfoError.TheVariants.{TokenCount}
use Rattle.js_message.specs.AckSubject.{of_tokens, seven_at, domain_of, token_at}

-- seven tokens are the short form
pub short_form : (tokens : List (List ℕ)) → length tokens ≡ 7 → seven_at 0 None None tokens ≡ of_tokens tokens
short_form [] h = absurd (omega arith)
short_form (a ∷ []) h = absurd (omega arith)
short_form (a ∷ b ∷ []) h = absurd (omega arith)
short_form (a ∷ b ∷ c ∷ []) h = absurd (omega arith)
short_form (a ∷ b ∷ c ∷ d ∷ []) h = absurd (omega arith)
short_form (a ∷ b ∷ c ∷ d ∷ e ∷ []) h = absurd (omega arith)
short_form (a ∷ b ∷ c ∷ d ∷ e ∷ f ∷ []) h = absurd (omega arith)
short_form (a ∷ b ∷ c ∷ d ∷ e ∷ f ∷ g ∷ []) h = refl
short_form (a ∷ b ∷ c ∷ d ∷ e ∷ f ∷ g ∷ i ∷ rest) h = absurd (omega arith)

-- nine and more are the long form
pub long_form : (tokens : List (List ℕ)) → 9 ≤ length tokens → seven_at 2 (domain_of (token_at 0 tokens)) (Some (token_at 1 tokens)) tokens ≡ of_tokens tokens
long_form [] h = absurd (omega arith)
long_form (a ∷ []) h = absurd (omega arith)
long_form (a ∷ b ∷ []) h = absurd (omega arith)
long_form (a ∷ b ∷ c ∷ []) h = absurd (omega arith)
long_form (a ∷ b ∷ c ∷ d ∷ []) h = absurd (omega arith)
long_form (a ∷ b ∷ c ∷ d ∷ e ∷ []) h = absurd (omega arith)
long_form (a ∷ b ∷ c ∷ d ∷ e ∷ f ∷ []) h = absurd (omega arith)
long_form (a ∷ b ∷ c ∷ d ∷ e ∷ f ∷ g ∷ []) h = absurd (omega arith)
long_form (a ∷ b ∷ c ∷ d ∷ e ∷ f ∷ g ∷ i ∷ []) h = absurd (omega arith)
long_form (a ∷ b ∷ c ∷ d ∷ e ∷ f ∷ g ∷ i ∷ j ∷ []) h = refl
long_form (a ∷ b ∷ c ∷ d ∷ e ∷ f ∷ g ∷ i ∷ j ∷ k ∷ rest) h = refl

-- any other number of tokens is refused
pub other_form : (tokens : List (List ℕ)) (n : ℕ) → n ≡ length tokens → (n ≡ 7 → ⊥) → n < 9 → Err (TokenCount n) ≡ of_tokens tokens
other_form [] n h other few = ap (λ m. Err (TokenCount m)) h
other_form (a ∷ []) n h other few = ap (λ m. Err (TokenCount m)) h
other_form (a ∷ b ∷ []) n h other few = ap (λ m. Err (TokenCount m)) h
other_form (a ∷ b ∷ c ∷ []) n h other few = ap (λ m. Err (TokenCount m)) h
other_form (a ∷ b ∷ c ∷ d ∷ []) n h other few = ap (λ m. Err (TokenCount m)) h
other_form (a ∷ b ∷ c ∷ d ∷ e ∷ []) n h other few = ap (λ m. Err (TokenCount m)) h
other_form (a ∷ b ∷ c ∷ d ∷ e ∷ f ∷ []) n h other few = ap (λ m. Err (TokenCount m)) h
other_form (a ∷ b ∷ c ∷ d ∷ e ∷ f ∷ g ∷ []) n h other few = absurd (other h)
other_form (a ∷ b ∷ c ∷ d ∷ e ∷ f ∷ g ∷ i ∷ []) n h other few = ap (λ m. Err (TokenCount m)) h
other_form (a ∷ b ∷ c ∷ d ∷ e ∷ f ∷ g ∷ i ∷ j ∷ rest) n h other few = absurd (omega arith)
