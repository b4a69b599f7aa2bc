-- The first of the moments that were looked at, and one more.
use Rattle.std.proofs.Common.{◌≡◌, ℕ, ◌+◌, ◌<◌, ◌||◌, List, Option, get_or, length, take, sym, ap, ◌∙◌}
use Rattle.std.specs.List.{list_any}
use Rattle.std.proofs.lemmas.List.Folds.{list_any_more}
use Rattle.js_base.specs.Clock.{has_come}

pub any_more : (ms : List (Option ℕ)) (i : ℕ) (m first later : Option ℕ) → ((now : ℕ) → has_come first now ≡ list_any (λ x. has_come x now) (take i ms)) → m ≡ get_or ms i m → i < length ms
    → ((now : ℕ) → has_come later now ≡ (has_come first now || has_come m now)) → (now : ℕ) → has_come later now ≡ list_any (λ x. has_come x now) (take (i + 1) ms)
any_more ms i m first later before is within next now =
    next now
    ∙ ap (λ b. b || has_come m now) (before now)
    ∙ ap (λ x. list_any (λ x. has_come x now) (take i ms) || has_come x now) is
    ∙ sym (list_any_more (λ x. has_come x now) ms i m within)
