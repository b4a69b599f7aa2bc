-- How a text is cut into its tokens.
use Rattle.std.proofs.Common.{◌≡◌, ℕ, lit<, ◌∷◌, [], List, eqb, refl, sym, ◌∙◌, Option, Some, None, Bor, Bool, true, false, not, length, arith}
use Rattle.std.proofs.lemmas.Bool.{ne_eqb}
use Rattle.std.proofs.lemmas.Str.Pattern.{IsSplitOnceResult, split_once_first, split_parts}
use Rattle.std.proofs.lemmas.List.Splits.{slice_split_first, slice_split_none, length-slice_split}
use Rattle.std.proofs.lemmas.Grind.{get_or_default_zero}
use Rattle.std.specs.Option.{is_some, option_copied}
use Rattle.js_base.specs.Subject.{tokens, tokens_left}

pub tokens_cut : (text : List ℕ) (x : Bor (List ℕ) × Bor (List ℕ)) → IsSplitOnceResult 46 text (Some x) → tokens text ≡ x.0.now ∷ tokens x.1.now
tokens_cut text x h =
    let parts = split_once_first 46 text (Some x) h (lit< tt) in
    slice_split_first (λ b. eqb b 46) text 0 parts.0 ∙ rw (parts.1, parts.2) refl

pub tokens_last : (text : List ℕ) → IsSplitOnceResult 46 text None → tokens text ≡ text ∷ []
tokens_last text h =
    let parts = split_parts 46 text None h (lit< tt) in
    slice_split_none (λ b. eqb b 46) text (λ k d low. ne_eqb _ _ (λ e. parts k low (sym (get_or_default_zero text k d low) ∙ e)))

-- only a text that is used up has no token left
pub tokens_left-empty : (rest : Option (Bor (List ℕ))) (empty : Bool) → is_some rest ≡ not empty → empty ≡ eqb (length (tokens_left (option_copied rest))) 0
tokens_left-empty None true h = refl
tokens_left-empty None false h = cc
tokens_left-empty (Some text) true h = cc
tokens_left-empty (Some text) false h =
    sym (ne_eqb _ _ (let long = length-slice_split (λ b. eqb b 46) text.now in omega arith))
