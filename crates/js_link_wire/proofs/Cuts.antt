-- How a text is cut into its words.
use Rattle.std.proofs.Common.{◌≡◌, ℕ, suc, lit<, ◌∷◌, [], List, refl, sym, ◌∙◌, Option, Some, None, Bor, length}
use Rattle.std.proofs.lemmas.Bool.{ne_eqb}
use Rattle.std.proofs.lemmas.Str.Pattern.{IsSplitOnceResult, split_once_first, split_parts}
use Rattle.std.proofs.lemmas.List.Splits.{slice_split_first, slice_split_none}
use Rattle.std.proofs.lemmas.Grind.{get_or_default_zero}
use Rattle.js_link_wire.specs.Words.{is_blank, parts}

pub parts_cut : (text : List ℕ) (x : Bor (List ℕ) × Bor (List ℕ)) → IsSplitOnceResult 32 text (Some x) → parts text ≡ x.0.now ∷ parts x.1.now
parts_cut text x h =
    let found = split_once_first 32 text (Some x) h (lit< tt) in
    slice_split_first is_blank text 0 found.0 ∙ rw (found.1, found.2) refl

pub parts_last : (text : List ℕ) → IsSplitOnceResult 32 text None → parts text ≡ text ∷ []
parts_last text h =
    let none = split_parts 32 text None h (lit< tt) in
    slice_split_none is_blank text (λ k d low. ne_eqb _ _ (λ e. none k low (sym (get_or_default_zero text k d low) ∙ e)))

-- how much of a text is left: less after each part
abbrev pub left_size : Option (Bor (List ℕ)) → ℕ
left_size None = 0
left_size (Some text) = suc (length text.now)
