-- The key of a subject, cut off behind the prefix.
use Rattle.std.proofs.Common.{◌≡◌, ℕ, List, length, drop, Bor, true, false, sym, ap, ◌∙◌, subst, Option, Some, None}
use Rattle.std.specs.Prelude.{MatchOption, if◌then◌else◌}
use Rattle.std.specs.Option.{option_copied}
use Rattle.std.specs.Str.{IsCharBoundary}
use Rattle.std.specs.Str.Pattern.{FindsTextPrefix, StripsPrefix}
use Rattle.std.proofs.lemmas.Str.Pattern.{starts_text}
use Rattle.js_store_table.specs.MessageEntry.{key_in}

pub key_cut : (prefix s : List ℕ) (r : Option (Bor (List ℕ)))
    → MatchOption r (FindsTextPrefix prefix s None) (λ x. StripsPrefix (FindsTextPrefix prefix) s x.now) → option_copied r ≡ key_in prefix s
key_cut prefix s None h = ap (λ starts. if starts then Some (drop (length prefix) s) else None) (starts_text false prefix s h)
key_cut prefix s (Some x) h =
    let boundary : IsCharBoundary s h.0 = subst (λ k. IsCharBoundary s k) (sym h.1.0) h.1.2 in
    ap Some (h.2 ∙ ap (λ k. drop k s) h.1.0)
    ∙ ap (λ starts. if starts then Some (drop (length prefix) s) else None) (starts_text true prefix s (h.0, h.1, boundary))
