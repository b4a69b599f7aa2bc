-- The first item that a page hands out.
use Rattle.std.proofs.Common.{◌≡◌, List, [], ◌∷◌, ◌++◌, Option, Some, reverse, ◌∙◌, ap, sym}
use Rattle.std.proofs.lemmas.List.{reverse-append}
use Rattle.js_call_streams.specs.Page.{head_of, first_given}

-- a list from its end begins with its last item
pub reverse-last : {A : Type 0} → (xs : List A) (x : A) → reverse (xs ++ x ∷ []) ≡ x ∷ reverse xs
reverse-last xs x = reverse-append xs (x ∷ [])

-- the last item of a page is handed out first
pub first_is_last : {A : Type 0} → (items front : List A) (item : A) → items ≡ front ++ item ∷ [] → Some item ≡ first_given items
first_is_last items front item e = sym (ap (λ xs. head_of (reverse xs)) e ∙ ap head_of (reverse-last front item))
