-- Histories of keys, one change after another, and how long they are.
use Rattle.std.proofs.Common.{◌≡◌, ℕ, ◌≤◌, ◌+◌, ◌-◌, nat_cmp, List, [], ◌∷◌, ◌++◌, length, Bool, true, false, cond, refl, ap, ◌∙◌, arith, map, filter, drop}
use Rattle.std.specs.Prelude.{fold}
use Rattle.std.specs.Str.{bytes_eq}
use Rattle.std.specs.Cmp.Lexicographic.{slice_cmp}
use Rattle.std.specs.BTreeSet.{insert_key}
use Rattle.std.proofs.lemmas.List.{map_push, length_push, length-drop}
use Rattle.std.proofs.lemmas.List.Sums.{fold_push}
use Rattle.js_store_keys.specs.declared.operation.Operation.{Operation}
use Rattle.js_store_keys.specs.declared.operation.Operation.TheVariants.{Put, Delete, Purge}
use Rattle.js_store_keys.specs.declared.entry.Entry.{Entry}
use Rattle.js_store_table.specs.KeyHistory.{overtaken, with_entry, changes_of, history_of, keys_of}
use Rattle.js_store_table.specs.TableRows.{most}

pub keys_push : (es : List Entry) (e : Entry) → keys_of (es ++ e ∷ []) ≡ insert_key (slice_cmp nat_cmp) (keys_of es) e.key
keys_push es e =
    ap (fold (insert_key (slice_cmp nat_cmp)) []) (map_push (λ (x : Entry). x.key) es e)
    ∙ fold_push (insert_key (slice_cmp nat_cmp)) [] (map (λ (x : Entry). x.key) es) e.key

filter_step : (b c : Bool) (x e : Entry) (rest more : List Entry) → more ≡ cond c (rest ++ e ∷ []) rest
    → cond b (x ∷ more) more ≡ cond c (cond b (x ∷ rest) rest ++ e ∷ []) (cond b (x ∷ rest) rest)
filter_step true true x e rest more h = ap (λ ys. x ∷ ys) h
filter_step true false x e rest more h = ap (λ ys. x ∷ ys) h
filter_step false true x e rest more h = h
filter_step false false x e rest more h = h

-- one more change, which is kept where it passes
filter_push : (p : Entry → Bool) (es : List Entry) (e : Entry) → filter p (es ++ e ∷ []) ≡ cond (p e) (filter p es ++ e ∷ []) (filter p es)
filter_push p [] e = refl
filter_push p (x ∷ es) e = filter_step (p x) (p e) x e (filter p es) (filter p (es ++ e ∷ [])) (filter_push p es e)

fold_step : (h : ℕ) (b : Bool) (es : List Entry) (e : Entry)
    → fold (with_entry h) [] (cond b (es ++ e ∷ []) es) ≡ cond b (with_entry h (fold (with_entry h) [] es) e) (fold (with_entry h) [] es)
fold_step h true es e = fold_push (with_entry h) [] es e
fold_step h false es e = refl

-- one more change, which its own key's history has
pub history_push : (h : ℕ) (key : List ℕ) (es : List Entry) (e : Entry)
    → history_of h key (es ++ e ∷ []) ≡ cond (bytes_eq e.key key) (with_entry h (history_of h key es) e) (history_of h key es)
history_push h key es e =
    ap (fold (with_entry h) []) (filter_push (λ (x : Entry). bytes_eq x.key key) es e)
    ∙ fold_step h (bytes_eq e.key key) (changes_of key es) e

-- what is left beside the next entry
left_most : (h : ℕ) (o : Operation) (kept : ℕ) → kept ≤ most h → (kept - overtaken h o kept) + 1 ≤ most h
left_most h Put kept l = omega arith
left_most h Delete kept l = omega arith
left_most h Purge kept l = omega arith

pub bounded_with : (h : ℕ) (kept : List Entry) (e : Entry) → length kept ≤ most h → length (with_entry h kept e) ≤ most h
bounded_with h kept e l =
    let count = overtaken h e.operation (length kept) in
    omega (arith, length_push (drop count kept) e, length-drop count kept, left_most h e.operation (length kept) l)

bounded_from : (h : ℕ) (kept es : List Entry) → length kept ≤ most h → length (fold (with_entry h) kept es) ≤ most h
bounded_from h kept [] l = l
bounded_from h kept (e ∷ es) l = bounded_from h (with_entry h kept e) es (bounded_with h kept e l)

-- no history is longer than the bucket keeps
pub history_bounded : (h : ℕ) (key : List ℕ) (es : List Entry) → length (history_of h key es) ≤ most h
history_bounded h key es = bounded_from h [] (changes_of key es) (omega arith)
