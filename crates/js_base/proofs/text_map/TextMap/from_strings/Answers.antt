use Rattle.std.proofs.Common.{◌≡◌, [], ◌∷◌, ◌++◌, List, ℕ, nat_cmp, sym, ap, ◌∙◌, subst, append_assoc}
use Rattle.std.specs.Prelude.{string_bytes}
use Rattle.std.specs.Cmp.Lexicographic.{slice_cmp}
use Rattle.std.specs.List.Sorted.{IsStrictlySortedBy}
use Rattle.std.specs.Map.{keys_of}
use Rattle.js_base.specs.TextMap.{bytes_of}
use Rattle.js_base.proofs.Names.{Entry, insert_last}
use Rattle.js_base.proofs.Strings.{texts_sorted}
use Rattle.js_base.proofs.text_map.TextMap.from_strings.Goals as goal

pub loop-name-preserved : goal.loop-name-preserved
loop-name-preserved c =
    let done = c.loop-name.texts in
    let e : Entry (List ℕ) = (string_bytes c.in-Some.name.now, string_bytes c.in-Some.value.now) in
    let left = bytes_of c.next.new.self in
    let all : bytes_of c.args.strings.now.entries ≡ done ++ e ∷ left = c.loop-name.invariant ∙ ap (λ es. done ++ bytes_of es) c.in-Some.ensures.steps in
    let sorted = texts_sorted c.args.strings.now.entries c.iter-name-items.ensures.ordered in
    let last = insert_last done e left (subst (λ es. IsStrictlySortedBy (slice_cmp nat_cmp) (keys_of es)) all sorted) in
    let name = c.in_ok-name.ensures ∙ c.as_str.ensures.value in
    let value = c.in_ok-value.ensures ∙ c.as_str-in-loop-name.ensures.value in
    let put : c.insert.new.self ≡ done ++ e ∷ [] = rw (c.in_ok-insert.ensures.ok, name, value) last in
    all ∙ sym (append_assoc done (e ∷ []) left) ∙ ap (λ es. es ++ left) (sym put)
