use Rattle.std.proofs.Common.{◌≡◌, [], ◌∷◌, ◌++◌, List, ℕ, nat_cmp, sym, ap, ◌∙◌, subst, append_assoc}
use Rattle.std.specs.Cmp.Lexicographic.{slice_cmp}
use Rattle.std.specs.List.Sorted.{IsStrictlySortedBy}
use Rattle.std.specs.Map.{keys_of}
use Rattle.js_base.specs.TextMap.{bytes_of}
use Rattle.js_base.proofs.Names.{Entry, insert_last}
use Rattle.js_base.proofs.Strings.{bytes_of-insert}
use Rattle.js_base.proofs.text_map.TextMap.to_strings.Goals as goal

pub loop-name-preserved : goal.loop-name-preserved
loop-name-preserved c =
    let done = bytes_of c.loop-name.map.entries in
    let e : Entry (List ℕ) = (c.in-Some.name.now, c.in-Some.value.now) in
    let left = c.next.new.self in
    let all : c.self.inside.map.entries ≡ done ++ e ∷ left = c.self.view_is ∙ c.loop-name.invariant ∙ ap (λ es. done ++ es) c.in-Some.ensures.steps in
    let last = insert_last done e left (subst (λ es. IsStrictlySortedBy (slice_cmp nat_cmp) (keys_of es)) all c.iter-name-items.ensures.ordered) in
    let put : bytes_of c.insert.new.self.entries ≡ done ++ e ∷ [] =
    ap bytes_of c.in_ok-insert.ensures.entries ∙ bytes_of-insert c.loop-name.map.entries c.in_ok-name.name c.in_ok-value.value
    ∙ rw (c.in_ok-name.ensures.ok, c.in_ok-value.ensures.ok, c.as_str.ensures, c.as_str-in-loop-name.ensures) last in
    sym c.self.view_is ∙ all ∙ sym (append_assoc done (e ∷ []) left) ∙ ap (λ es. es ++ left) (sym put)
