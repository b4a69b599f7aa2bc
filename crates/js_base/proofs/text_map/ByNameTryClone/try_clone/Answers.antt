use Rattle.std.proofs.Common.{◌≡◌, [], ◌∷◌, ◌++◌, nat_cmp, sym, ap, ◌∙◌, subst, append_assoc}
use Rattle.std.specs.Cmp.Lexicographic.{slice_cmp}
use Rattle.std.specs.List.Sorted.{IsStrictlySortedBy}
use Rattle.std.specs.Map.{keys_of}
use Rattle.js_base.proofs.Names.{Entry, insert_last}
use Rattle.js_base.proofs.text_map.ByNameTryClone.try_clone.Goals as goal

pub loop-name-preserved : goal.loop-name-preserved
loop-name-preserved g c =
    let done = c.loop-name.copy in
    let e : Entry g.row.T.Denot = (c.in-Some.name.now, c.in-Some.value.now) in
    let left = c.next.new.self in
    let all : c.self.inside.map.entries ≡ done ++ e ∷ left = c.self.view_is ∙ c.loop-name.invariant ∙ ap (λ es. done ++ es) c.in-Some.ensures.steps in
    let last = insert_last done e left (subst (λ es. IsStrictlySortedBy (slice_cmp nat_cmp) (keys_of es)) all c.iter-name-items.ensures.ordered) in
    let put : c.insert.new.self ≡ done ++ e ∷ [] = rw (c.in_ok-insert.ensures.ok, c.in_ok-name.ensures, c.in_ok-try_clone.ensures) last in
    sym c.self.view_is ∙ all ∙ sym (append_assoc done (e ∷ []) left) ∙ ap (λ es. es ++ left) (sym put)
