use Rattle.std.proofs.Common.{◌≡◌, Some, sym, ap, ◌∙◌, subst}
use Rattle.std.specs.Prelude.{string_cmp}
use Rattle.std.specs.BTreeMap.{get_by_text, WritesThrough}
use Rattle.std.proofs.lemmas.Map.Text.{text_cmp}
use Rattle.js_store_table.specs.KeyHistory.{with_entry}
use Rattle.js_store_table.proofs.NotedRows.{noted_through, same_through, on_ok, on_err}
use Rattle.js_store_table.proofs.key_rows.note.Goals as goal

pub returns-in-Some-clause-ok : goal.returns-in-Some-clause-ok
returns-in-Some-clause-ok c =
    let m = c.args.rows.now in
    let e = c.args.entry.now in
    let row = c.in-Some.row.now in
    let w = c.add.new.self in
    let n = c.get_mut.follows.lender w in
    let found : get_by_text m e.key ≡ Some row = sym (c.in-Some.ensures.value ∙ ap (λ k. get_by_text m k) c.as_str.ensures) in
    let written : WritesThrough string_cmp (text_cmp e.key) m w n = subst (λ k. WritesThrough string_cmp (text_cmp k) m w n) c.as_str.ensures (c.get_mut.follows.holds w) in
    on_ok c.add.result
    (λ is. noted_through c.args.history e m n row w found c.in-Some.ensures.ordered (is ∙ ap (λ copy. with_entry c.args.history row copy) c.in_ok-copy.ensures) written)
    c.add.ensures.ok

pub returns-in-Some-clause-err : goal.returns-in-Some-clause-err
returns-in-Some-clause-err c =
    let m = c.args.rows.now in
    let e = c.args.entry.now in
    let row = c.in-Some.row.now in
    let w = c.add.new.self in
    let n = c.get_mut.follows.lender w in
    let found : get_by_text m e.key ≡ Some row = sym (c.in-Some.ensures.value ∙ ap (λ k. get_by_text m k) c.as_str.ensures) in
    let written : WritesThrough string_cmp (text_cmp e.key) m w n = subst (λ k. WritesThrough string_cmp (text_cmp k) m w n) c.as_str.ensures (c.get_mut.follows.holds w) in
    on_err c.add.result (λ is. same_through e.key m n row w found is written) c.add.ensures.err
