use Rattle.std.proofs.Common.{[], ◌++◌, sym, ap, ◌∙◌}
use Rattle.std.specs.List.{cons_option}
use Rattle.std.proofs.lemmas.List.{append-nil}
use Rattle.js_store_table.specs.TableRows.{shown_by, shown_keys}
use Rattle.js_store_table.proofs.ShownKeys.{keys_of_table, keys_more}
use Rattle.js_store_table.proofs.table_rows.Rows.keys.Goals as goal

pub loop-key-preserved : goal.loop-key-preserved
loop-key-preserved c =
    let f = c.args.filter.now in
    let done = c.loop-key.keys.items in
    let left = c.next.new.self in
    c.loop-key.invariant
    ∙ ap (λ ps. done ++ shown_keys f ps) c.in-Some.ensures.steps
    ∙ keys_more _ done (shown_keys f left)
    ∙ ap (λ ks. ks ++ shown_keys f left) (sym (c.in_ok-add_shown.ensures ∙ ap (λ key. done ++ cons_option (shown_by f key c.in-Some.row.now) []) c.as_str.ensures.value))

pub returns : goal.returns
returns c = λ changes is.
    let f = c.args.filter.now in
    let done = c.loop-key.keys.items in
    let all = c.loop-key.invariant ∙ ap (λ ps. done ++ shown_keys f ps) c.in-None.ensures.steps.0 ∙ append-nil done in
    sym all ∙ keys_of_table c.args.self.now.bucket.history f changes c.args.self.now.rows is c.iter-key-items.ensures.found
