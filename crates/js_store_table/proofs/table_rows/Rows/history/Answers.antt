use Rattle.std.proofs.Common.{◌≡◌, ◌≤◌, length, sym, ap, ◌∙◌, subst}
use Rattle.js_store_table.specs.KeyHistory.{history_of}
use Rattle.js_store_table.specs.TableRows.{kept_in, most}
use Rattle.js_store_table.proofs.Histories.{history_bounded}
use Rattle.js_store_table.proofs.table_rows.Rows.history.Goals as goal

pub returns-in-Some-clause-bounded : goal.returns-in-Some-clause-bounded
returns-in-Some-clause-bounded c = λ changes is.
    let history = c.args.self.now.bucket.history in
    let same : c.entries.result.now ≡ history_of history c.args.key.now changes =
    c.entries.ensures ∙ ap kept_in c.in-Some.ensures.value ∙ is.histories c.args.key.now in
    subst (λ es. length es ≤ most history) (sym same) (history_bounded history c.args.key.now changes)
