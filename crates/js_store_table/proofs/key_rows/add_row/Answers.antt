use Rattle.std.proofs.Common.{◌≡◌, ◌∷◌, [], ◌∙◌, subst}
use Rattle.std.specs.Prelude.{IfOk}
use Rattle.js_store_table.proofs.NotedRows.{noted_new}
use Rattle.js_store_table.proofs.key_rows.add_row.Goals as goal

pub returns-clause-ok : goal.returns-clause-ok
returns-clause-ok c =
    let e = c.args.entry in
    let key : c.in_ok-key.key ≡ e.key = subst (λ r. IfOk r (λ copy. copy ≡ e.key)) c.in_ok-key.ensures.values.0 c.try_clone-key.ensures in
    let row : c.in_ok-key.row ≡ e ∷ [] = subst (λ r. IfOk r (λ history. history ≡ e ∷ [])) c.in_ok-key.ensures.values.1 c.new.ensures in
    noted_new c.args.history e c.args.rows.now c.insert.new.self c.into_string.result c.in_ok-key.row (c.into_string.ensures ∙ key) c.requires row
    c.in_ok-insert.ensures.entries c.in_ok-insert.ensures.updates
