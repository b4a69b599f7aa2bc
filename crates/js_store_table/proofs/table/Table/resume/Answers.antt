use Rattle.std.proofs.Common.{sym, subst}
use Rattle.js_store_table.specs.Resume.{GoesOn}
use Rattle.js_store_table.specs.declared.table_rows.Rows.{Rows}
use Rattle.js_store_table.proofs.ResumedRows.{goes_on}
use Rattle.js_store_table.proofs.table.Table.resume.Goals as goal

pub returns-clause-goes_on : goal.returns-clause-goes_on
returns-clause-goes_on g c =
    let h = c.args.rows.bucket.history in
    let earlier = c.args.rows.rows in
    subst (λ (r : Rows). GoesOn h earlier r.rows) (sym c.resumed.ensures) (goes_on h earlier)
