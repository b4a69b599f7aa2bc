use Rattle.std.proofs.Common.{◌≡◌, ℕ, ◌+◌, ◌≤◌, ◌*◌, List, arith}
use Rattle.js_store_keys.specs.declared.entry.Entry.{Entry}
use Rattle.js_store_table.proofs.CountedRows.{count_bounded}
use Rattle.js_store_table.proofs.table_rows.Rows.entry_count.Goals as goal

-- a part is within a bound of the whole
part_within : (part rest whole bound : ℕ) → part + rest ≤ whole → whole ≤ bound → part ≤ bound
part_within part rest whole bound sum within = omega (arith, sum, within)

pub returns-clause-bounded : goal.returns-clause-bounded
returns-clause-bounded c = λ changes is.
    part_within c.loop-row.count _ _ _ c.loop-row.invariant.0
    (count_bounded c.args.self.now.bucket.history changes c.args.self.now.rows is c.iter-row-items.ensures.found)
