use Rattle.std.proofs.Common.{◌≡◌, ◌≤◌, ◌<◌, ◌+◌, ◌^◌}
use Rattle.js_store_table.specs.TableRows.{count_of, kept_count}
use Rattle.js_store_table.proofs.table_rows.Rows.entry_count.Given as goal

-- what was counted and what is left are all, unless a usize holds less
abbrev pub invariant-loop-row : goal.invariant-loop-row
invariant-loop-row l =
    (l.count + count_of l.row-iterator ≤ kept_count l.self.rows) × (kept_count l.self.rows < 2 ^ 64 → l.count + count_of l.row-iterator ≡ kept_count l.self.rows)
