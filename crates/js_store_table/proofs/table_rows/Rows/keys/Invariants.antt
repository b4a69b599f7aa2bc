use Rattle.std.proofs.Common.{◌≡◌, ◌++◌}
use Rattle.js_store_table.specs.TableRows.{shown_keys}
use Rattle.js_store_table.proofs.table_rows.Rows.keys.Given as goal

abbrev pub invariant-loop-key : goal.invariant-loop-key
invariant-loop-key l = shown_keys l.filter l.self.rows.entries ≡ l.keys.items ++ shown_keys l.filter l.key-iterator
