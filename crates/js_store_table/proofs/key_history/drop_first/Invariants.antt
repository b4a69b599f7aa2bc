use Rattle.std.proofs.Common.{◌≡◌, drop}
use Rattle.js_store_table.proofs.key_history.drop_first.Given as goal

abbrev pub invariant-loop-gone : goal.invariant-loop-gone
invariant-loop-gone l = l.entries.items ≡ drop l.gone l.initial.entries.items
