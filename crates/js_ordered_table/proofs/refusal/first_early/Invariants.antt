use Rattle.std.proofs.Common.{◌≡◌, drop}
use Rattle.js_ordered_table.specs.Refusal.{first_early}
use Rattle.js_ordered_table.proofs.refusal.first_early.Given as goal

-- what is left refuses as the whole does
abbrev pub invariant-loop-place : goal.invariant-loop-place
invariant-loop-place l = first_early l.place l.before (drop l.place l.events) ≡ first_early 0 l.fn.start l.events
