use Rattle.std.proofs.Common.{◌≡◌, ◌++◌}
use Rattle.js_base.proofs.text_map.ByNameTryClone.try_clone.Given as goal

abbrev pub invariant-loop-name : goal.invariant-loop-name
invariant-loop-name g l = l.self ≡ l.copy ++ l.name-iterator
