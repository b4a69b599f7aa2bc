use Rattle.std.proofs.Common.{◌≡◌, ◌++◌}
use Rattle.js_base.specs.TextMap.{bytes_of}
use Rattle.js_base.proofs.text_map.TextMap.to_strings.Given as goal

abbrev pub invariant-loop-name : goal.invariant-loop-name
invariant-loop-name l = l.self ≡ bytes_of l.map.entries ++ l.name-iterator
