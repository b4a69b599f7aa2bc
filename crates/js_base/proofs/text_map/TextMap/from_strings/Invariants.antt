use Rattle.std.proofs.Common.{◌≡◌, ◌++◌}
use Rattle.js_base.specs.TextMap.{bytes_of}
use Rattle.js_base.proofs.text_map.TextMap.from_strings.Given as goal

abbrev pub invariant-loop-name : goal.invariant-loop-name
invariant-loop-name l = bytes_of l.strings.entries ≡ l.texts ++ bytes_of l.name-iterator
