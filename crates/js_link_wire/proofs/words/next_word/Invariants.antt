use Rattle.std.proofs.Common.{◌≡◌}
use Rattle.std.specs.Option.{option_copied}
use Rattle.js_link_wire.specs.Words.{words_left}
use Rattle.js_link_wire.proofs.Cuts.{left_size}
use Rattle.js_link_wire.proofs.words.next_word.Given as goal

abbrev pub invariant-loop-left : goal.invariant-loop-left
invariant-loop-left l = words_left (option_copied l.left) ≡ words_left (option_copied l.text)

abbrev pub decreases-loop-left : goal.decreases-loop-left
decreases-loop-left l = left_size l.left
