use Rattle.std.proofs.Common.{take}
use Rattle.js_message.specs.DotPositions.{Keeps, dots_of}
use Rattle.js_message.proofs.dot_positions.Dots.of.Given as goal

abbrev pub invariant-loop-place : goal.invariant-loop-place
invariant-loop-place l = Keeps (dots_of (take l.place l.text)) l.dots
