use Rattle.std.proofs.Common.{◌≡◌, ℕ, ◌<◌, ◌≤◌, ◌^◌, length, get_or, take, arith}
use Rattle.std.proofs.lemmas.List.{length-take}
use Rattle.js_message.specs.DotPositions.{dots_of}
use Rattle.js_message.proofs.Cuts.{dots_few, more_there, none_there}
use Rattle.js_message.proofs.dot_positions.Dots.of.Goals.{then-byte-eq46, else-byte-eq46}
use Rattle.js_message.proofs.dot_positions.Dots.of.Goals as goal

pub add-requires : goal.add-requires
add-requires c =
    let text = c.args.text.now in
    let few = dots_few 0 (take c.loop-place.place text) in
    omega (arith, few, length-take c.loop-place.place text, c.loop-place.invariant.counted)

pub loop-place-preserved : goal.loop-place-preserved
loop-place-preserved c =
    let text = c.args.text.now in
    let place = c.loop-place.place in
    let within : place < length text = omega arith in
    elim c.if-byte-eq46.branch [
      | then-byte-eq46 w ↦
          let dot : get_or text place 0 ≡ 46 = rw (← c.as_bytes-byte-items.ensures.value) w.if-byte-eq46.true in
          rw (more_there text place within dot) (rw w.dots-is (w.add.ensures (dots_of (take place text)) c.loop-place.invariant))
      | else-byte-eq46 w ↦
          let none : get_or text place 0 ≡ 46 → ⊥ = rw (← c.as_bytes-byte-items.ensures.value) w.if-byte-eq46.false in
          rw (none_there text place within none) (rw w.dots-is c.loop-place.invariant)
    ]
