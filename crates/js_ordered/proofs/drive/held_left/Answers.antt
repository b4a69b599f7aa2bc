use Rattle.std.proofs.Common.{◌≡◌, ◌++◌, ◌+◌, List, ap, arith, length, subst, sym, ◌∙◌}
use Rattle.js_base.specs.declared.message.Message.{Message}
use Rattle.js_ordered.specs.Drive.{first_held}
use Rattle.js_ordered_table.specs.Tasks.{hearings_of}
use Rattle.js_ordered_table.specs.declared.transitions.task.Held.{Held}
use Rattle.js_ordered.proofs.DrivenRows.{held_goes_on, held_ends}
use Rattle.js_ordered.proofs.drive.held_left.Goals as goal

pub returns-then-deref-as_slice : goal.returns-then-deref-as_slice
returns-then-deref-as_slice c = λ m.
    let held = c.args.held.value in
    let place = ap (λ (x : Held). x.place) c.deref.ensures in
    let same = ap (λ (ms : List Message). length ms) c.as_slice.ensures ∙ ap (λ (x : Held). length x.messages) c.deref-2.ensures in
    subst (λ (x : Held). hearings_of held ≡ first_held held ++ hearings_of (record { inbox = x.inbox; messages = x.messages; place = x.place + 1 })) (sym c.deref_mut.ensures.value)
    (held_goes_on held.inbox held.messages held.place (omega (arith, c.if-deref-as_slice.true, place, same)))

pub returns : goal.returns
returns c = λ m.
    let held = c.args.held.value in
    let place = ap (λ (x : Held). x.place) c.deref.ensures in
    let same = ap (λ (ms : List Message). length ms) c.as_slice.ensures ∙ ap (λ (x : Held). length x.messages) c.deref-2.ensures in
    held_ends held.inbox held.messages held.place (omega (arith, c.if-deref-as_slice.false, place, same))
