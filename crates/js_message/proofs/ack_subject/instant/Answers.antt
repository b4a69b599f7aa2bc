use Rattle.std.proofs.Common.{ap, ◌∙◌, sym, refl}
use Rattle.std.specs.Prelude.{FitsSigned, Ok}
use mir.Syntax.{w128}
use Rattle.std.proofs.lemmas.Int.{to_z-of_z}
use Rattle.std.proofs.lemmas.Bool.{false≢true}
use Rattle.js_message.proofs.HeldInstants.{instant-held, instant-refused}
use Rattle.js_message.proofs.ack_subject.instant.Goals as goal

pub returns-in-Ok : goal.returns-in-Ok
returns-in-Ok c =
    let fits : FitsSigned w128 c.args.nanoseconds = c.ranges.nanoseconds in
    let value = simp to_z-of_z at c.in-Ok.ensures.value in
    let held = simp to_z-of_z at (c.in-Ok.ensures.succeeds.0 refl) in
    ap Ok value ∙ sym (instant-held c.args.nanoseconds held)

pub returns-in-Err : goal.returns-in-Err
returns-in-Err c =
    let fits : FitsSigned w128 c.args.nanoseconds = c.ranges.nanoseconds in
    let held = simp to_z-of_z at (c.in-Err.ensures.succeeds.1) in
    sym (instant-refused c.args.nanoseconds (λ h. false≢true (held h)))
