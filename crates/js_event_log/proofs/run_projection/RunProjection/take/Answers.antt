use Rattle.std.proofs.Common.{◌≡◌, ◌∷◌, [], Ok, Err, sym, ap, ◌∙◌, subst}
use Rattle.std.specs.Prelude.{option_to_list}
use Rattle.js_event_log.specs.Projection.{last_sequence}
use Rattle.js_event_log.specs.ProjectionCauses.{HasCause}
use Rattle.js_event_log.specs.declared.projection.error.ApplyError.TheVariants.{NotRising}
use Rattle.js_event_log.specs.RunProjection.{yielded}
use Rattle.js_event_log.proofs.AppliedYields.{over_refused, over_other, over_yield, over_falling}
use Rattle.js_event_log.proofs.run_projection.RunProjection.take.Goals as goal

pub returns-in_default-clause-taken : goal.returns-in_default-clause-taken
returns-in_default-clause-taken c before same =
    c.in_default.is ∙ over_refused before c.args.output.now c.in_default.field-0 (sym c.in_default.is ∙ c.self.view_is ∙ same)

pub returns-in_default-2-clause-taken : goal.returns-in_default-2-clause-taken
returns-in_default-2-clause-taken c before same =
    let none : [] ≡ yielded (c.args.output.now ∷ []) = sym (ap option_to_list c.in_default-2.is) ∙ c.in_ok-entry.ensures in
    over_other before c.args.output.now (Ok c.in-Ok.projection) none (sym c.in-Ok.is ∙ c.self.view_is ∙ same)

pub returns-in-Ok-apply-clause-taken : goal.returns-in-Ok-apply-clause-taken
returns-in-Ok-apply-clause-taken c before same =
    let one : c.in-Some.entry ∷ [] ≡ yielded (c.args.output.now ∷ []) = sym (ap option_to_list c.in-Some.is) ∙ c.in_ok-entry.ensures in
    ap Ok c.in-Ok-apply.ensures.applied
    ∙ over_yield before c.args.output.now c.in-Ok.projection c.in-Some.entry one (sym c.in-Ok.is ∙ c.self.view_is ∙ same) c.in-Ok-apply.ensures.cause

pub returns-in-Err-NotRising-clause-taken : goal.returns-in-Err-NotRising-clause-taken
returns-in-Err-NotRising-clause-taken c before same =
    let one : c.in-Some.entry ∷ [] ≡ yielded (c.args.output.now ∷ []) = sym (ap option_to_list c.in-Some.is) ∙ c.in_ok-entry.ensures in
    let cause : HasCause (last_sequence c.in-Ok.projection) c.in-Some.entry.sequence (Err (NotRising c.in-Err-NotRising.last)) =
    subst (λ r. HasCause (last_sequence c.in-Ok.projection) c.in-Some.entry.sequence (Err r)) c.in-Err-NotRising.field-0-is c.in-Err-NotRising.ensures.cause in
    over_falling before c.args.output.now c.in-Ok.projection c.in-Some.entry c.in-Err-NotRising.last one (sym c.in-Ok.is ∙ c.self.view_is ∙ same) cause.0 cause.1
