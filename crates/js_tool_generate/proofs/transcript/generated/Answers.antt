use Rattle.std.proofs.Common.{◌∙◌, sym, subst, List}
use Rattle.js_ordered_table.specs.declared.event.Event.{Event}
use Rattle.js_ordered_table.specs.Replay.{IsValid}
use Rattle.js_tool_generate.specs.Transcript.{replay_input}
use Rattle.js_tool_generate.specs.Summary.{YieldsItsLast}
use Rattle.js_tool_generate.specs.Server.{IsServed}
use Rattle.js_tool_generate.proofs.WholeRun.{valid, served, yields_last}
use Rattle.js_tool_generate.proofs.transcript.generated.Goals as goal

pub returns-clause-valid : goal.returns-clause-valid
returns-clause-valid c =
    subst (λ (es : List Event). IsValid replay_input 0 es) (c.in_ok-events.ensures ∙ sym c.truncate.ensures.items) (valid c.args.seed c.args.count c.requires)

pub returns-clause-served : goal.returns-clause-served
returns-clause-served c =
    subst (λ (es : List Event). IsServed c.args.seed c.args.count es) (c.in_ok-events.ensures ∙ sym c.truncate.ensures.items) (served c.args.seed c.args.count c.requires)

pub returns-clause-counted : goal.returns-clause-counted
returns-clause-counted c =
    subst (λ (es : List Event). YieldsItsLast es) (c.in_ok-events.ensures ∙ sym c.truncate.ensures.items) (yields_last c.args.seed c.args.count c.requires)
