use Rattle.std.proofs.Common.{refl}
use Rattle.js_ordered_table.specs.declared.transitions.task.Heard.TheVariants as hears
use Rattle.js_ordered_stream.proofs.PassedRows.{meets_as}
use Rattle.js_ordered_stream.proofs.PushRows.{unanswered}
use Rattle.js_ordered_stream.proofs.push_rows.answer.Goals as goal

pub returns-in-Yields-clause-heard : goal.returns-in-Yields-clause-heard
returns-in-Yields-clause-heard g c =
    let heard = c.heard_as-heard.ensures in
    (heard, unanswered c.args.number c.args.message.now c.args.stalled c.heard_as-heard.result (hears.Yields c.in-Yields.field-0) (g.L.Link.view c.args.link.now) c.in-Yields.is refl heard)

pub returns-clause-heard : goal.returns-clause-heard
returns-clause-heard g c =
    let view = g.L.Link.view in
    let met = c.in_ok-met.met in
    let heard = c.heard_as-heard.ensures in
    (heard, (met, meets_as _ _ met (view c.args.link.now) (view c.ask_for.new.link) (c.in_ok-wish.ensures c.args.number heard) c.in_ok-met.ensures.met))
