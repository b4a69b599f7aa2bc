use Rattle.std.proofs.Common.{sym, ◌∙◌}
use Rattle.js_ordered_table.specs.Passes.{input_of}
use Rattle.js_ordered_stream.proofs.Elsewhere.{unheard_passes}
use Rattle.js_ordered_stream.proofs.PushRows.{hear_passes}
use Rattle.js_ordered_stream.proofs.push_rows.hear_message.Goals as goal

pub returns : goal.returns
returns g c =
    let view = g.L.Link.view in
    hear_passes (input_of c.args.context.now) c.args.context.now.moment (record { inbox = c.args.inbox; message = c.args.message.now }) c.in_ok-heard.heard c.args.consumer.now c.pass_hear.new.consumer c.handed_heard.result c.pass_hear.result
    (view c.args.link.now) (view c.answer.new.link) (sym c.listens.ensures ∙ c.if-not-listens.false) c.in_ok-heard.ensures.heard.0 c.pass_hear.ensures c.handed_heard.ensures c.in_ok-heard.ensures.heard.1

pub returns-then-not-listens : goal.returns-then-not-listens
returns-then-not-listens g c =
    unheard_passes (input_of c.args.context.now) c.args.context.now.moment (record { inbox = c.args.inbox; message = c.args.message.now }) c.args.consumer.now (g.L.Link.view c.args.link.now) (sym c.listens.ensures ∙ c.if-not-listens.true)
