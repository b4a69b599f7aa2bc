use Rattle.std.proofs.Common.{None}
use Rattle.std.specs.Prelude.{Ok}
use Rattle.js_ordered_stream.specs.declared.remaining_rows.Seen.{Seen}
use Rattle.js_ordered_stream.specs.declared.remaining_rows.Seen.TheVariants as sight
use Rattle.js_ordered_stream.specs.Rows.{kept_if}
use Rattle.js_ordered_table.specs.Passes.{input_of}
use Rattle.js_ordered_table.specs.declared.row.Row.TheVariants as row
use Rattle.js_ordered_stream.proofs.KeptSeen.{seen_kept}
use Rattle.js_ordered_stream.proofs.PushRows.{heard_alone}
use Rattle.js_ordered_stream.proofs.push_rows.hear.Goals as goal

pub returns-clause-passes : goal.returns-clause-passes
returns-clause-passes g c =
    let old = g.L.Link.view c.args.link.now in
    let new = g.L.Link.view c.hear_message.new.link in
    let given = input_of c.args.context.now in
    let now = c.args.context.now.moment in
    let message = c.in-Message.message in
    let done = c.in_ok-done.done in
    let seen : Seen = sight.Message None message in
    heard_alone given now c.args.inbox c.args.seen.now (kept_if done.looked seen) c.in-Message.unheard message c.args.consumer.now c.hear_message.new.consumer (Ok done) old new
    c.in-Message.is c.requires
    (seen_kept given now (row.Hear (record { inbox = c.args.inbox; message = message })) c.args.consumer.now c.hear_message.new.consumer old new seen done c.in_ok-done.ensures)
