use Rattle.std.proofs.Common.{None, sym, ap}
use Rattle.js_pull.specs.Rows.{brought}
use Rattle.js_ordered_stream.specs.declared.remaining_rows.Seen.{Seen}
use Rattle.js_ordered_stream.specs.Rows.{answer_in}
use Rattle.js_ordered_stream.proofs.ReaderRows.{informed_as}
use Rattle.js_ordered_stream.proofs.pull_rows.finding_of.Goals as goal

pub returns-in-Reply : goal.returns-in-Reply
returns-in-Reply c =
    informed_as c.args.due c.in-Reply.reply.message (brought (answer_in c.args.seen.now)) c.informed_of.result (sym (ap (λ (s : Seen). brought (answer_in s)) c.in-Reply.is)) c.informed_of.ensures

pub returns-in-Nothing : goal.returns-in-Nothing
returns-in-Nothing c =
    informed_as c.args.due None (brought (answer_in c.args.seen.now)) c.finding_without_reply.result (sym (ap (λ (s : Seen). brought (answer_in s)) c.in-Nothing.is)) c.finding_without_reply.ensures

pub returns-in-Message : goal.returns-in-Message
returns-in-Message c =
    informed_as c.args.due None (brought (answer_in c.args.seen.now)) c.finding_without_reply-in-Message.result (sym (ap (λ (s : Seen). brought (answer_in s)) c.in-Message.is)) c.finding_without_reply-in-Message.ensures
