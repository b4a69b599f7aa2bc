use Rattle.std.proofs.Common.{Err, ap}
use Rattle.js_tool_event_log.specs.SessionInput.{sessions}
use Rattle.js_tool.proofs.Called.{of_source}
use Rattle.js_tool_event_log.specs.Sessions.{report_of, Joins}
use Rattle.js_tool_event_log.specs.Answer.{IsFirstUnread}
use Rattle.js_tool_event_log.proofs.Answered.{bytes_answered, first_unread, source_answers, source_long}
use Rattle.js_tool_event_log.proofs.answer.answer_sessions.Goals as goal

pub returns-in-Ok-clause-answers : goal.returns-in-Ok-clause-answers
returns-in-Ok-clause-answers g c =
    let of = report_of c.args.next in
    let more = Joins c.args.next in
    source_answers sessions of more _ _ _ _ (g.S.Source.left c.args.input.now) (g.S.Source.left c.read_all.new.input) c.in-Ok.bytes c.write_report.result
    c.in-Ok.ensures.whole c.in-Ok.ensures.at_end
    (bytes_answered sessions of more _ _ _ _ c.in-Ok.bytes c.report_on_sessions.result c.write_report.result c.in-Ok.ensures.within c.report_on_sessions.ensures c.write_report.ensures.writes)

pub returns-in-Ok-clause-bad_line : goal.returns-in-Ok-clause-bad_line
returns-in-Ok-clause-bad_line g c = λ line is.
    let of = report_of c.args.next in
    let more = Joins c.args.next in
    of_source (g.S.Source.left c.args.input.now) c.in-Ok.bytes (λ bytes. IsFirstUnread sessions bytes line) c.in-Ok.ensures.whole
    (record { within = c.in-Ok.ensures.within; by = first_unread sessions of more c.in-Ok.bytes c.report_on_sessions.result line c.report_on_sessions.ensures (c.write_report.ensures.bad_line line is) })

pub returns-in-Err-TooLong-clause-answers : goal.returns-in-Err-TooLong-clause-answers
returns-in-Err-TooLong-clause-answers g c =
    source_long sessions (report_of c.args.next) (Joins c.args.next) _ _ _ _ (g.S.Source.left c.args.input.now) _ (c.in-Err-TooLong.ensures.too_long (ap Err c.in-Err-TooLong.field-0-is))
