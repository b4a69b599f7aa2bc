use Rattle.std.proofs.Common.{Err, ap}
use Rattle.js_tool.specs.LogCommand.{wanted}
use Rattle.js_tool_transcript.specs.TranscriptReplay.{FirstUnread}
use Rattle.js_tool_transcript.specs.Transcript.{transcript}
use Rattle.js_tool.proofs.Called.{of_source}
use Rattle.js_tool_event_log.specs.Report.{report_of}
use Rattle.js_tool_event_log.specs.Relay.{ServesOf}
use Rattle.js_tool_event_log.proofs.Answered.{bytes_answered, first_unread, source_answers, source_long}
use Rattle.js_tool_event_log.proofs.answer.answer_log.Goals as goal

pub returns-in-Ok-clause-answers : goal.returns-in-Ok-clause-answers
returns-in-Ok-clause-answers g c =
    let of = report_of (wanted c.args.command) in
    let more = ServesOf (wanted c.args.command) in
    source_answers transcript of more _ _ _ _ (g.S.Source.left c.args.input.now) (g.S.Source.left c.read_all.new.input) c.in-Ok.bytes c.write_report.result
    c.in-Ok.ensures.whole c.in-Ok.ensures.at_end
    (bytes_answered transcript of more _ _ _ _ c.in-Ok.bytes c.report_on.result c.write_report.result c.in-Ok.ensures.within c.report_on.ensures c.write_report.ensures.writes)

pub returns-in-Ok-clause-bad_line : goal.returns-in-Ok-clause-bad_line
returns-in-Ok-clause-bad_line g c = λ line is.
    let of = report_of (wanted c.args.command) in
    let more = ServesOf (wanted c.args.command) in
    of_source (g.S.Source.left c.args.input.now) c.in-Ok.bytes (λ bytes. FirstUnread bytes line) c.in-Ok.ensures.whole
    (record { within = c.in-Ok.ensures.within; by = first_unread transcript of more c.in-Ok.bytes c.report_on.result line c.report_on.ensures (c.write_report.ensures.bad_line line is) })

pub returns-in-Err-TooLong-clause-answers : goal.returns-in-Err-TooLong-clause-answers
returns-in-Err-TooLong-clause-answers g c =
    source_long transcript (report_of (wanted c.args.command)) (ServesOf (wanted c.args.command)) _ _ _ _ (g.S.Source.left c.args.input.now) _ (c.in-Err-TooLong.ensures.too_long (ap Err c.in-Err-TooLong.field-0-is))
