use Rattle.std.proofs.Common.{◌≡◌, Some, None, map, sym, ap, ◌∙◌}
use Rattle.std.specs.Prelude.{string_bytes}
use Rattle.js_tool.specs.LogCommand.{Project, Mirror, Relay, bookmark, sessions_bookmark, wanted, wanted_of, wanted_of_log}
use Rattle.js_tool_event_log.proofs.Answered.{answers_asked, sessions_asked}
use Rattle.js_tool_event_log.proofs.JoinedSessions.{sessions_told}
use Rattle.js_tool_event_log.proofs.ValidNames.{names_of}
use Rattle.js_tool_event_log.proofs.LogsShown.{table_told, mirror_told, relay_told}
use Rattle.js_tool_event_log.proofs.program.run_plain.Goals as goal

pub answer_log-requires : goal.answer_log-requires
answer_log-requires g c =
    let is : Some (wanted c.in-Some-Log.command) ≡ wanted_of (map string_bytes c.args.words.now) = ap wanted_of_log (sym c.in-Some-Log.field-0-is) ∙ c.in-Some-Log.ensures.log in
    names_of (map string_bytes c.args.words.now) (wanted c.in-Some-Log.command) is

pub returns-in-Some-Log-clause-logs : goal.returns-in-Some-Log-clause-logs
returns-in-Some-Log-clause-logs g c = λ command named.
    let is : Some (wanted c.in-Some-Log.command) ≡ wanted_of (map string_bytes c.args.words.now) = ap wanted_of_log (sym c.in-Some-Log.field-0-is) ∙ c.in-Some-Log.ensures.log in
    answers_asked _ _ _ _ _ _ c.answer_log.result (wanted c.in-Some-Log.command) command (wanted_of (map string_bytes c.args.words.now)) is c.answer_log.ensures.answers named

pub returns-in-Some-Log-clause-logs_table : goal.returns-in-Some-Log-clause-logs_table
returns-in-Some-Log-clause-logs_table g c = λ filter named done.
    let is : Some (wanted c.in-Some-Log.command) ≡ wanted_of (map string_bytes c.args.words.now) = ap wanted_of_log (sym c.in-Some-Log.field-0-is) ∙ c.in-Some-Log.ensures.log in
    table_told filter (g.S.Source.left c.args.input.now) _ _ _ _ _ c.answer_log.result
    (answers_asked _ _ _ _ _ _ c.answer_log.result (wanted c.in-Some-Log.command) (Project filter None) (wanted_of (map string_bytes c.args.words.now)) is c.answer_log.ensures.answers named) done

pub returns-in-Some-Log-clause-logs_mirror : goal.returns-in-Some-Log-clause-logs_mirror
returns-in-Some-Log-clause-logs_mirror g c = λ named done.
    let is : Some (wanted c.in-Some-Log.command) ≡ wanted_of (map string_bytes c.args.words.now) = ap wanted_of_log (sym c.in-Some-Log.field-0-is) ∙ c.in-Some-Log.ensures.log in
    mirror_told (g.S.Source.left c.args.input.now) _ _ _ _ _ c.answer_log.result
    (answers_asked _ _ _ _ _ _ c.answer_log.result (wanted c.in-Some-Log.command) Mirror (wanted_of (map string_bytes c.args.words.now)) is c.answer_log.ensures.answers named) done

pub returns-in-Some-Log-clause-logs_relay : goal.returns-in-Some-Log-clause-logs_relay
returns-in-Some-Log-clause-logs_relay g c = λ stream name named done.
    let is : Some (wanted c.in-Some-Log.command) ≡ wanted_of (map string_bytes c.args.words.now) = ap wanted_of_log (sym c.in-Some-Log.field-0-is) ∙ c.in-Some-Log.ensures.log in
    relay_told stream name (g.S.Source.left c.args.input.now) _ _ _ _ _ c.answer_log.result
    (answers_asked _ _ _ _ _ _ c.answer_log.result (wanted c.in-Some-Log.command) (Relay stream name) (wanted_of (map string_bytes c.args.words.now)) is c.answer_log.ensures.answers named) done

pub returns-in-Some-Sessions-clause-sessions : goal.returns-in-Some-Sessions-clause-sessions
returns-in-Some-Sessions-clause-sessions g c = λ next named.
    let is : Some c.in-Some-Sessions.next ≡ sessions_bookmark (map string_bytes c.args.words.now) = ap bookmark (sym c.in-Some-Sessions.field-0-is) ∙ c.in-Some-Sessions.ensures.sessions in
    sessions_asked _ _ _ _ _ _ c.answer_sessions.result c.in-Some-Sessions.next next (sessions_bookmark (map string_bytes c.args.words.now)) is c.answer_sessions.ensures.answers named

pub returns-in-Some-Sessions-clause-logs_sessions : goal.returns-in-Some-Sessions-clause-logs_sessions
returns-in-Some-Sessions-clause-logs_sessions g c = λ next named done.
    let is : Some c.in-Some-Sessions.next ≡ sessions_bookmark (map string_bytes c.args.words.now) = ap bookmark (sym c.in-Some-Sessions.field-0-is) ∙ c.in-Some-Sessions.ensures.sessions in
    sessions_told next (g.S.Source.left c.args.input.now) _ _ _ _ _ c.answer_sessions.result
    (sessions_asked _ _ _ _ _ _ c.answer_sessions.result c.in-Some-Sessions.next next (sessions_bookmark (map string_bytes c.args.words.now)) is c.answer_sessions.ensures.answers named) done
