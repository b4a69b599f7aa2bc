use Rattle.std.proofs.Common.{◌≡◌, ◌∷◌, [], ℕ, List, refl, sym, ap, ◌∙◌}
use Rattle.js_tool_io.specs.Lines.{lines_of}
use Rattle.js_tool_event_log.specs.declared.sessions.reader.Reader.{Reader}
use Rattle.js_tool_event_log.specs.SessionProgress.{rest_of}
use Rattle.js_tool_event_log.specs.SessionInput.{sessions}
use Rattle.js_tool_event_log.proofs.SessionsReported.{no_line, first_stops, with_setup}
use Rattle.js_tool_event_log.proofs.SessionRuns.{reports_same, joined_result}
use Rattle.js_tool_event_log.proofs.sessions.report.sessions_report.Goals as goal

pub returns-then-not-read-clause-report : goal.returns-then-not-read-clause-report
returns-then-not-read-clause-report c = no_line c.args.bytes (sym c.new-lines.ensures.lines ∙ c.if-not-read.ensures)

pub returns-in-Err-clause-report : goal.returns-in-Err-clause-report
returns-in-Err-clause-report c =
    let left = c.read.new.self.left in
    let cut : lines_of c.args.bytes ≡ c.line.result.now ∷ left =
    sym c.new-lines.ensures.lines ∙ c.if-not-read.ensures ∙ ap (λ (line : List ℕ). line ∷ left) (sym c.line.ensures) in
    first_stops c.args.bytes c.line.result.now left c.in-Err.unread cut c.in-Err.ensures

pub returns-clause-report : goal.returns-clause-report
returns-clause-report c =
    let reader : Reader = record { lines = c.read.new.self; number = 1; payloads = c.new.result } in
    let cut : lines_of c.args.bytes ≡ c.line.result.now ∷ reader.lines.left =
    sym c.new-lines.ensures.lines ∙ c.if-not-read.ensures ∙ ap (λ (line : List ℕ). line ∷ reader.lines.left) (sym c.line.ensures) in
    reports_same c.args.next (sessions c.args.bytes) (rest_of [] c.in-Ok.setup [] reader) c.run_all-report.result
    (with_setup c.args.bytes c.line.result.now c.in-Ok.setup reader cut c.in-Ok.ensures refl) c.run_all-report.ensures

pub returns-clause-joined : goal.returns-clause-joined
returns-clause-joined c = joined_result c.args.next (sessions c.args.bytes) c.run_all-report.result (returns-clause-report c)
