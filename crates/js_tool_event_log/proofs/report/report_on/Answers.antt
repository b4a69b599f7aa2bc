use Rattle.std.proofs.Common.{◌≡◌, ◌∷◌, ◌++◌, ℕ, List, sym, ap, subst, ◌∙◌}
use Rattle.std.specs.Prelude.{Result, Ok}
use Rattle.js_tool_io.specs.Lines.{lines_of}
use Rattle.js_ordered_table.specs.Texts.{configured_start}
use Rattle.js_tool_transcript.specs.declared.transcript.Transcript.{Transcript}
use Rattle.js_tool_transcript.specs.Transcript.{StopsAt, transcript, with_lines}
use Rattle.js_tool_transcript.proofs.LinesRead.{with_setup}
use Rattle.js_tool.specs.LogCommand.{wanted}
use Rattle.js_tool_event_log.specs.declared.replay_entries.Ending.{Ending}
use Rattle.js_tool_event_log.specs.Report.{report_from, report_of}
use Rattle.js_tool_event_log.specs.Relay.{ServesFrom}
use Rattle.js_tool_event_log.proofs.LogsShown.{serves_read}
use Rattle.js_tool_event_log.proofs.YieldsPassed.{first_stops}
use Rattle.js_tool_event_log.proofs.report.report_on.Goals as goal

pub returns-in-Err : goal.returns-in-Err
returns-in-Err c =
    let line = c.cut_line.result.0.now in
    let left = lines_of c.cut_line.result.1.now ++ lines_of c.next_piece.new.bytes in
    let cut : lines_of c.args.bytes ≡ line ∷ left =
    c.in-Some.ensures.lines ∙ ap (λ (piece : List ℕ). lines_of piece ++ lines_of c.next_piece.new.bytes) (sym c.deref.ensures.value)
    ∙ ap (λ (lines : List (List ℕ)). lines ++ lines_of c.next_piece.new.bytes) c.cut_line.ensures.line in
    first_stops c.args.bytes line left c.in-Err.unread cut c.in-Err.ensures

pub returns-in-Err-yields_read : goal.returns-in-Err-yields_read
returns-in-Err-yields_read c =
    let line = c.cut_line.result.0.now in
    let left = lines_of c.cut_line.result.1.now ++ lines_of c.next_piece.new.bytes in
    let cut : lines_of c.args.bytes ≡ line ∷ left =
    c.in-Some.ensures.lines ∙ ap (λ (piece : List ℕ). lines_of piece ++ lines_of c.next_piece.new.bytes) (sym c.deref.ensures.value)
    ∙ ap (λ (lines : List (List ℕ)). lines ++ lines_of c.next_piece.new.bytes) c.cut_line.ensures.line in
    let read : transcript c.args.bytes ≡ with_lines c.in-Ok.setup left = with_setup c.args.bytes line left c.in-Ok.setup cut c.in-Ok.ensures in
    subst (λ (reading : Result Transcript ℕ). StopsAt c.in-Err-yields_read.unread reading) (sym read) c.in-Err-yields_read.ensures

pub returns-in-Ok-report : goal.returns-in-Ok-report
returns-in-Ok-report c =
    let line = c.cut_line.result.0.now in
    let left = lines_of c.cut_line.result.1.now ++ lines_of c.next_piece.new.bytes in
    let cut : lines_of c.args.bytes ≡ line ∷ left =
    c.in-Some.ensures.lines ∙ ap (λ (piece : List ℕ). lines_of piece ++ lines_of c.next_piece.new.bytes) (sym c.deref.ensures.value)
    ∙ ap (λ (lines : List (List ℕ)). lines ++ lines_of c.next_piece.new.bytes) c.cut_line.ensures.line in
    let read : transcript c.args.bytes ≡ with_lines c.in-Ok.setup left = with_setup c.args.bytes line left c.in-Ok.setup cut c.in-Ok.ensures in
    let yields_read = c.in-Ok-yields_read.ensures in
    let t : Transcript = record { setup = c.in-Ok.setup; events = yields_read.0 } in
    let start = configured_start c.in-Ok.setup.setup in
    let made = c.in-Ok-report.ensures in
    let reads : transcript c.args.bytes ≡ Ok t = read ∙ yields_read.1 in
    let says : c.in-Ok-report.report ≡ report_of (wanted c.args.command) t = made.report ∙ ap (report_from (wanted c.args.command) c.in-Ok.setup.setup start) yields_read.2 in (
      t,
      reads,
      says,
      serves_read (wanted c.args.command) c.args.bytes t c.in-Ok-report.report reads says
          (subst (λ (end : Ending). ServesFrom (wanted c.args.command) c.in-Ok.setup.setup start end c.in-Ok-report.report) yields_read.2 made.serves),
    )
