use Rattle.std.proofs.Common.{◌≡◌, ◌++◌, ◌∷◌, ◌∙◌, ap, sym, subst, ℕ, List}
use Rattle.js_tool_io.specs.Lines.{lines_of}
use Rattle.js_tool.specs.Progress.{TellsOutcome, line_error}
use Rattle.js_tool.proofs.LinesPassed.{result_to}
use Rattle.js_tool_transcript.proofs.LinesRead.{of_lines_in}
use Rattle.js_tool.proofs.progress.replay_lines.Goals as goal

pub returns-clause-outcome : goal.returns-clause-outcome
returns-clause-outcome g c =
    let left = lines_of c.next_piece.new.bytes in
    let line = c.cut_line.result.0.now in
    let rest = lines_of c.cut_line.result.1.now in
    let cut : lines_of c.args.bytes ≡ line ∷ (rest ++ left) =
    c.in-Some.ensures.lines ∙ ap (λ (piece : List ℕ). lines_of piece ++ left) (sym c.deref.ensures.value) ∙ ap (λ (lines : List (List ℕ)). lines ++ left) c.cut_line.ensures.line in
    result_to _ g.R.StepReport.tells _ c.args.bytes c.replay_rest-outcome.result _ c.requires (of_lines_in c.args.form c.args.bytes line (rest ++ left) cut) (c.replay_rest-outcome.ensures.outcome line c.read_setup-first.ensures.setup)

pub returns-clause-told : goal.returns-clause-told
returns-clause-told g c = λ none.
    let left = lines_of c.next_piece.new.bytes in
    let line = c.cut_line.result.0.now in
    let rest = lines_of c.cut_line.result.1.now in
    let cut : lines_of c.args.bytes ≡ line ∷ (rest ++ left) =
    c.in-Some.ensures.lines ∙ ap (λ (piece : List ℕ). lines_of piece ++ left) (sym c.deref.ensures.value) ∙ ap (λ (lines : List (List ℕ)). lines ++ left) c.cut_line.ensures.line in
    subst (λ (lines : List (List ℕ)). TellsOutcome (line_error c.args.form lines) c.replay_rest-outcome.new.error c.replay_rest-outcome.result) (sym cut) (c.replay_rest-outcome.ensures.told line c.read_setup-first.ensures.told)
