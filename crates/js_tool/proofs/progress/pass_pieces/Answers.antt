use Rattle.std.proofs.Common.{◌≡◌, ◌≤◌, ◌+◌, ◌++◌, length, refl, ◌∙◌, ap, sym, subst, arith, ℕ, List}
use Rattle.js_tool_io.specs.Lines.{lines_of}
use Rattle.js_tool.specs.Progress.{PassesTo, event_error}
use Rattle.js_tool.proofs.LineErrors.{error_behind, error_in_front}
use Rattle.js_tool.proofs.LinesPassed.{passes_none, passes_more, stops_more}
use Rattle.js_tool.proofs.progress.pass_pieces.Goals as goal

pub returns-in-Err-clause-lines : goal.returns-in-Err-clause-lines
returns-in-Err-clause-lines g c =
    stops_more _ g.R.StepReport.tells c.args.form c.args.progress.now c.args.progress.now _ (lines_of c.args.piece.now) (lines_of c.args.bytes.now) c.in-Err.unread (passes_none _ g.R.StepReport.tells c.args.form c.args.progress.now (lines_of c.args.piece.now ++ lines_of c.args.bytes.now)) c.in-Err.ensures.lines

pub returns-in-Err-clause-told : goal.returns-in-Err-clause-told
returns-in-Err-clause-told g c =
    error_in_front (Unit {0}) (Unit {0}) c.args.form (lines_of c.args.piece.now ++ lines_of c.args.bytes.now) (lines_of c.args.piece.now) (lines_of c.args.bytes.now) c.pass_lines.new.progress.error c.in-Err.unread refl c.in-Err.ensures.told

pub loop-piece-preserved : goal.loop-piece-preserved
loop-piece-preserved g c =
    let left = lines_of c.next_piece.new.bytes in
    let cut : lines_of c.loop-piece.bytes ≡ lines_of c.deref.result.now ++ left = c.in-Some.ensures.lines ∙ ap (λ (piece : List ℕ). lines_of piece ++ left) (sym c.deref.ensures.value) in
    let all = lines_of c.args.piece.now ++ lines_of c.args.bytes.now in
    let before : PassesTo g.R.StepReport.tells c.args.form c.args.progress.now all c.loop-piece.progress (lines_of c.deref.result.now ++ left) =
    subst (λ (lines : List (List ℕ)). PassesTo g.R.StepReport.tells c.args.form c.args.progress.now all c.loop-piece.progress lines) cut c.loop-piece.invariant.passes in
    let next : c.pass_lines-passed.new.progress.replay.count ≤ c.loop-piece.progress.replay.count + length c.deref.result.now = c.in-Ok-passed.ensures.counted in
    let whole : length c.loop-piece.bytes ≡ length c.in-Some.piece.items + length c.next_piece.new.bytes = c.in-Some.ensures.length in
    let same : length c.deref.result.now ≡ length c.in-Some.piece.items = ap length c.deref.ensures.value in record {
      passes = passes_more _ g.R.StepReport.tells c.args.form c.args.progress.now c.loop-piece.progress c.pass_lines-passed.new.progress all (lines_of c.deref.result.now) left before c.in-Ok-passed.ensures.lines;
      told = error_behind c.args.form all (lines_of c.deref.result.now) left (c.loop-piece.invariant.told ∙ ap (event_error c.args.form) cut) c.in-Ok-passed.ensures.told;
      counted = omega (arith, next, whole, same, c.loop-piece.invariant.counted);
    }

pub loop-piece-init : goal.loop-piece-init
loop-piece-init g c =
    let all = lines_of c.args.piece.now ++ lines_of c.args.bytes.now in
    let passed : c.pass_lines.new.progress.replay.count ≤ c.args.progress.now.replay.count + length c.args.piece.now = c.in-Ok.ensures.counted in record {
      passes = passes_more _ g.R.StepReport.tells c.args.form c.args.progress.now c.args.progress.now c.pass_lines.new.progress all (lines_of c.args.piece.now) (lines_of c.args.bytes.now) (passes_none _ g.R.StepReport.tells c.args.form c.args.progress.now all) c.in-Ok.ensures.lines;
      counted = omega (arith, passed, c.requires);
      told = error_behind c.args.form all (lines_of c.args.piece.now) (lines_of c.args.bytes.now) refl c.in-Ok.ensures.told;
    }

pub returns-in-Err-passed-clause-told : goal.returns-in-Err-passed-clause-told
returns-in-Err-passed-clause-told g c =
    let left = lines_of c.next_piece.new.bytes in
    let cut : lines_of c.loop-piece.bytes ≡ lines_of c.deref.result.now ++ left = c.in-Some.ensures.lines ∙ ap (λ (piece : List ℕ). lines_of piece ++ left) (sym c.deref.ensures.value) in
    error_in_front (Unit {0}) (Unit {0}) c.args.form (lines_of c.args.piece.now ++ lines_of c.args.bytes.now) (lines_of c.deref.result.now) left c.pass_lines-passed.new.progress.error c.in-Err-passed.unread
    (c.loop-piece.invariant.told ∙ ap (event_error c.args.form) cut) c.in-Err-passed.ensures.told
