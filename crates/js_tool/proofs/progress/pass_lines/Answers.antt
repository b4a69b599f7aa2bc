use Rattle.std.proofs.Common.{◌≡◌, ◌<◌, ◌+◌, ◌++◌, ◌∷◌, [], length, ◌∙◌, ap, subst, arith, ℕ, List}
use Rattle.js_tool_io.specs.Lines.{lines_of}
use Rattle.js_tool.specs.Progress.{PassesTo, event_error}
use Rattle.js_tool.proofs.LineErrors.{error_behind}
use Rattle.js_tool.proofs.LinesPassed.{passes_more}
use Rattle.js_tool.proofs.progress.pass_lines.Goals as goal

pub loop-rest-preserved : goal.loop-rest-preserved
loop-rest-preserved g c =
    let line = c.cut_line.result.0.now in
    let left = lines_of c.cut_line.result.1.now in
    let all = lines_of c.args.bytes.now in
    let cut : lines_of c.loop-rest.rest.now ≡ line ∷ left = c.cut_line.ensures.line in
    let before : PassesTo g.R.StepReport.tells c.args.form c.args.progress.now all c.loop-rest.progress ((line ∷ []) ++ left) =
    subst (λ (lines : List (List ℕ)). PassesTo g.R.StepReport.tells c.args.form c.args.progress.now all c.loop-rest.progress lines) cut c.loop-rest.invariant.passes in
    let next : c.pass_line.new.progress.replay.count ≡ c.loop-rest.progress.replay.count + 1 = c.in_ok-pass_line.ensures.counted in
    let shorter : length c.cut_line.result.1.now < length c.loop-rest.rest.now = c.cut_line.ensures.shorter in record {
      passes = passes_more _ g.R.StepReport.tells c.args.form c.args.progress.now c.loop-rest.progress c.pass_line.new.progress all (line ∷ []) left before c.in_ok-pass_line.ensures.lines;
      counted = omega (arith, next, shorter, c.loop-rest.invariant.counted);
      told = error_behind c.args.form all (line ∷ []) left (c.loop-rest.invariant.told ∙ ap (event_error c.args.form) cut) c.in_ok-pass_line.ensures.told;
    }
