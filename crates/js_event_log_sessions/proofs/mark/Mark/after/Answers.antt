use Rattle.std.proofs.Common.{◌++◌, take, ap, ◌∙◌, arith}
use Rattle.js_ordered_table.specs.Gapless.{yields}
use Rattle.js_event_log_sessions.specs.SessionReplay.{mark_of}
use Rattle.js_event_log_sessions.proofs.BookmarkPlaces.{taken_more}
use Rattle.js_event_log_sessions.proofs.mark.Mark.after.Goals as goal

pub loop-output-preserved : goal.loop-output-preserved
loop-output-preserved c = λ next entries is.
    let i = c.loop-output.output-index in
    let outputs = c.args.outputs.now in
    c.in_ok-mark.ensures next (entries ++ yields (take i outputs)) (c.loop-output.invariant next entries is)
    ∙ ap (mark_of next) (taken_more entries outputs i c.output-item.result (omega arith) c.output-item.is)
