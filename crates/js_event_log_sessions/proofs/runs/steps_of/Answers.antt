use Rattle.std.proofs.Common.{List, ◌∙◌, subst, take, arith}
use Rattle.js_event_log_sessions.specs.declared.session.Line.{Line}
use Rattle.js_event_log_sessions.specs.SessionReplay.{HasStepped, with_lines}
use Rattle.js_event_log_sessions.proofs.AllSessions.{front_more, steps_none}
use Rattle.js_event_log_sessions.proofs.runs.steps_of.Goals as goal

pub loop-line-init : goal.loop-line-init
loop-line-init c = λ next done s come. record { come = come; so_far = c.new-steps.ensures ∙ steps_none s }

pub loop-line-preserved : goal.loop-line-preserved
loop-line-preserved c = λ next done s come.
    let i = c.loop-line.line-index in
    let lines = c.args.lines.now in
    subst (λ (some : List Line). HasStepped next done (with_lines s some) c.pass_line.new.replay c.pass_line.new.steps) (front_more lines i c.line-item.result (omega arith) c.line-item.is)
    (c.in_ok-pass_line.ensures next done (with_lines s (take i lines)) (c.loop-line.invariant next done s come))
