use Rattle.std.specs.Prelude.{Ok}
use Rattle.std.proofs.Common.{subst}
use Rattle.js_tool_event_log.specs.declared.sessions.report.Stage.{Stage}
use Rattle.js_tool_event_log.specs.SessionProgress.{RunsOn}
use Rattle.js_tool_event_log.proofs.SessionRuns.{run_last, run_refused}
use Rattle.js_tool_event_log.proofs.sessions.report.run_all.Goals as goal

pub returns-in-Ok : goal.returns-in-Ok
returns-in-Ok c =
    run_last c.args.next c.args.first c.args.reader.now c.loop-so_far.ended c.in-Ok-Last.all c.loop-so_far.setup c.loop-so_far.reader c.run_session-stage.new.reader c.in-Ok.report c.loop-so_far.invariant.run
    (subst (λ (s : Stage). RunsOn c.loop-so_far.ended c.loop-so_far.setup c.loop-so_far.reader c.run_session-stage.new.reader (Ok s)) c.in-Ok-Last.field-0-is c.in-Ok-Last.ensures.stage) c.in-Ok.ensures

pub returns-in-Ok-Refused : goal.returns-in-Ok-Refused
returns-in-Ok-Refused c =
    run_refused c.args.next c.args.first c.args.reader.now c.loop-so_far.ended c.loop-so_far.setup c.loop-so_far.reader c.run_session-stage.new.reader c.in-Ok-Refused.refusal c.refused.result
    c.loop-so_far.invariant.run
    (subst (λ (s : Stage). RunsOn c.loop-so_far.ended c.loop-so_far.setup c.loop-so_far.reader c.run_session-stage.new.reader (Ok s)) c.in-Ok-Refused.field-0-is c.in-Ok-Refused.ensures.stage)
    c.refused.ensures
