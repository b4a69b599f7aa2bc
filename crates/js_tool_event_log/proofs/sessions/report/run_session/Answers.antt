use Rattle.js_tool_event_log.proofs.SessionRuns.{begin_refused, end_refused, refuses_less, runs_last, runs_more, runs_stop}
use Rattle.js_tool_event_log.proofs.sessions.report.run_session.Goals as goal

pub returns-in-Err-clause-stage : goal.returns-in-Err-clause-stage
returns-in-Err-clause-stage c = begin_refused c.args.ended c.args.setup.now c.args.reader.now c.in-Err.refusal c.refused_stage.result c.in-Err.ensures c.refused_stage.ensures

pub returns-in-Err-pass_lines-clause-stage : goal.returns-in-Err-pass_lines-clause-stage
returns-in-Err-pass_lines-clause-stage c =
    runs_stop c.args.ended c.args.setup.now c.in-Ok.session c.pass_lines.new.self c.args.reader.now c.pass_lines.new.reader c.in-Err-pass_lines.unread c.in-Ok.ensures
    c.in-Err-pass_lines.ensures.lines

pub returns-in-None-clause-stage : goal.returns-in-None-clause-stage
returns-in-None-clause-stage c =
    runs_last c.args.ended c.in-Ok-end.ended c.args.setup.now c.in-Ok.session c.pass_lines.new.self c.args.reader.now c.pass_lines.new.reader c.in-Ok.ensures
    (rw c.in-None.is at c.in-Ok-pass_lines.ensures.lines) c.in-Ok-end.ensures

pub returns-in-Some-clause-stage : goal.returns-in-Some-clause-stage
returns-in-Some-clause-stage c =
    runs_more c.args.ended c.in-Ok-end.ended c.args.setup.now c.in-Some.setup c.in-Ok.session c.pass_lines.new.self c.args.reader.now c.pass_lines.new.reader c.in-Ok.ensures
    (rw c.in-Some.is at c.in-Ok-pass_lines.ensures.lines) c.in-Ok-end.ensures

pub returns-in-Err-end-clause-stage : goal.returns-in-Err-end-clause-stage
returns-in-Err-end-clause-stage c =
    end_refused c.args.ended c.args.setup.now c.in-Ok.session c.pass_lines.new.self c.args.reader.now c.pass_lines.new.reader c.in-Ok-pass_lines.following c.in-Err-end.refusal
    c.refused_stage-in-Err-end.result c.in-Ok.ensures c.in-Ok-pass_lines.ensures.lines c.in-Err-end.ensures c.refused_stage-in-Err-end.ensures

pub returns-in-Err-end-clause-shorter : goal.returns-in-Err-end-clause-shorter
returns-in-Err-end-clause-shorter c = refuses_less c.in-Err-end.refusal c.refused_stage-in-Err-end.result _ _ c.refused_stage-in-Err-end.ensures
