use Rattle.std.proofs.Common.{◌++◌, ◌∷◌, [], List, refl, subst}
use Rattle.std.proofs.lemmas.Result.{IfOk-at_ok}
use Rattle.js_event_log_sessions.specs.declared.session.Line.{Line}
use Rattle.js_event_log_sessions.specs.declared.session_replay.Sessions.{Sessions}
use Rattle.js_event_log_sessions.specs.SessionReplay.{HasStepped, HaveEnded, with_lines}
use Rattle.js_event_log_sessions.proofs.AllSessions.{run_is, runs_more}
use Rattle.js_event_log_sessions.proofs.runs.run_session.Goals as goal

pub returns-in-Err : goal.returns-in-Err
returns-in-Err c = λ next done have. c.in-Err.ensures next done have.ended c.args.session.now.lines

pub returns : goal.returns
returns c = λ next done have.
    let s = c.args.session.now in
    let begun = c.in-Ok.ensures next done have.ended in
    let (opened, steps) = c.in-Ok-played.ensures next done s begun in
    let replay = c.opening_and_steps-played.new.replay in
    let stepped : HasStepped next done s replay c.in-Ok-played.played.1 =
    subst (λ (lines : List Line). HasStepped next done (with_lines s lines) replay c.in-Ok-played.played.1) c.as_slice.ensures steps in
    let ended = c.in-Ok-end.ensures.ended next done s stepped.come in
    let values = c.in_ok-sessions.ensures.values in
    record {
      ended = IfOk-at_ok (λ (sessions : Sessions). HaveEnded next (done ++ s ∷ []) sessions) values.0 ended.sessions;
      so_far =
          runs_more next done s c.args.runs.now c.push-pushed.new.self _ have.so_far
          (run_is next done s c.in-Ok.replay c.in-Ok-end.end c.in-Ok-played.played.0 c.in-Ok-played.played.1 c.in-Ok-played.played.0.outputs c.next-next.result begun opened refl stepped.so_far ended c.next-next.ensures)
          (rw values.1 at c.push-pushed.ensures.ok);
    }
