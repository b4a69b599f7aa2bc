use Rattle.js_tool_event_log.proofs.TextSoFar.{text_begins}
use Rattle.js_tool_event_log.proofs.sessions.session.SessionText.begin.Goals as goal

pub returns-in-Err : goal.returns-in-Err
returns-in-Err c = λ next done have. c.in-Err.ensures next done have.ended

pub returns-in-Ok-push_outputs : goal.returns-in-Ok-push_outputs
returns-in-Ok-push_outputs c = λ next done have.
    let come = c.in-Ok.ensures next done have.ended in record {
      come = come;
      text = text_begins next done c.args.setup.now c.in-Ok.replay c.outputs.result.now c.args.ended.text.items c.push_outputs.new.out.items have.text come c.outputs.ensures c.in-Ok-push_outputs.ensures;
    }
