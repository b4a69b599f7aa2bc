use Rattle.js_tool_event_log.proofs.TextSoFar.{text_ended}
use Rattle.js_tool_event_log.specs.SessionInput.{session_of}
use Rattle.js_tool_event_log.proofs.sessions.session.SessionText.end.Goals as goal

pub returns-in-Err : goal.returns-in-Err
returns-in-Err c = λ next done setup lines has. c.in-Err.ensures.ended next done (session_of setup lines) has.come

pub returns : goal.returns
returns c = λ next done setup lines has.
    let ended = c.in-Ok.ensures.ended next done (session_of setup lines) has.come in record {
      ended = ended.sessions;
      text =
          text_ended next done setup lines c.args.self c.in-Ok.end c.count-count.result c.next.result c.push_end.new.out.items c.push_bookmark.new.out.items has ended c.count-count.ensures c.next.ensures
          c.in_ok-push_end.ensures c.in_ok-push_bookmark.ensures;
    }
