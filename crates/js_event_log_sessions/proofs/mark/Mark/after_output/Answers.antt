use Rattle.js_event_log_sessions.proofs.BookmarkPlaces.{mark_yield}
use Rattle.js_event_log_sessions.proofs.mark.Mark.after_output.Goals as goal

pub returns-in-Yield : goal.returns-in-Yield
returns-in-Yield c = λ next entries is. mark_yield next entries c.args.output.now c.in-Yield.stream_sequence _ _ _ c.args.self c.after_sequence.result c.in-Yield.is is c.after_sequence.ensures
