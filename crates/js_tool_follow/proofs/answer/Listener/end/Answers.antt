use Rattle.std.proofs.Common.{◌≡◌, ◌∙◌, rules}
use Rattle.js_tool_transcript.specs.TranscriptReplay.{replay_input}
use Rattle.js_tool_follow.proofs.LineAnswers.{end_so, never_refused}
use Rattle.js_tool_follow.proofs.answer.Listener.end.Goals as goal

pub returns-in-Ok-clause-told : goal.returns-in-Ok-clause-told
returns-in-Ok-clause-told c = λ asked lines told.
    let same : c.deref.result.now ≡ c.args.self.now.replay.value = search rules in
    let ends = c.in-Ok.ensures.ended (replay_input told.setup) told.setup.start told.es (rw same told.come) in
    let counted : c.count.result ≡ c.args.self.now.replay.value.count = search rules in
    end_so asked c.last_line.result lines c.args.self.now c.in-Ok.ended c.count.result told ends.1 (counted ∙ told.come.count) c.last_line.ensures

pub returns-in-Err-clause-told : goal.returns-in-Err-clause-told
returns-in-Err-clause-told c = λ asked lines told.
    let same : c.deref.result.now ≡ c.args.self.now.replay.value = search rules in
    absurd (never_refused asked lines c.args.self.now c.in-Err.error told (c.in-Err.ensures.ended (replay_input told.setup) told.setup.start told.es (rw same told.come)))
