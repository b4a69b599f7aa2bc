use Rattle.js_tool_explain.proofs.arrivals.sentence.push_arrived.Goals as goal

pub returns-in-NoResponders : goal.returns-in-NoResponders
returns-in-NoResponders c = rw c.in-NoResponders.is c.push_text-in-NoResponders.ensures

pub returns-in-RequestEnded : goal.returns-in-RequestEnded
returns-in-RequestEnded c = rw c.in-RequestEnded.is c.push_status.ensures

pub returns-in-Silence : goal.returns-in-Silence
returns-in-Silence c = rw c.in-Silence.is (rw c.silence_text.ensures at c.push_silent.ensures)

pub returns-in-PushSilence : goal.returns-in-PushSilence
returns-in-PushSilence c = rw c.in-PushSilence.is c.push_silent-in-PushSilence.ensures
