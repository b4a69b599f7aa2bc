-- The answers to a transcript's lines: the text of each step, and what else is asked for.
use Rattle.std.specs.Prelude.{ℕ, List, [], ◌∷◌, ◌++◌, length, flat_map}
use Rattle.js_base.specs.declared.message.Message.{Message}
use Rattle.js_ordered.specs.IncrementalReplay.{last}
use Rattle.js_ordered_table.specs.declared.consumer.Phase.{Phase}
use Rattle.js_ordered_table.specs.declared.event.Event.{Event}
use Rattle.js_ordered_table.specs.declared.run.Output.{Output}
use Rattle.js_ordered_table.specs.Fold.{fold}
use Rattle.js_tool.specs.declared.command.FollowOptions.{FollowOptions}
use Rattle.js_tool_transcript.specs.declared.transcript.setup.Setup.{Setup}
use Rattle.js_tool_transcript.specs.TranscriptReplay.{replay_input}
use Rattle.js_tool_transcript.specs.Text.{output_text, last_line}
use Rattle.js_tool_follow.specs.Details.{details_text, messages_at}
use Rattle.js_tool_follow.specs.Wakes.{wakes_text}

-- what the last event puts out, or the opening before the first
abbrev pub last_outputs : Setup → List Event → List Output
last_outputs setup es = (last (replay_input setup) setup.start es).outputs

-- where the consumer stands behind it
abbrev pub last_phase : Setup → List Event → Phase
last_phase setup es = (last (replay_input setup) setup.start es).state.consumer.phase

-- the text of what it puts out
abbrev pub last_text : Setup → List Event → List ℕ
last_text setup es = flat_map (output_text (length es)) (last_outputs setup es)

-- The answer to the last event, or to the opening: the text of what it puts out; the details of what is handed out, among these messages; and when the consumer wakes.
abbrev pub answer_text : FollowOptions → List Message → Setup → List Event → List ℕ
answer_text asked messages setup es =
    last_text setup es ++ (details_text asked.details (length es) messages (last_outputs setup es) ++ wakes_text asked.wakes (length es) (last_phase setup es))

-- the messages that an event behind these can hand out
abbrev pub messages_behind : Setup → List Event → Event → List Message
messages_behind setup es e = messages_at (last_phase setup es) e

-- the answers to events behind others
abbrev pub answers_behind : FollowOptions → Setup → List Event → List Event → List ℕ
answers_behind asked setup before [] = []
answers_behind asked setup before (e ∷ es) =
    answer_text asked (messages_behind setup before e) setup (before ++ e ∷ []) ++ answers_behind asked setup (before ++ e ∷ []) es

-- the answers to the opening and to these events
abbrev pub text_to : FollowOptions → Setup → List Event → List ℕ
text_to asked setup es = answer_text asked [] setup [] ++ answers_behind asked setup [] es

-- and the last line
abbrev pub whole_text : FollowOptions → Setup → List Event → List ℕ
whole_text asked setup es = text_to asked setup es ++ last_line (fold (replay_input setup) setup.start es).ended (length es)
