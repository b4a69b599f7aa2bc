-- How a replay stands that is told a transcript line by line, and what it has said.
use Rattle.std.specs.Prelude.{ℕ, ◌+◌, List, [], ◌∷◌, ◌++◌, length, Option, Some, None, Result, Ok, Err}
use Rattle.js_ordered_table.specs.declared.event.Event.{Event}
use Rattle.js_ordered_table.specs.declared.run.ReplayError.{ReplayError}
use Rattle.js_ordered_table.specs.Refusal.{refuse}
use Rattle.js_tool.specs.declared.status.Status.{Status}
use Rattle.js_tool.specs.declared.status.Status.TheVariants as status
use Rattle.js_tool_transcript.specs.declared.transcript.setup.Setup.{Setup}
use Rattle.js_tool_transcript.specs.Event.{event_line}
use Rattle.js_tool_transcript.specs.TranscriptReplay.{replay_input}
use Rattle.js_tool_transcript.specs.Text.{refusal_text}
use Rattle.js_tool_transcript.specs.Setup.{setup_line}
use Rattle.js_tool_transcript.specs.Transcript.{numbered}
use Rattle.js_tool.specs.declared.command.FollowOptions.{FollowOptions}
use Rattle.js_tool_follow.specs.AnswerText.{text_to, whole_text}

-- no line was told yet; or a setup and these events, of which none is refused; or it is over, with all its text and its status
pub data Standing : Type 0 where
  Unopened : Standing
  Going : Setup → List Event → Standing
  Over : List ℕ → Status → Standing

-- these events were passed behind a text, unless they are refused
abbrev pub passed : Setup → List Event → List ℕ → Option ReplayError → Standing
passed setup es before None = Going setup es
passed setup es before (Some refusal) = Over (before ++ refusal_text refusal) status.Refused

-- with the first line
abbrev pub opened : Result Setup ℕ → Standing
opened (Ok setup) = passed setup [] [] (refuse (replay_input setup) setup.start [])
opened (Err line) = Over [] (status.BadLine line)

-- with a further line
abbrev pub went_on : FollowOptions → Setup → List Event → Result Event ℕ → Standing
went_on asked setup es (Ok e) = passed setup (es ++ e ∷ []) (text_to asked setup es) (refuse (replay_input setup) setup.start (es ++ e ∷ []))
went_on asked setup es (Err line) = Over (text_to asked setup es) (status.BadLine line)

-- one line more. What is over stays so
abbrev pub next : FollowOptions → Standing → List ℕ → Standing
next asked Unopened line = opened (numbered 1 (setup_line line))
next asked (Going setup es) line = went_on asked setup es (numbered (length es + 2) (event_line line))
next asked (Over text s) line = Over text s

abbrev pub after : FollowOptions → Standing → List (List ℕ) → Standing
after asked standing [] = standing
after asked standing (line ∷ lines) = after asked (next asked standing line) lines

-- what these lines lead to
unfoldable pub standing : FollowOptions → List (List ℕ) → Standing
standing asked lines = after asked Unopened lines

-- ---- what is said

-- so far
abbrev pub said : FollowOptions → Standing → List ℕ
said asked Unopened = []
said asked (Going setup es) = text_to asked setup es
said asked (Over text s) = text

-- in all, where no more lines come: the whole text of the run, unless it was over before
abbrev pub said_in_all : FollowOptions → Standing → List ℕ
said_in_all asked Unopened = []
said_in_all asked (Going setup es) = whole_text asked setup es
said_in_all asked (Over text s) = text

-- how it ends then
abbrev pub end_of : Standing → Status
end_of Unopened = status.BadLine 1
end_of (Going setup es) = status.Done
end_of (Over text s) = s

-- the answer to these lines so far
abbrev pub answered : FollowOptions → List (List ℕ) → List ℕ
answered asked lines = said asked (standing asked lines)

-- to all lines of an input: the text, and the status that it calls for
abbrev pub text_for : FollowOptions → List (List ℕ) → List ℕ
text_for asked lines = said_in_all asked (standing asked lines)

abbrev pub status_for : FollowOptions → List (List ℕ) → Status
status_for asked lines = end_of (standing asked lines)
