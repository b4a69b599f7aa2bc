-- What is answered to a line, by what was told before.
use Rattle.std.specs.Prelude.{◌≡◌, ℕ, ◌+◌, ◌^◌, ◌<◌, List, ◌++◌, Option, Some, None, ⊤}
use Rattle.js_base.specs.declared.message.Message.{Message}
use Rattle.js_ordered.specs.IncrementalReplay.{HasCome}
use Rattle.js_ordered_table.specs.declared.event.Event.{Event}
use Rattle.js_ordered_table.specs.declared.run.ReplayError.{ReplayError}
use Rattle.js_ordered_table.specs.Refusal.{refuse}
use Rattle.js_tool.specs.declared.status.Status.{Status}
use Rattle.js_tool.specs.declared.status.Status.TheVariants as status
use Rattle.js_tool_transcript.specs.declared.transcript.setup.Setup.{Setup}
use Rattle.js_tool_transcript.specs.TranscriptReplay.{replay_input}
use Rattle.js_tool_transcript.specs.Text.{refusal_text}
use Rattle.js_tool.specs.declared.command.FollowOptions.{FollowOptions}
use Rattle.js_tool_follow.specs.declared.answer.Listener.{Listener}
use Rattle.js_tool_follow.specs.AnswerText.{answer_text}
use Rattle.js_tool_follow.specs.Standing.{Going, Over, standing, answered, text_for, status_for}

-- the last of these events, which could hand these messages out, or the opening, was answered: by its text, or by its refusal
abbrev pub AnswersEvents : FollowOptions → List Message → Setup → List Event → List ℕ → Option Status → Type 0
AnswersEvents asked messages setup es text None = (refuse (replay_input setup) setup.start es ≡ None) × (text ≡ answer_text asked messages setup es)
AnswersEvents asked messages setup es text (Some s) =
    (refusal : ReplayError) × (refuse (replay_input setup) setup.start es ≡ Some refusal) × (text ≡ refusal_text refusal) × (s ≡ status.Refused)

-- these lines were told
pub record IsTold (asked : FollowOptions) (lines : List (List ℕ)) (listener : Listener) : Type 0 where
  pub options : listener.options ≡ asked
  pub setup : Setup
  pub es : List Event
  pub stands : standing asked lines ≡ Going setup es
  pub come : HasCome (replay_input setup) setup.start es listener.replay.value

-- one event more was passed, and the number of those before it is below 2 ^ 64
abbrev pub HasPassedOne : Listener → Listener → Type 0
HasPassedOne old new = (new.replay.value.count ≡ old.replay.value.count + 1) × (old.replay.value.count < 2 ^ 64)

-- with these statuses a replay is over by itself
abbrev pub IsEnding : Status → Type 0
IsEnding status.Done = ⊤
IsEnding status.Refused = ⊤
IsEnding (status.BadLine line) = ⊤
IsEnding status.ReadFault = ⊥
IsEnding status.WriteFault = ⊥
IsEnding status.OutOfMemory = ⊥
IsEnding status.Usage = ⊥
IsEnding status.TooLong = ⊥

-- the last of these lines was answered behind what was said before: it goes on, or is over with that status
abbrev pub AnswersLine : FollowOptions → List ℕ → List (List ℕ) → List ℕ → Option Status → Listener → Type 0
AnswersLine asked before lines text None listener = (answered asked lines ≡ before ++ text) × IsTold asked lines listener
AnswersLine asked before lines text (Some s) listener = (standing asked lines ≡ Over (before ++ text) s) × IsEnding s

-- no more lines came
abbrev pub AnswersEnd : FollowOptions → List (List ℕ) → List ℕ → Option Status → Type 0
AnswersEnd asked lines text None = ⊥
AnswersEnd asked lines text (Some s) = (text_for asked lines ≡ answered asked lines ++ text) × (status_for asked lines ≡ s) × (s ≡ status.Done)
