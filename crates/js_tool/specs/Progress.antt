-- How far a replay has come as its lines are read, and what is told of it.
use Rattle.std.specs.Prelude.{◌≡◌, ◌≤◌, ℕ, List, [], ◌∷◌, ◌++◌, length, Bool, Option, Some, None, Result, Ok, Err, ⊤}
use Rattle.js_json_members.specs.declared.error.ReadError.{ReadError}
use Rattle.js_ordered_table.specs.declared.consumer.ReplayInput.{ReplayInput}
use Rattle.js_ordered_table.specs.declared.event.Event.{Event}
use Rattle.js_ordered_table.specs.declared.run.ReplayError.{ReplayError}
use Rattle.js_ordered.specs.IncrementalReplay.{HasCome}
use Rattle.js_ordered_table.specs.Fold.{fold}
use Rattle.js_ordered_table.specs.Refusal.{refuse}
use Rattle.js_tool.specs.declared.step_report.Replayed.{Replayed}
use Rattle.js_tool.specs.declared.step_report.Replayed.TheVariants as replayed
use Rattle.js_tool.specs.declared.progress.Progress.{Progress}
use Rattle.js_tool_transcript.specs.declared.transcript.Transcript.{Transcript}
use Rattle.js_tool_transcript.specs.declared.transcript.lines.Lines.{Lines}
use Rattle.js_tool_transcript.specs.declared.transcript.Unread.{Unread}
use Rattle.js_tool_transcript.specs.declared.transcript.Unread.TheVariants as unread
use Rattle.js_tool_transcript.specs.Event.{event_line_in}
use Rattle.js_tool_transcript.specs.ExtendedSetup.{setup_line_in}
use Rattle.js_tool_transcript.specs.TranscriptReplay.{replay_input, IsRefusedAs, FirstUnreadAs}
use Rattle.js_tool_transcript.specs.Transcript.{read_after_in}

-- what a report is after the opening and these events, from this start on
abbrev pub Tells : Type 0 → Type 1
Tells R = ReplayInput → ℕ → List Event → R → Type 0

-- these events were passed, and the report tells of them
pub record HasPassed {R : Type 0} (tells : Tells R) (g : ReplayInput) (start : ℕ) (es : List Event) (p : Progress R) : Type 0 where
  pub given : replay_input p.setup.now ≡ g
  pub replay : HasCome g start es p.replay
  pub told : tells g start es p.report

-- Of these lines of a form those that are left were not passed yet: whatever follows them, all is read as it was before.
abbrev pub PassesTo : {R : Type 0} → Tells R → Lines → Progress R → List (List ℕ) → Progress R → List (List ℕ) → Type 0
PassesTo tells form old lines new left = (g : ReplayInput) (start : ℕ) (es : List Event) → HasPassed tells g start es old
    → (passed : List Event) × HasPassed tells g start passed new × ((more : List (List ℕ)) → read_after_in form es (lines ++ more) ≡ read_after_in form passed (left ++ more))

-- one of these lines is the first that does not read, or memory ran out
abbrev pub StopsOn : {R : Type 0} → Tells R → Lines → Progress R → List (List ℕ) → Unread → Type 0
StopsOn tells form old lines unread.OutOfMemory = ⊤
StopsOn tells form old lines (unread.BadLine n) = (g : ReplayInput) (start : ℕ) (es : List Event) → HasPassed tells g start es old
    → (more : List (List ℕ)) → read_after_in form es (lines ++ more) ≡ Err n

-- all of these lines were passed, or it stopped
abbrev pub PassesLines : {A R : Type 0} → Tells R → Lines → Progress R → List (List ℕ) → Progress R → Result A Unread → Type 0
PassesLines tells form old lines new (Ok done) = PassesTo tells form old lines new []
PassesLines tells form old lines new (Err e) = StopsOn tells form old lines e

-- ---- what lines come to

-- the replay of these events is not refused, and the report tells of all of it
pub record HasReplayed {R : Type 0} (tells : Tells R) (g : ReplayInput) (start : ℕ) (es : List Event) (report : R) (ended : Bool) (events : ℕ) : Type 0 where
  pub accepted : refuse g start es ≡ None
  pub told : tells g start es report
  pub ends : ended ≡ (fold g start es).ended
  pub counted : events ≡ length es

-- the replay of these events comes to this
abbrev pub IsReplayedOn : {R : Type 0} → Tells R → ReplayInput → ℕ → List Event → Replayed R → Type 0
IsReplayedOn tells g start es (replayed.Done report ended events) = HasReplayed tells g start es report ended events
IsReplayedOn tells g start es (replayed.Refused refusal) = refuse g start es ≡ Some refusal
IsReplayedOn tells g start es (replayed.BadLine line) = ⊥

-- what was read comes to this
abbrev pub IsReplayedTo : {R : Type 0} → Tells R → Result Transcript ℕ → Replayed R → Type 0
IsReplayedTo tells (Ok t) answer = IsReplayedOn tells (replay_input t.setup) t.setup.start t.events answer
IsReplayedTo tells (Err n) (replayed.BadLine line) = n ≡ line
IsReplayedTo tells (Err n) (replayed.Done report ended events) = ⊥
IsReplayedTo tells (Err n) (replayed.Refused refusal) = ⊥

-- a transcript, whose replay is not refused, and the report tells of all of it
pub record ReplaysTold {R : Type 0} (tells : Tells R) (reading : Result Transcript ℕ) (bytes : List ℕ) (report : R) (ended : Bool) (events : ℕ) : Type 0 where
  pub within : length bytes ≤ 67_108_864
  pub by : (t : Transcript) × (reading ≡ Ok t) × HasReplayed tells (replay_input t.setup) t.setup.start t.events report ended events

-- bytes come to this, by what they say
abbrev pub IsReplayed : {R : Type 0} → Tells R → Result Transcript ℕ → List ℕ → Replayed R → Type 0
IsReplayed tells reading bytes (replayed.Done report ended events) = ReplaysTold tells reading bytes report ended events
IsReplayed tells reading bytes (replayed.Refused refusal) = IsRefusedAs reading bytes refusal
IsReplayed tells reading bytes (replayed.BadLine line) = FirstUnreadAs reading bytes line

-- ---- why a line does not read

-- its error, or else that of the lines behind it
abbrev pub error_or : {A : Type 0} → Result A ReadError → Option ReadError → Option ReadError
error_or (Ok said) behind = behind
error_or (Err error) behind = Some error

-- the error of the first of these lines that is no event of their form
abbrev pub event_error : Lines → List (List ℕ) → Option ReadError
event_error form [] = None
event_error form (line ∷ lines) = error_or (event_line_in form line) (event_error form lines)

-- the error of the first line of a transcript that does not read, where there is one
abbrev pub line_error : Lines → List (List ℕ) → Option ReadError
line_error form [] = None
line_error form (line ∷ lines) = error_or (setup_line_in form line) (event_error form lines)

-- all of these lines read, or this is the error of the first that does not, or memory ran out
abbrev pub TellsError : {A : Type 0} → Option ReadError → Option ReadError → Result A Unread → Type 0
TellsError error told (Ok done) = error ≡ None
TellsError error told (Err unread.OutOfMemory) = ⊤
TellsError error told (Err (unread.BadLine n)) = (e : ReadError) × (told ≡ Some e) × (error ≡ Some e)

-- an outcome that names a line tells this error
abbrev pub TellsOutcome : {R E : Type 0} → Option ReadError → Option ReadError → Result (Replayed R) E → Type 0
TellsOutcome error told (Ok (replayed.BadLine line)) = told ≡ error
TellsOutcome error told (Ok (replayed.Done report ended events)) = ⊤
TellsOutcome error told (Ok (replayed.Refused refusal)) = ⊤
TellsOutcome error told (Err e) = ⊤
