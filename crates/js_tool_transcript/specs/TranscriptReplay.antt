-- What a transcript is replayed with, and what bytes are as a transcript: replayed, refused, unread or valid.
use Rattle.std.specs.Prelude.{◌≡◌, ◌≤◌, ℕ, List, length, Some, Result, Ok, Err}
use Rattle.js_ordered_table.specs.declared.consumer.ReplayInput.{ReplayInput}
use Rattle.js_ordered_table.specs.declared.run.Run.{Run}
use Rattle.js_ordered_table.specs.declared.run.ReplayError.{ReplayError}
use Rattle.js_ordered_table.specs.Refusal.{refuse}
use Rattle.js_ordered_table.specs.Replay.{IsReplay, IsValid}
use Rattle.js_tool_transcript.specs.declared.transcript.setup.Setup.{Setup}
use Rattle.js_tool_transcript.specs.declared.transcript.Transcript.{Transcript}
use Rattle.js_tool_transcript.specs.Transcript.{transcript}

-- what a setup makes a consumer with
abbrev pub replay_input : Setup → ReplayInput
replay_input s = record { settings = s.settings; setup = s.setup; first = s.first }

-- ---- what bytes are that say a transcript, or of which a line does not read

-- a transcript, whose replay is this run
pub record ReplaysAs (reading : Result Transcript ℕ) (bytes : List ℕ) (run : Run) : Type 0 where
  pub within : length bytes ≤ 67_108_864
  pub by : (t : Transcript) × (reading ≡ Ok t) × IsReplay (replay_input t.setup) t.setup.start t.events run

-- a transcript, whose replay is refused so
pub record IsRefusedAs (reading : Result Transcript ℕ) (bytes : List ℕ) (refusal : ReplayError) : Type 0 where
  pub within : length bytes ≤ 67_108_864
  pub by : (t : Transcript) × (reading ≡ Ok t) × (refuse (replay_input t.setup) t.setup.start t.events ≡ Some refusal)

-- lines of which this is the first that does not read
pub record FirstUnreadAs (reading : Result Transcript ℕ) (bytes : List ℕ) (line : ℕ) : Type 0 where
  pub within : length bytes ≤ 67_108_864
  pub by : reading ≡ Err line

-- a transcript with good settings, moments that do not fall, and no last sequence
pub record IsValidAs (reading : Result Transcript ℕ) (bytes : List ℕ) : Type 0 where
  pub within : length bytes ≤ 67_108_864
  pub by : (t : Transcript) × (reading ≡ Ok t) × IsValid (replay_input t.setup) t.setup.start t.events

-- ---- the same of a transcript

abbrev pub Replays : List ℕ → Run → Type 0
Replays bytes = ReplaysAs (transcript bytes) bytes

abbrev pub IsRefused : List ℕ → ReplayError → Type 0
IsRefused bytes = IsRefusedAs (transcript bytes) bytes

abbrev pub FirstUnread : List ℕ → ℕ → Type 0
FirstUnread bytes = FirstUnreadAs (transcript bytes) bytes

abbrev pub IsValidTranscript : List ℕ → Type 0
IsValidTranscript bytes = IsValidAs (transcript bytes) bytes
