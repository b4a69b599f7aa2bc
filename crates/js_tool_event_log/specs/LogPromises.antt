-- What the texts of a log say of the log of an honest server.
use Rattle.std.specs.Prelude.{◌≡◌, ℕ, List, Option, Some}
use Rattle.std.specs.Io.KnownBytes.{Appends}
use Rattle.js_event_log.specs.LogTable.{matching_between, AreOvertaken}
use Rattle.js_event_log.specs.Mirror.{Mirrored, IsMirror}
use Rattle.js_event_log.specs.Projection.{last_sequence, table, matched}
use Rattle.js_event_log.specs.LogCopy.{ShowsLog, server_of}
use Rattle.js_tool_transcript.specs.RelayTranscript.{ReadsAs}
use Rattle.js_ordered_table.specs.declared.run.Run.{Run}
use Rattle.js_ordered_table.specs.declared.setup.OrderedSetup.{OrderedSetup}
use Rattle.js_ordered_table.specs.Gapless.{Logged, Server, IsHonest}
use Rattle.js_ordered_table.specs.Texts.{configured_start, filters}
use Rattle.js_tool_transcript.specs.declared.transcript.Transcript.{Transcript}
use Rattle.js_tool_transcript.specs.TranscriptReplay.{Replays}
use Rattle.js_tool_event_log.specs.LogTexts.{rows_text, mirror_text}
use Rattle.js_tool_event_log.specs.Relay.{IsServed, run_of, yields_of, mirror_of}
use Rattle.js_tool_event_log.specs.Answer.{Reads}

-- the server is honest in the run
abbrev pub IsHonestIn : Server → Transcript → Type 0
IsHonestIn s t = IsHonest s t.setup.setup t.events (run_of t)

-- ---- the table

-- the text of the table of a log's own entries from a start to a last sequence, as far as the setup's filters and this one match
abbrev pub logs_table_text : List ℕ → OrderedSetup → List Logged → ℕ → ℕ → List ℕ
logs_table_text filter setup log start last = rows_text (matched filter (table (matching_between setup log start last))) last

-- For each honest server whose log has, for each entry that was removed from the configured start up to the last yield, a later one of its subject up to there, what was written is the text of the table of the log itself.
pub record WritesLogsTable (filter bytes : List ℕ) (taken taken_after : Option (List ℕ)) : Type 0 where
  pub transcript : Transcript
  pub reads : Reads bytes transcript
  pub written : (s : Server) (start : ℕ) → IsHonestIn s transcript → configured_start transcript.setup.setup ≡ Some start
      → AreOvertaken transcript.setup.setup s start (last_sequence (yields_of transcript))
      → Appends taken taken_after (logs_table_text filter transcript.setup.setup s.log start (last_sequence (yields_of transcript)))

-- ---- the mirror

-- What was written is the text of the mirror that starts at the configured start and has what was yielded. For each honest server each of its messages is the log's, and each hole was removed or does not match.
pub record WritesLogsMirror (bytes : List ℕ) (taken taken_after : Option (List ℕ)) : Type 0 where
  pub transcript : Transcript
  pub start : ℕ
  pub reads : Reads bytes transcript
  pub configured : configured_start transcript.setup.setup ≡ Some start
  pub mirror : IsMirror (mirror_of start transcript)
  pub written : Appends taken taken_after (mirror_text start (yields_of transcript))
  pub shows : (s : Server) → IsHonestIn s transcript → ShowsLog s transcript.setup.setup (mirror_of start transcript)

-- ---- the transcript

-- each replay of a text has the filters of a transcript, and the server of a mirror is honest in it, for the same log and the same removed ones
abbrev pub KeepsHonest : Server → Transcript → Mirrored → List ℕ → Type 0
KeepsHonest s t mirror text =
    (run : Run) → Replays text run → (again : Transcript) × ReadsAs text again × (filters again.setup.setup ≡ filters t.setup.setup) × IsHonest (server_of s mirror) again.setup.setup again.events run

-- What was written is the transcript of a consumer with these names that reads the mirror which starts at the configured start and has what was yielded. It is read as that, and each replay of it hands out the mirror's entries; where a server is honest in the run, that of the mirror is honest in each replay.
pub record WritesLogsRelay (stream name bytes : List ℕ) (taken taken_after : Option (List ℕ)) : Type 0 where
  pub transcript : Transcript
  pub start : ℕ
  pub text : List ℕ
  pub reads : Reads bytes transcript
  pub configured : configured_start transcript.setup.setup ≡ Some start
  pub mirror : IsMirror (mirror_of start transcript)
  pub written : Appends taken taken_after text
  pub served : IsServed stream name transcript.setup.setup (mirror_of start transcript) text
  pub honest : (s : Server) → IsHonestIn s transcript → KeepsHonest s transcript (mirror_of start transcript) text
