-- What a command over a log makes of a transcript: a text, or the line of a refusal.
use Rattle.std.specs.Prelude.{◌≡◌, ℕ, ◌-◌, List, Option, Some, None, Result, Ok, Err, ⊤}
use Rattle.js_base.specs.declared.message.Entry.{Entry}
use Rattle.js_event_log.specs.RunProjection.{not_rising}
use Rattle.js_event_log.specs.declared.projection.error.ApplyError.{ApplyError}
use Rattle.js_event_log.specs.declared.projection.error.ApplyError.TheVariants as apply
use Rattle.js_event_log.specs.declared.mirror.error.MirrorError.{MirrorError}
use Rattle.js_event_log.specs.declared.mirror.error.MirrorError.TheVariants as mirrors
use Rattle.js_event_log.specs.Mirror.{Mirrored}
use Rattle.js_ordered_table.specs.declared.setup.OrderedSetup.{OrderedSetup}
use Rattle.js_ordered_table.specs.Texts.{configured_start}
use Rattle.js_tool_transcript.specs.declared.transcript.Transcript.{Transcript}
use Rattle.js_tool_transcript.specs.declared.transcript.Unread.{Unread}
use Rattle.js_tool_transcript.specs.TranscriptReplay.{replay_input}
use Rattle.js_tool_transcript.specs.Text.{refusal_text}
use Rattle.js_tool_transcript.specs.Transcript.{StopsAt}
use Rattle.js_tool_event_log.specs.declared.replay_entries.Ending.{Ending}
use Rattle.js_tool_event_log.specs.declared.replay_entries.Ending.TheVariants as ending
use Rattle.js_tool_event_log.specs.declared.report.Report.{Report}
use Rattle.js_tool_event_log.specs.declared.report.Report.TheVariants as report
use Rattle.js_tool.specs.LogCommand.{Wanted, Project, Mirror, Relay}
use Rattle.js_tool_event_log.specs.ReplayEntries.{ending_of}
use Rattle.js_tool_event_log.specs.LogTexts.{no_start_text, not_rising_text, table_text, mirror_text, served_text}

-- a text, unless a sequence was not above the one before
abbrev pub unless_falling : Option ℕ → List ℕ → Report
unless_falling None text = report.Done text
unless_falling (Some last) text = report.Refused (not_rising_text last)

-- of the entries from a setup's start on. A table begins above 0, and a mirror at its start
abbrev pub log_report : Wanted → OrderedSetup → ℕ → List Entry → Report
log_report (Project filter sequence) setup start entries = unless_falling (not_rising 0 entries) (table_text filter sequence entries)
log_report Mirror setup start entries = unless_falling (not_rising (start - 1) entries) (mirror_text start entries)
log_report (Relay stream name) setup start entries = unless_falling (not_rising (start - 1) entries) (served_text stream name setup start entries)

-- of what a replay comes to. A setup without a configured start goes before the refusals of the replay
abbrev pub report_from : Wanted → OrderedSetup → Option ℕ → Ending → Report
report_from wanted setup None end = report.Refused no_start_text
report_from wanted setup (Some start) (ending.Refused refusal) = report.Refused (refusal_text refusal)
report_from wanted setup (Some start) (ending.Yields entries) = log_report wanted setup start entries

-- of a transcript
abbrev pub report_of : Wanted → Transcript → Report
report_of wanted t = report_from wanted t.setup.setup (configured_start t.setup.setup) (ending_of (replay_input t.setup) t.setup.start t.events)

-- something was read, and this is made of it, of which more holds; or it does not read
abbrev pub Reports : {T : Type 0} → (T → Report) → (T → Report → Type 0) → Result T ℕ → Result Report Unread → Type 0
Reports {T = T} of more reading (Ok made) = (t : T) × (reading ≡ Ok t) × (made ≡ of t) × more t made
Reports of more reading (Err e) = StopsAt e reading

-- entries were applied one after another, or one was not above the one before
abbrev pub Applies : List Entry → Result (List Entry) ApplyError → Type 0
Applies entries (Ok applied) = (applied ≡ entries) × (not_rising 0 entries ≡ None)
Applies entries (Err (apply.NotRising last)) = not_rising 0 entries ≡ Some last
Applies entries (Err apply.OutOfMemory) = ⊤

-- a mirror with this start has them all, or one was not above the one before it
abbrev pub Fills : ℕ → List Entry → Result Mirrored MirrorError → Type 0
Fills start entries (Ok mirror) = (mirror ≡ record { start = start; entries = entries }) × (not_rising (start - 1) entries ≡ None)
Fills start entries (Err (mirrors.NotRising last)) = not_rising (start - 1) entries ≡ Some last
Fills start entries (Err (mirrors.StartDiffers one other)) = ⊥
Fills start entries (Err (mirrors.Conflict sequence)) = ⊥
Fills start entries (Err mirrors.OutOfMemory) = ⊤
