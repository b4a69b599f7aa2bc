-- What is promised of the transcript that is written of a mirror.
use Rattle.std.specs.Prelude.{◌≡◌, ℕ, List, ⊤, Option, Some}
use Rattle.js_base.specs.declared.message.Entry.{Entry}
use Rattle.js_event_log.specs.RunProjection.{yielded}
use Rattle.js_event_log.specs.Mirror.{Mirrored}
use Rattle.js_tool_transcript.specs.RelayTranscript.{AreTexts, ReadsAs, ReplaysTo, StaysHonestIn, relay_transcript}
use Rattle.js_ordered_table.specs.declared.run.Run.{Run}
use Rattle.js_ordered_table.specs.declared.setup.OrderedSetup.{OrderedSetup}
use Rattle.js_ordered_table.specs.Fold.{fold}
use Rattle.js_ordered_table.specs.Gapless.{all_outputs}
use Rattle.js_ordered_table.specs.Texts.{config_of, configured_start}
use Rattle.js_tool_transcript.specs.declared.transcript.Transcript.{Transcript}
use Rattle.js_tool_transcript.specs.TranscriptReplay.{replay_input}
use Rattle.js_tool_event_log.specs.declared.replay_entries.Ending.{Ending}
use Rattle.js_tool_event_log.specs.declared.replay_entries.Ending.TheVariants as ending
use Rattle.js_tool_event_log.specs.declared.report.Report.{Report}
use Rattle.js_tool_event_log.specs.declared.report.Report.TheVariants as report
use Rattle.js_tool.specs.LogCommand.{Wanted, Relay}

-- the run of a transcript
abbrev pub run_of : Transcript → Run
run_of t = fold (replay_input t.setup) t.setup.start t.events

-- what it yields
abbrev pub yields_of : Transcript → List Entry
yields_of t = yielded (all_outputs (run_of t))

-- the mirror of what it yields
abbrev pub mirror_of : ℕ → Transcript → Mirrored
mirror_of start t = record { start = start; entries = yields_of t }

-- It is read as the transcript of a consumer that reads the mirror. Each replay of it hands out the mirror's entries, and a server that was honest in the mirror's run is honest in it.
pub record IsServed (stream name : List ℕ) (setup : OrderedSetup) (mirror : Mirrored) (text : List ℕ) : Type 0 where
  pub reads : ReadsAs text (relay_transcript stream name (config_of setup).filter_subject (config_of setup).filter_subjects mirror)
  pub replays : ReplaysTo mirror.entries text
  pub honest : StaysHonestIn mirror setup text

-- a setup's filters, and the subjects and the payloads of entries, are UTF-8
abbrev pub HasTexts : OrderedSetup → List Entry → Type 0
HasTexts setup entries = AreTexts (config_of setup).filter_subject (config_of setup).filter_subjects entries

-- the text that is made of entries from a start on, where a transcript is asked for and they are texts
abbrev pub Serves : Wanted → OrderedSetup → ℕ → List Entry → Report → Type 0
Serves (Relay stream name) setup start entries (report.Done text) =
    HasTexts setup entries → IsServed stream name setup (record { start = start; entries = entries }) text
Serves wanted setup start entries made = ⊤

-- the text that is made of what a replay comes to
abbrev pub ServesFrom : Wanted → OrderedSetup → Option ℕ → Ending → Report → Type 0
ServesFrom wanted setup (Some start) (ending.Yields entries) made = Serves wanted setup start entries made
ServesFrom wanted setup start end made = ⊤

-- The text that is made of a transcript: it serves all that the replay yields, from the configured start on. What a transcript brings are texts.
abbrev pub ServesOf : Wanted → Transcript → Report → Type 0
ServesOf (Relay stream name) t (report.Done text) = (start : ℕ) → configured_start t.setup.setup ≡ Some start → IsServed stream name t.setup.setup (mirror_of start t) text
ServesOf wanted t made = ⊤
