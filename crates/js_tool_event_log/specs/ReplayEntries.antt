-- What a replay has yielded when its lines were read.
use Rattle.std.specs.Prelude.{◌≡◌, ℕ, List, Option, Some, None, Result, Ok, Err}
use Rattle.js_base.specs.declared.message.Entry.{Entry}
use Rattle.js_ordered_table.specs.declared.consumer.ReplayInput.{ReplayInput}
use Rattle.js_ordered_table.specs.declared.event.Event.{Event}
use Rattle.js_ordered_table.specs.declared.run.ReplayError.{ReplayError}
use Rattle.js_ordered_table.specs.Fold.{fold}
use Rattle.js_ordered_table.specs.Gapless.{all_outputs}
use Rattle.js_ordered_table.specs.Refusal.{refuse}
use Rattle.js_tool_transcript.specs.declared.transcript.setup.Setup.{Setup}
use Rattle.js_tool_transcript.specs.declared.transcript.Transcript.{Transcript}
use Rattle.js_tool_transcript.specs.declared.transcript.Unread.{Unread}
use Rattle.js_tool_transcript.specs.TranscriptReplay.{replay_input}
use Rattle.js_tool_transcript.specs.Transcript.{StopsAt}
use Rattle.js_tool_event_log.specs.declared.replay_entries.Ending.{Ending}
use Rattle.js_tool_event_log.specs.declared.replay_entries.Ending.TheVariants as ending
use Rattle.js_event_log.specs.RunProjection.{yielded}

-- ---- the end

-- all that was yielded, unless the replay is refused
abbrev pub ends : Option ReplayError → List Entry → Ending
ends None entries = ending.Yields entries
ends (Some refusal) entries = ending.Refused refusal

-- what the replay of these events comes to
abbrev pub ending_of : ReplayInput → ℕ → List Event → Ending
ending_of g start es = ends (refuse g start es) (yielded (all_outputs (fold g start es)))

-- a transcript with this setup was read, and its replay comes to this end; or it does not read
abbrev pub ReadsYields : Setup → Result Transcript ℕ → Result Ending Unread → Type 0
ReadsYields setup reading (Ok end) =
    (es : List Event) × (reading ≡ Ok (record { setup = setup; events = es })) × (end ≡ ending_of (replay_input setup) setup.start es)
ReadsYields setup reading (Err e) = StopsAt e reading
