-- Step after step: what is yielded, and what all lines come to.
use Rattle.std.proofs.Common.{◌≡◌, ℕ, Bool, refl, List, [], ◌∷◌, ◌++◌, sym, ap, ◌∙◌, append_assoc, append-nil}
use Rattle.std.specs.Prelude.{Result, Ok, Err}
use Rattle.js_base.specs.declared.message.Entry.{Entry}
use Rattle.js_tool_io.specs.Lines.{lines_of}
use Rattle.js_ordered_table.specs.declared.consumer.ReplayInput.{ReplayInput}
use Rattle.js_ordered_table.specs.declared.event.Event.{Event}
use Rattle.js_ordered_table.specs.declared.run.Output.{Output}
use Rattle.js_ordered_table.specs.declared.run.Step.{Step}
use Rattle.js_ordered_table.specs.Fold.{fold, step_of}
use Rattle.js_ordered_table.specs.Gapless.{joined, all_outputs}
use Rattle.js_ordered.specs.declared.incremental_replay.IncrementalReplay.{IncrementalReplay}
use Rattle.js_ordered.specs.IncrementalReplay.{HasCome, last}
use Rattle.js_ordered.proofs.EventByEvent.{no_steps, steps_on, opening_is}
use Rattle.js_tool_transcript.specs.declared.transcript.setup.Setup.{Setup}
use Rattle.js_tool_transcript.specs.declared.transcript.Unread.{Unread}
use Rattle.js_tool_transcript.specs.declared.transcript.Unread.TheVariants as unread
use Rattle.js_tool_transcript.specs.TranscriptReplay.{replay_input}
use Rattle.js_tool_transcript.specs.Setup.{setup_line}
use Rattle.js_tool_transcript.specs.declared.transcript.lines.Lines.TheVariants.{Plain}
use Rattle.js_tool_transcript.specs.Transcript.{◌>>=◌, numbered, events_in, with_lines, with_lines_in, StopsAt, transcript}
use Rattle.js_tool_transcript.proofs.LinesRead.{by_lines, of_lines}
use Rattle.js_tool.specs.declared.step_report.Replayed.{Replayed}
use Rattle.js_tool.specs.declared.step_report.Replayed.TheVariants as replayed
use Rattle.js_tool.specs.Progress.{Tells, HasReplayed, IsReplayedTo}
use Rattle.js_tool_event_log.specs.declared.replay_entries.Ending.{Ending}
use Rattle.js_tool_event_log.specs.declared.replay_entries.Ending.TheVariants as ending
use Rattle.js_tool_event_log.specs.declared.replay_entries.Yields.{Yields}
use Rattle.js_tool_event_log.specs.ReplayEntries.{ending_of, ReadsYields}
use Rattle.js_event_log.specs.RunProjection.{yielded}
use Rattle.js_event_log.proofs.AppliedYields.{yielded_append, joined_push}

-- ---- what is put out

-- one output, and those after it
pub yielded_first : (o : Output) (after : List Output) → yielded (o ∷ after) ≡ yielded (o ∷ []) ++ yielded after
yielded_first o after = yielded_append (o ∷ []) after

-- the opening's alone
outputs_first : (g : ReplayInput) (start : ℕ) → all_outputs (fold g start []) ≡ (last g start []).outputs
outputs_first g start =
    ap (λ (steps : List Step). (fold g start []).opening.outputs ++ joined steps) (no_steps g start)
    ∙ append-nil (fold g start []).opening.outputs
    ∙ ap (λ (step : Step). step.outputs) (opening_is g start [])

-- one event adds what its step puts out
outputs_on : (g : ReplayInput) (start : ℕ) (es : List Event) (e : Event)
    → all_outputs (fold g start (es ++ e ∷ [])) ≡ all_outputs (fold g start es) ++ (last g start (es ++ e ∷ [])).outputs
outputs_on g start es e =
    let all : List Event = es ++ e ∷ [] in
    let first : List Output = (fold g start es).opening.outputs in
    let before : List Step = (fold g start es).steps in
    let opening : (fold g start all).opening.outputs ≡ first = ap (λ (step : Step). step.outputs) (opening_is g start all ∙ sym (opening_is g start es)) in
    ap (λ (outputs : List Output). outputs ++ joined (fold g start all).steps) opening
    ∙ ap (λ (steps : List Step). first ++ joined steps) (steps_on g start es e)
    ∙ ap (λ (outputs : List Output). first ++ outputs) (joined_push before (step_of (last g start all)))
    ∙ sym (append_assoc first (joined before) (last g start all).outputs)

-- so the opening's yields are there at first
pub yields_open : (g : ReplayInput) (start : ℕ) (replay : IncrementalReplay) (outputs : List Output) (entries : List Entry) → HasCome g start [] replay → outputs ≡ replay.outputs → entries ≡ yielded outputs
    → entries ≡ yielded (all_outputs (fold g start []))
yields_open g start replay outputs entries come put says = says ∙ ap yielded (put ∙ come.outputs ∙ sym (outputs_first g start))

-- and those of one more event after it
pub yields_pass : (g : ReplayInput) (start : ℕ) (es : List Event) (e : Event) (old : List Entry) (replay : IncrementalReplay) (outputs : List Output) (entries : List Entry)
    → old ≡ yielded (all_outputs (fold g start es)) → HasCome g start (es ++ e ∷ []) replay → outputs ≡ replay.outputs → entries ≡ old ++ yielded outputs
    → entries ≡ yielded (all_outputs (fold g start (es ++ e ∷ [])))
yields_pass g start es e old replay outputs entries told come put says =
    let here : List Output = (last g start (es ++ e ∷ [])).outputs in
    says
    ∙ ap (λ (before : List Entry). before ++ yielded outputs) told
    ∙ ap (λ (more : List Output). yielded (all_outputs (fold g start es)) ++ yielded more) (put ∙ come.outputs)
    ∙ sym (yielded_append (all_outputs (fold g start es)) here)
    ∙ ap yielded (sym (outputs_on g start es e))

-- ---- the end

-- what the lines come to
abbrev pub ending_by : Replayed Yields → Result Ending Unread
ending_by (replayed.Done report ended events) = Ok (ending.Yields report.entries)
ending_by (replayed.Refused refusal) = Ok (ending.Refused refusal)
ending_by (replayed.BadLine line) = Err (unread.BadLine line)

abbrev TellsYields : Tells Yields
TellsYields g start es report = report.entries ≡ yielded (all_outputs (fold g start es))

ending_on : (g : ReplayInput) (start : ℕ) (es : List Event) (report : Yields) (ended : Bool) (events : ℕ) → HasReplayed TellsYields g start es report ended events
    → ending.Yields report.entries ≡ ending_of g start es
ending_on g start es report ended events has = rw has.accepted (ap (λ (entries : List Entry). ending.Yields entries) has.told)

-- where its events were read, it is the end of their replay
of_events : (setup : Setup) (answer : Replayed Yields) (reading : Result (List Event) ℕ) → IsReplayedTo TellsYields (reading >>= λ events. Ok (record { setup = setup; events = events })) answer
    → ReadsYields setup (reading >>= λ events. Ok (record { setup = setup; events = events })) (ending_by answer)
of_events setup (replayed.Done report ended events) (Ok es) has = (es, refl, ending_on (replay_input setup) setup.start es report ended events has)
of_events setup (replayed.Refused refusal) (Ok es) refuses = (es, refl, rw refuses refl)
of_events setup (replayed.BadLine line) (Ok es) never = absurd never
of_events setup (replayed.Done report ended events) (Err n) never = absurd never
of_events setup (replayed.Refused refusal) (Err n) never = absurd never
of_events setup (replayed.BadLine line) (Err n) same = ap Err same

pub ends_read : (setup : Setup) (lines : List (List ℕ)) (answer : Replayed Yields) → IsReplayedTo TellsYields (with_lines_in Plain setup lines) answer → ReadsYields setup (with_lines setup lines) (ending_by answer)
ends_read setup lines answer is = of_events setup answer (events_in Plain 2 lines) is

-- ---- the first line

-- no bytes are read as none
pub no_bytes : (bytes : List ℕ) → bytes ≡ [] → transcript bytes ≡ Err 1
no_bytes bytes none = ap transcript none ∙ by_lines Plain []

-- a first line that does not read
pub first_stops : (bytes line : List ℕ) (lines : List (List ℕ)) (e : Unread) → lines_of bytes ≡ line ∷ lines → StopsAt e (numbered 1 (setup_line line)) → StopsAt e (transcript bytes)
first_stops bytes line lines unread.OutOfMemory cut fails = tt
first_stops bytes line lines (unread.BadLine n) cut fails = of_lines bytes line lines cut ∙ ap (λ (r : Result Setup ℕ). r >>= λ setup. with_lines setup lines) fails
