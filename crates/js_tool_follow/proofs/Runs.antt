-- What was said is the text of a run, and valid input brings it about.
use Rattle.std.proofs.Common.{◌≡◌, ℕ, ◌+◌, List, [], ◌∷◌, ◌++◌, length, Option, Some, None, IfSome, Result, Ok, Err, refl, subst}
use Rattle.std.specs.Prelude.{⊤}
use Rattle.std.specs.Io.KnownBytes.{Appends}
use Rattle.js_tool_io.specs.Lines.{lines_of}
use Rattle.js_ordered_table.specs.declared.event.Event.{Event}
use Rattle.js_ordered_table.specs.declared.run.ReplayError.{ReplayError}
use Rattle.js_ordered_table.specs.Fold.{fold}
use Rattle.js_ordered_table.specs.Refusal.{refuse}
use Rattle.js_ordered_table.proofs.Promises.{fold_replays}
use Rattle.js_tool.specs.declared.status.Status.{Status}
use Rattle.js_tool.specs.declared.status.Status.TheVariants as status
use Rattle.js_tool_transcript.specs.declared.transcript.setup.Setup.{Setup}
use Rattle.js_tool_transcript.specs.Event.{event_line}
use Rattle.js_tool_transcript.specs.TranscriptReplay.{replay_input}
use Rattle.js_tool_transcript.specs.Setup.{setup_line}
use Rattle.js_tool_transcript.specs.Transcript.{numbered}
use Rattle.js_tool.specs.declared.command.FollowOptions.{FollowOptions}
use Rattle.js_tool_follow.specs.Conversation.{AnswersLines, WritesRun}
use Rattle.js_tool_follow.specs.AnswerText.{text_to}
use Rattle.js_tool_follow.specs.Standing.{Standing, Unopened, Going, Over, passed, opened, went_on, next, after, standing, said_in_all, end_of}
use Rattle.js_tool_follow.proofs.AnswerTexts.{plain_run}
use Rattle.js_tool_follow.proofs.LinesTold.{is_run}

-- ---- a run

-- it is never over as where all is done
NotDone : Standing → Type 0
NotDone Unopened = ⊤
NotDone (Going setup es) = ⊤
NotDone (Over text s) = s ≡ status.Done → ⊥

passed_not : (setup : Setup) (es : List Event) (before : List ℕ) (refusal : Option ReplayError) → NotDone (passed setup es before refusal)
unfolding NotDone
passed_not setup es before None = tt
passed_not setup es before (Some refusal) = λ is. cc

opened_not : (reading : Result Setup ℕ) → NotDone (opened reading)
unfolding NotDone
opened_not (Ok setup) = passed_not setup [] [] (refuse (replay_input setup) setup.start [])
opened_not (Err n) = λ is. cc

went_not : (asked : FollowOptions) (setup : Setup) (es : List Event) (reading : Result Event ℕ) → NotDone (went_on asked setup es reading)
unfolding NotDone
went_not asked setup es (Ok e) = passed_not setup (es ++ e ∷ []) (text_to asked setup es) (refuse (replay_input setup) setup.start (es ++ e ∷ []))
went_not asked setup es (Err n) = λ is. cc

next_not : (asked : FollowOptions) (s : Standing) (line : List ℕ) → NotDone s → NotDone (next asked s line)
unfolding NotDone
next_not asked Unopened line fit = opened_not (numbered 1 (setup_line line))
next_not asked (Going setup es) line fit = went_not asked setup es (numbered (length es + 2) (event_line line))
next_not asked (Over text s) line fit = fit

after_not : (asked : FollowOptions) (s : Standing) (lines : List (List ℕ)) → NotDone s → NotDone (after asked s lines)
after_not asked s [] fit = fit
after_not asked s (line ∷ lines) fit = after_not asked (next asked s line) lines (next_not asked s line fit)

standing_not : (asked : FollowOptions) (lines : List (List ℕ)) → NotDone (standing asked lines)
unfolding standing NotDone
standing_not asked lines = after_not asked Unopened lines tt

not_done : (text : List ℕ) (s : Status) → NotDone (Over text s) → s ≡ status.Done → ⊥
unfolding NotDone
not_done text s fit ends = fit ends

-- so what is done is the text of a run
pub writes_run : (asked : FollowOptions) (bytes : List ℕ) (taken now : Option (List ℕ)) → AnswersLines asked (lines_of bytes) taken now status.Done → WritesRun asked bytes taken now
writes_run asked bytes taken now (ends, appends) = by_standing (standing asked (lines_of bytes)) refl ends appends (standing_not asked (lines_of bytes))
  where
    by_standing : (s : Standing) → standing asked (lines_of bytes) ≡ s → end_of s ≡ status.Done → Appends taken now (said_in_all asked s) → NotDone s → WritesRun asked bytes taken now
    by_standing Unopened is ends appends fit = absurd (cc)
    by_standing (Over text s) is ends appends fit = absurd (not_done text s fit ends)
    by_standing (Going setup es) is ends appends fit =
        let run = is_run asked (lines_of bytes) setup es is in
        record {
          transcript = record { setup = setup; events = es };
          reads = run.reads;
          run = fold (replay_input setup) setup.start es;
          replays = fold_replays (replay_input setup) setup.start es (fold (replay_input setup) setup.start es) run.accepted refl;
          written = appends;
          same = λ none. plain_run asked setup es taken now none appends;
        }

pub run_told : (asked : FollowOptions) (left taken now : Option (List ℕ)) (s : Status) → IfSome left (λ bytes. AnswersLines asked (lines_of bytes) taken now s) → s ≡ status.Done → IfSome left (λ bytes. WritesRun asked bytes taken now)
run_told asked None taken now s told done = tt
run_told asked (Some bytes) taken now s told done = writes_run asked bytes taken now (subst (λ (x : Status). AnswersLines asked (lines_of bytes) taken now x) done told)
