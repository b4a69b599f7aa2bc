-- Line after line: what was passed, and what the lines that are left say.
use Rattle.std.proofs.Common.{◌≡◌, ℕ, ◌≤◌, List, [], ◌∷◌, ◌++◌, length, refl, sym, ap, ◌∙◌, subst, append_assoc, append-nil, arith}
use Rattle.std.specs.Prelude.{Result, Ok, Err, IfOk, OnOk}
use Rattle.js_ordered_table.specs.declared.consumer.ReplayInput.{ReplayInput}
use Rattle.js_ordered_table.specs.declared.event.Event.{Event}
use Rattle.js_ordered.specs.IncrementalReplay.{HasCome}
use Rattle.js_tool.specs.declared.step_report.Replayed.{Replayed}
use Rattle.js_tool.specs.declared.step_report.Replayed.TheVariants as replayed
use Rattle.js_tool.specs.declared.progress.Progress.{Progress}
use Rattle.js_tool_transcript.specs.declared.transcript.Transcript.{Transcript}
use Rattle.js_tool_transcript.specs.declared.transcript.lines.Lines.{Lines}
use Rattle.js_tool_transcript.specs.declared.transcript.setup.Setup.{Setup}
use Rattle.js_tool_transcript.specs.declared.transcript.Unread.{Unread}
use Rattle.js_tool_transcript.specs.declared.transcript.Unread.TheVariants as unread
use Rattle.js_tool_transcript.specs.TranscriptReplay.{replay_input, FirstUnreadAs}
use Rattle.js_tool.specs.Progress.{Tells, HasPassed, PassesTo, StopsOn, IsReplayedOn, IsReplayedTo, IsReplayed}
use Rattle.js_tool_transcript.specs.Transcript.{read_after_in, ◌>>=◌, events_in, with_lines_in, transcript_in}
use Rattle.js_tool_transcript.proofs.LinesRead.{whole_in, by_lines}

-- ---- lines

module _ (R : Type 0) (tells : Tells R) where
  -- at first all lines are left
  pub passes_none : (form : Lines) (p : Progress R) (lines : List (List ℕ)) → PassesTo tells form p lines p lines
  passes_none form p lines = λ g start es passed. (es, passed, λ more. refl)

  -- some more were passed
  pub passes_more : (form : Lines) (first old new : Progress R) (lines front left : List (List ℕ)) → PassesTo tells form first lines old (front ++ left) → PassesTo tells form old front new [] → PassesTo tells form first lines new left
  passes_more form first old new lines front left before passes = λ g start es passed.
      let (some, was, so_far) = before g start es passed in
      let (all, is, onward) = passes g start some was in
      (all, is, λ more. so_far more ∙ ap (read_after_in form some) (append_assoc front left more) ∙ onward (left ++ more))

  -- or it stopped
  pub stops_more : (form : Lines) (first old : Progress R) (lines front left : List (List ℕ)) (e : Unread) → PassesTo tells form first lines old (front ++ left) → StopsOn tells form old front e → StopsOn tells form first lines e
  stops_more form first old lines front left unread.OutOfMemory before stops = tt
  stops_more form first old lines front left (unread.BadLine n) before stops = λ g start es passed more.
      let (some, was, so_far) = before g start es passed in
      so_far more ∙ ap (read_after_in form some) (append_assoc front left more) ∙ stops g start some was (left ++ more)

  -- one event more is passed where the replay comes through it and the report tells of it
  pub passes_one : {A E : Type 0} (result : Result A E) (old new : Progress R) (e : Event) → new.setup ≡ old.setup
      → ((start : ℕ) (es : List Event) → HasCome (replay_input old.setup.now) start es old.replay → OnOk result (HasCome (replay_input old.setup.now) start (es ++ e ∷ []) new.replay))
      → ((start : ℕ) (es : List Event) → HasCome (replay_input old.setup.now) start es old.replay → tells (replay_input old.setup.now) start es old.report
      → OnOk result (tells (replay_input old.setup.now) start (es ++ e ∷ []) new.report))
      → (g : ReplayInput) (start : ℕ) (es : List Event) → HasPassed tells g start es old → OnOk result (HasPassed tells g start (es ++ e ∷ []) new)
  passes_one (Err fault) old new e same comes tells_on g start es passed = tt
  passes_one (Ok x) old new e same comes tells_on g start es passed =
      let came : HasCome (replay_input old.setup.now) start es old.replay = subst (λ (h : ReplayInput). HasCome h start es old.replay) (sym passed.given) passed.replay in
      let told : tells (replay_input old.setup.now) start es old.report = subst (λ (h : ReplayInput). tells h start es old.report) (sym passed.given) passed.told in
      subst (λ (h : ReplayInput). HasPassed tells h start (es ++ e ∷ []) new) passed.given
      (record { given = ap (λ s. replay_input s.now) same; replay = comes start es came; told = tells_on start es came told })

  -- ---- what they come to

  answered : (setup : Setup) (es : List Event) (answer : Replayed R) (reading : Result (List Event) ℕ) → reading ≡ Ok es → IsReplayedOn tells (replay_input setup) setup.start es answer
      → IsReplayedTo tells (reading >>= λ events. Ok (record { setup = setup; events = events })) answer
  answered setup es answer reading reads replies = rw reads replies

  -- where all lines were passed it is what their events come to
  pub concludes : (form : Lines) (setup : Setup) (first new : Progress R) (lines : List (List ℕ)) (answer : Replayed R) → HasPassed tells (replay_input setup) setup.start [] first → PassesTo tells form first lines new []
      → ((g : ReplayInput) (start : ℕ) (es : List Event) → HasPassed tells g start es new → IsReplayedOn tells g start es answer) → IsReplayedTo tells (with_lines_in form setup lines) answer
  concludes form setup first new lines answer opened passes replies =
      let (es, passed, reads) = passes (replay_input setup) setup.start [] opened in
      answered setup es answer (events_in form 2 lines) (whole_in form lines ∙ reads [] ∙ ap Ok (append-nil es)) (replies (replay_input setup) setup.start es passed)

  unread_line : (setup : Setup) (n : ℕ) (reading : Result (List Event) ℕ) → reading ≡ Err n
      → IsReplayedTo tells (reading >>= λ events. Ok (record { setup = setup; events = events })) (replayed.BadLine n)
  unread_line setup n reading fails = rw fails refl

  -- and where one does not read, it is its number
  pub one_stops : (form : Lines) (setup : Setup) (first : Progress R) (lines : List (List ℕ)) (n : ℕ) → HasPassed tells (replay_input setup) setup.start [] first → StopsOn tells form first lines (unread.BadLine n)
      → IsReplayedTo tells (with_lines_in form setup lines) (replayed.BadLine n)
  one_stops form setup first lines n opened stops = unread_line setup n (events_in form 2 lines) (whole_in form lines ∙ stops (replay_input setup) setup.start [] opened [])

  outcome_on : (reading : Result Transcript ℕ) (bytes : List ℕ) (t : Transcript) (answer : Replayed R) → length bytes ≤ 67_108_864 → reading ≡ Ok t → IsReplayedOn tells (replay_input t.setup) t.setup.start t.events answer
      → IsReplayed tells reading bytes answer
  outcome_on reading bytes t (replayed.Done report ended events) within reads has = record { within = within; by = (t, reads, has) }
  outcome_on reading bytes t (replayed.Refused refusal) within reads refuses = record { within = within; by = (t, reads, refuses) }
  outcome_on reading bytes t (replayed.BadLine line) within reads never = absurd never

  unread_as : (reading : Result Transcript ℕ) (bytes : List ℕ) (n : ℕ) (answer : Replayed R) → length bytes ≤ 67_108_864 → reading ≡ Err n → IsReplayedTo tells (Err n) answer → IsReplayed tells reading bytes answer
  unread_as reading bytes n (replayed.BadLine line) within reads same = record { within = within; by = reads ∙ ap Err same }
  unread_as reading bytes n (replayed.Done report ended events) within reads never = absurd never
  unread_as reading bytes n (replayed.Refused refusal) within reads never = absurd never

  outcome_to : (reading : Result Transcript ℕ) (bytes : List ℕ) (answer : Replayed R) (read : Result Transcript ℕ) → length bytes ≤ 67_108_864 → reading ≡ read → IsReplayedTo tells read answer
      → IsReplayed tells reading bytes answer
  outcome_to reading bytes answer (Ok t) within reads replies = outcome_on reading bytes t answer within reads replies
  outcome_to reading bytes answer (Err n) within reads replies = unread_as reading bytes n answer within reads replies

  -- what the bytes say comes to is what the bytes come to
  pub result_to : {E : Type 0} (reading : Result Transcript ℕ) (bytes : List ℕ) (result : Result (Replayed R) E) (read : Result Transcript ℕ) → length bytes ≤ 67_108_864 → reading ≡ read
      → IfOk result (λ answer. IsReplayedTo tells read answer) → IfOk result (λ answer. IsReplayed tells reading bytes answer)
  result_to reading bytes (Ok answer) read within reads replies = outcome_to reading bytes answer read within reads replies
  result_to reading bytes (Err e) read within reads replies = tt

-- no bytes have no first line
pub no_bytes : (form : Lines) (bytes : List ℕ) → bytes ≡ [] → FirstUnreadAs (transcript_in form bytes) bytes 1
no_bytes form bytes none = subst (λ (b : List ℕ). FirstUnreadAs (transcript_in form b) b 1) (sym none) (record { within = omega arith; by = by_lines form [] })
