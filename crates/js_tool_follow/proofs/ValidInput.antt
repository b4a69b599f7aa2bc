-- Valid input brings its text about.
use Rattle.std.proofs.Common.{◌≡◌, ℕ, ◌+◌, Bool, true, false, nat_lt, if◌then◌else◌, List, [], ◌∷◌, ◌++◌, length, Option, Some, None, IfSome, Result, Ok, Err, refl, sym, ap, subst, ◌∙◌, append-nil, append_assoc}
use Rattle.std.specs.List.{AllByRecursion}
use Rattle.js_tool_io.specs.Lines.{lines_of}
use Rattle.js_ordered_table.specs.declared.event.Event.{Event}
use Rattle.js_ordered_table.specs.declared.run.ReplayError.{ReplayError}
use Rattle.js_ordered_table.specs.Refusal.{first_early}
use Rattle.js_ordered_table.specs.Replay.{IsValid, IsEventBelowEnd}
use Rattle.js_ordered_table.proofs.Accepted.{valid_accepted}
use Rattle.js_tool.specs.declared.status.Status.{Status}
use Rattle.js_tool.specs.declared.status.Status.TheVariants as status
use Rattle.js_tool_transcript.specs.declared.transcript.setup.Setup.{Setup}
use Rattle.js_tool_transcript.specs.declared.transcript.Transcript.{Transcript}
use Rattle.js_tool_transcript.specs.Event.{event_line}
use Rattle.js_tool.specs.Program.{IsUnlessFailed}
use Rattle.js_tool_transcript.specs.TranscriptReplay.{replay_input}
use Rattle.js_tool_transcript.specs.Setup.{setup_line}
use Rattle.js_tool_transcript.specs.Transcript.{◌>>=◌, numbered, events_from, with_lines, transcript_of}
use Rattle.js_tool.specs.declared.command.FollowOptions.{FollowOptions}
use Rattle.js_tool_follow.specs.Conversation.{AnswersLines, IsValidInput}
use Rattle.js_tool_follow.specs.AnswerText.{text_to}
use Rattle.js_tool_follow.specs.Standing.{Going, passed, opened, went_on, after, standing, end_of, status_for}
use Rattle.js_tool_follow.proofs.LinesTold.{one_longer, with_events}

ok_same : {A : Type 0} (a b : A) → ◌≡◌ {A = Result A ℕ} (Ok a) (Ok b) → a ≡ b
ok_same a b same = cc

never_ok : {A : Type 0} (n : ℕ) (b : A) → ◌≡◌ {A = Result A ℕ} (Err n) (Ok b) → ⊥
never_ok n b same = cc

never_none : {A : Type 0} (a : A) → ◌≡◌ {A = Option A} (Some a) None → ⊥
never_none a same = cc

moments_front : (place before : ℕ) (es more : List Event) → first_early place before (es ++ more) ≡ None → first_early place before es ≡ None
moments_front place before [] more none = refl
moments_front place before (e ∷ es) more none = by_test (λ rest. moments_front (place + 1) e.at es more rest) (nat_lt e.at before) none
  where
    by_test : (first_early (place + 1) e.at (es ++ more) ≡ None → first_early (place + 1) e.at es ≡ None) → (early : Bool) → (if early then Some place else first_early (place + 1) e.at (es ++ more)) ≡ None → (if early then Some place else first_early (place + 1) e.at es) ≡ None
    by_test again true none = absurd (never_none place none)
    by_test again false none = again none

arrivals_front : (P : Event → Type 0) (es more : List Event) → AllByRecursion P (es ++ more) → AllByRecursion P es
arrivals_front P [] more all = tt
arrivals_front P (e ∷ es) more all = (all.0, arrivals_front P es more all.1)

valid_front : (setup : Setup) (es more : List Event) → IsValid (replay_input setup) setup.start (es ++ more) → IsValid (replay_input setup) setup.start es
valid_front setup es more valid = record {
  subject = valid.subject;
  settings = valid.settings;
  moments = moments_front 0 setup.start es more valid.moments;
  arrivals = arrivals_front (λ e. IsEventBelowEnd e.what) es more valid.arrivals;
}

valid_goes : (asked : FollowOptions) (setup : Setup) (es more : List Event) (lines : List (List ℕ)) → IsValid (replay_input setup) setup.start (es ++ more) → events_from (length es + 2) lines ≡ Ok more
    → after asked (Going setup es) lines ≡ Going setup (es ++ more)
valid_goes asked setup es more [] valid reads =
    let none : more ≡ [] = ok_same more [] (sym reads) in
    ap (Going setup) (sym (append-nil es) ∙ ap (λ (rest : List Event). es ++ rest) (sym none))
valid_goes asked setup es more (line ∷ lines) valid reads =
    by_line (λ e rest valid_on goes. valid_goes asked setup (es ++ e ∷ []) rest lines valid_on goes) (numbered (length es + 2) (event_line line)) refl reads
  where
    by_line : ((e : Event) (rest : List Event) → IsValid (replay_input setup) setup.start ((es ++ e ∷ []) ++ rest) → events_from (length (es ++ e ∷ []) + 2) lines ≡ Ok rest → after asked (Going setup (es ++ e ∷ [])) lines ≡ Going setup ((es ++ e ∷ []) ++ rest))
        → (reading : Result Event ℕ) → numbered (length es + 2) (event_line line) ≡ reading
        → (reading >>= λ event. events_from (length es + 2 + 1) lines >>= λ events. Ok (event ∷ events)) ≡ Ok more → after asked (went_on asked setup es reading) lines ≡ Going setup (es ++ more)
    by_line again (Err n) is reads = absurd (never_ok n more reads)
    by_line again (Ok e) is reads = by_rest (events_from (length es + 2 + 1) lines) refl reads
      where
        by_rest : (reading : Result (List Event) ℕ) → events_from (length es + 2 + 1) lines ≡ reading → (reading >>= λ events. Ok (e ∷ events)) ≡ Ok more
            → after asked (went_on asked setup es (Ok e)) lines ≡ Going setup (es ++ more)
        by_rest (Err n) is reads = absurd (never_ok n more reads)
        by_rest (Ok rest) is reads =
            let first : more ≡ e ∷ rest = ok_same more (e ∷ rest) (sym reads) in
            let joined : es ++ more ≡ (es ++ e ∷ []) ++ rest = ap (λ (m : List Event). es ++ m) first ∙ sym (append_assoc es (e ∷ []) rest) in
            let valid_on : IsValid (replay_input setup) setup.start ((es ++ e ∷ []) ++ rest) = subst (λ (all : List Event). IsValid (replay_input setup) setup.start all) joined valid in
            let accepted = valid_accepted (replay_input setup) setup.start (es ++ e ∷ []) (valid_front setup (es ++ e ∷ []) rest valid_on) in
            ap (λ (r : Option ReplayError). after asked (passed setup (es ++ e ∷ []) (text_to asked setup es) r) lines) accepted
            ∙ again e rest valid_on (ap (λ (n : ℕ). events_from n lines) (one_longer es e) ∙ is)
            ∙ ap (Going setup) (sym joined)

valid_done : (asked : FollowOptions) (lines : List (List ℕ)) (t : Transcript) → transcript_of lines ≡ Ok t → IsValid (replay_input t.setup) t.setup.start t.events → status_for asked lines ≡ status.Done
unfolding standing
valid_done asked [] t reads valid = absurd (never_ok 1 t reads)
valid_done asked (line ∷ lines) t reads valid = by_setup (numbered 1 (setup_line line)) reads
  where
    by_setup : (reading : Result Setup ℕ) → (reading >>= λ setup. with_lines setup lines) ≡ Ok t → end_of (after asked (opened reading) lines) ≡ status.Done
    by_setup (Err n) reads = absurd (never_ok n t reads)
    by_setup (Ok setup) reads = by_events (events_from 2 lines) refl reads
      where
        by_events : (reading : Result (List Event) ℕ) → events_from 2 lines ≡ reading → with_events setup reading ≡ Ok t → end_of (after asked (opened (Ok setup)) lines) ≡ status.Done
        by_events (Err n) is reads = absurd (never_ok n t reads)
        by_events (Ok es) is reads =
            let made : Transcript = record { setup = setup; events = es } in
            let same : t ≡ made = ok_same t made (sym reads) in
            let valid_made : IsValid (replay_input setup) setup.start ([] ++ es) = subst (λ (x : Transcript). IsValid (replay_input x.setup) x.setup.start x.events) same valid in
            let accepted = valid_accepted (replay_input setup) setup.start [] (valid_front setup [] es valid_made) in
            ap (λ (r : Option ReplayError). end_of (after asked (passed setup [] [] r) lines)) accepted ∙ ap end_of (valid_goes asked setup [] es lines valid_made is)

unless_failed : (asked : FollowOptions) (lines : List (List ℕ)) (taken now : Option (List ℕ)) (s : Status) → AnswersLines asked lines taken now s → status_for asked lines ≡ status.Done → IsUnlessFailed s status.Done
unless_failed asked lines taken now status.ReadFault told done = tt
unless_failed asked lines taken now status.OutOfMemory told done = tt
unless_failed asked lines taken now status.WriteFault told done = tt
unless_failed asked lines taken now status.Done told done = refl
unless_failed asked lines taken now status.Usage told done = sym done ∙ told.0
unless_failed asked lines taken now status.Refused told done = sym done ∙ told.0
unless_failed asked lines taken now status.TooLong told done = sym done ∙ told.0
unless_failed asked lines taken now (status.BadLine n) told done = sym done ∙ told.0

pub valid_told : (asked : FollowOptions) (left taken now : Option (List ℕ)) (s : Status) → IfSome left (λ bytes. AnswersLines asked (lines_of bytes) taken now s) → IfSome left (λ bytes. IsValidInput bytes → IsUnlessFailed s status.Done)
valid_told asked None taken now s told = tt
valid_told asked (Some bytes) taken now s told = λ valid. unless_failed asked (lines_of bytes) taken now s told (valid_done asked (lines_of bytes) valid.0 valid.1 valid.2)
