-- What reads as a transcript reads the same where extended lines are read too.
use Rattle.std.proofs.Common.{◌≡◌, ℕ, ◌+◌, List, [], ◌∷◌, refl, sym, subst, ap, ◌∙◌}
use Rattle.std.specs.Prelude.{Result, Ok, Err, IfOk}
use Rattle.js_json_members.specs.declared.error.ReadError.{ReadError}
use Rattle.js_tool_io.specs.Lines.{lines_of}
use Rattle.js_ordered_table.specs.declared.event.Event.{Event}
use Rattle.js_tool_transcript.specs.declared.transcript.lines.Lines.{Lines}
use Rattle.js_tool_transcript.specs.declared.transcript.lines.Lines.TheVariants.{Plain}
use Rattle.js_tool_transcript.specs.declared.transcript.Transcript.{Transcript}
use Rattle.js_tool_transcript.specs.declared.transcript.setup.Setup.{Setup}
use Rattle.js_tool_transcript.specs.ExtendedSetup.{setup_line_in}
use Rattle.js_tool_transcript.specs.Setup.{setup_line}
use Rattle.js_tool_transcript.specs.Event.{event_line, event_line_in}
use Rattle.js_tool_transcript.specs.Transcript.{◌>>=◌, numbered, events_in, with_lines_in, transcript_of_in, transcript, transcript_in}
use Rattle.js_tool_transcript.proofs.LinesAgree.{reads_alike, setup_alike}
use Rattle.js_tool_transcript.proofs.LinesRead.{by_lines}

-- what the one reads the other reads too
abbrev Agree : {A : Type 0} → Result A ℕ → Result A ℕ → Type 0
Agree plain extended = IfOk plain (λ x. extended ≡ Ok x)

then_agree : {A B : Type 0} (r s : Result A ℕ) (f g : A → Result B ℕ) → Agree r s → ((x : A) → Agree (f x) (g x)) → Agree (r >>= f) (s >>= g)
then_agree {A} {B} (Ok x) s f g same next = subst (λ (t : Result A ℕ). Agree {A = B} (f x) (t >>= g)) (sym same) (next x)
then_agree (Err n) s f g same next = tt

one_agrees : (form : Lines) (n : ℕ) (line : List ℕ) → Agree (numbered n (event_line line)) (numbered n (event_line_in form line))
one_agrees form n line = by_reading (event_line line) refl
  where
    by_reading : (r : Result Event ReadError) → event_line line ≡ r → Agree {A = Event} (numbered n r) (numbered n (event_line_in form line))
    by_reading (Ok e) is = ap (numbered n) (reads_alike form line e is)
    by_reading (Err fault) is = tt

events_agree : (form : Lines) (n : ℕ) (lines : List (List ℕ)) → Agree (events_in Plain n lines) (events_in form n lines)
events_agree form n [] = refl
events_agree form n (line ∷ lines) =
    let rest = events_agree form (n + 1) lines in
    then_agree (numbered n (event_line line)) (numbered n (event_line_in form line)) (λ event. events_in Plain (n + 1) lines >>= λ events. Ok (event ∷ events))
    (λ event. events_in form (n + 1) lines >>= λ events. Ok (event ∷ events)) (one_agrees form n line)
    (λ event. then_agree (events_in Plain (n + 1) lines) (events_in form (n + 1) lines) (λ events. Ok (event ∷ events)) (λ events. Ok (event ∷ events)) rest (λ events. refl))

first_agrees : (form : Lines) (line : List ℕ) → Agree (numbered 1 (setup_line line)) (numbered 1 (setup_line_in form line))
first_agrees form line = by_reading (setup_line line) refl
  where
    by_reading : (r : Result Setup ReadError) → setup_line line ≡ r → Agree {A = Setup} (numbered 1 r) (numbered 1 (setup_line_in form line))
    by_reading (Ok s) is = ap (numbered 1) (setup_alike form line s is)
    by_reading (Err fault) is = tt

lines_agree : (form : Lines) (lines : List (List ℕ)) → Agree (transcript_of_in Plain lines) (transcript_of_in form lines)
lines_agree form [] = tt
lines_agree form (line ∷ lines) =
    then_agree (numbered 1 (setup_line line)) (numbered 1 (setup_line_in form line)) (λ setup. with_lines_in Plain setup lines) (λ setup. with_lines_in form setup lines) (first_agrees form line)
    (λ setup. then_agree (events_in Plain 2 lines) (events_in form 2 lines) (λ events. Ok (record { setup = setup; events = events })) (λ events. Ok (record { setup = setup; events = events }))
    (events_agree form 2 lines) (λ events. refl))

-- what a transcript says it says in both forms
pub transcripts_alike : (form : Lines) (bytes : List ℕ) (t : Transcript) → transcript bytes ≡ Ok t → transcript_in form bytes ≡ Ok t
transcripts_alike form bytes t is =
    by_lines form bytes
    ∙ subst (λ (r : Result Transcript ℕ). Agree r (transcript_of_in form (lines_of bytes))) (sym (by_lines Plain bytes) ∙ is) (lines_agree form (lines_of bytes))
