-- What the lines of a transcript are read as, by those that are read first.
use Rattle.std.proofs.Common.{◌≡◌, ℕ, List, [], ◌∷◌, ◌++◌, refl, sym, ap, ◌∙◌, append-nil}
use Rattle.std.specs.Prelude.{Result, Ok, Err}
use Rattle.js_ordered_table.specs.declared.event.Event.{Event}
use Rattle.js_tool_transcript.specs.declared.transcript.lines.Lines.{Lines}
use Rattle.js_tool_transcript.specs.declared.transcript.lines.Lines.TheVariants.{Plain, Extended}
use Rattle.js_tool_transcript.specs.declared.transcript.setup.Setup.{Setup}
use Rattle.js_tool_io.specs.Lines.{lines_of}
use Rattle.js_tool_transcript.specs.Setup.{setup_line}
use Rattle.js_tool_transcript.specs.Transcript.{read_after, read_after_in, ◌>>=◌, numbered, events_from, events_in, with_lines, after_lines, transcript, extended_transcript, transcript_in, transcript_of, transcript_of_in}

read_whole : (reading : Result (List Event) ℕ) → after_lines [] reading ≡ reading
read_whole (Ok events) = refl
read_whole (Err n) = refl

-- all lines are those behind none
pub whole_in : (form : Lines) (lines : List (List ℕ)) → events_in form 2 lines ≡ read_after_in form [] (lines ++ [])
whole_in form lines = sym (ap (λ (all : List (List ℕ)). events_in form 2 all) (append-nil lines)) ∙ sym (read_whole (events_in form 2 (lines ++ [])))

pub whole : (lines : List (List ℕ)) → events_from 2 lines ≡ read_after [] (lines ++ [])
whole lines = whole_in Plain lines

-- what bytes say by the lines of a form
pub by_lines : (form : Lines) (bytes : List ℕ) → transcript_in form bytes ≡ transcript_of_in form (lines_of bytes)
unfolding transcript extended_transcript
by_lines Plain bytes = refl
by_lines Extended bytes = refl

-- they say what their lines say
pub of_lines_in : (form : Lines) (bytes line : List ℕ) (lines : List (List ℕ)) → lines_of bytes ≡ line ∷ lines → transcript_in form bytes ≡ transcript_of_in form (line ∷ lines)
of_lines_in form bytes line lines cut = by_lines form bytes ∙ ap (transcript_of_in form) cut

pub of_lines : (bytes line : List ℕ) (lines : List (List ℕ)) → lines_of bytes ≡ line ∷ lines → transcript bytes ≡ transcript_of (line ∷ lines)
of_lines bytes line lines cut = of_lines_in Plain bytes line lines cut

-- a setup, and the lines after it
pub with_setup : (bytes line : List ℕ) (lines : List (List ℕ)) (setup : Setup) → lines_of bytes ≡ line ∷ lines → numbered 1 (setup_line line) ≡ Ok setup → transcript bytes ≡ with_lines setup lines
with_setup bytes line lines setup cut reads = of_lines bytes line lines cut ∙ ap (λ (r : Result Setup ℕ). r >>= λ setup. with_lines setup lines) reads
