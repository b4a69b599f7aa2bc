-- What a transcript says, and which of its lines is the first that does not read.
use Rattle.std.specs.Prelude.{◌≡◌, ℕ, ◌+◌, List, [], ◌∷◌, ◌++◌, length, Result, Ok, Err, ⊤}
use Rattle.js_json_members.specs.declared.error.ReadError.{ReadError}
use Rattle.js_ordered_table.specs.declared.event.Event.{Event}
use Rattle.js_tool_transcript.specs.declared.transcript.lines.Lines.{Lines}
use Rattle.js_tool_transcript.specs.declared.transcript.lines.Lines.TheVariants.{Plain, Extended}
use Rattle.js_tool_transcript.specs.declared.transcript.setup.Setup.{Setup}
use Rattle.js_tool_transcript.specs.declared.transcript.Transcript.{Transcript}
use Rattle.js_tool_transcript.specs.declared.transcript.Unread.{Unread}
use Rattle.js_tool_transcript.specs.declared.transcript.Unread.TheVariants as unread
use Rattle.js_tool_io.specs.Lines.{lines_of}
use Rattle.js_tool_transcript.specs.ExtendedSetup.{setup_line_in}
use Rattle.js_tool_transcript.specs.Event.{event_line_in}

-- what follows, where the line reads
infixl 10 ◌>>=◌
abbrev pub ◌>>=◌ : {A B : Type 0} → Result A ℕ → (A → Result B ℕ) → Result B ℕ
(Ok x) >>= f = f x
(Err n) >>= f = Err n

-- what a line says, or its number
abbrev pub numbered : {A : Type 0} → ℕ → Result A ReadError → Result A ℕ
numbered n (Ok x) = Ok x
numbered n (Err fault) = Err n

-- ---- by the form of the lines

-- the events of the lines, or the number of the first that does not read
abbrev pub events_in : Lines → ℕ → List (List ℕ) → Result (List Event) ℕ
events_in form n [] = Ok []
events_in form n (line ∷ lines) = numbered n (event_line_in form line) >>= λ event. events_in form (n + 1) lines >>= λ events. Ok (event ∷ events)

-- a setup, and the events of the further lines
abbrev pub with_lines_in : Lines → Setup → List (List ℕ) → Result Transcript ℕ
with_lines_in form setup lines = events_in form 2 lines >>= λ events. Ok (record { setup = setup; events = events })

-- a setup and events, or the number of the first line that does not read
abbrev pub transcript_of_in : Lines → List (List ℕ) → Result Transcript ℕ
transcript_of_in form [] = Err 1
transcript_of_in form (line ∷ lines) = numbered 1 (setup_line_in form line) >>= λ setup. with_lines_in form setup lines

-- the events that were read before, and those that are still read
abbrev pub after_lines : List Event → Result (List Event) ℕ → Result (List Event) ℕ
after_lines before reading = reading >>= λ events. Ok (before ++ events)

-- these events and those of the lines that follow, or the number of the first line that does not read
abbrev pub read_after_in : Lines → List Event → List (List ℕ) → Result (List Event) ℕ
read_after_in form es lines = after_lines es (events_in form (length es + 2) lines)

-- ---- a transcript

abbrev pub events_from : ℕ → List (List ℕ) → Result (List Event) ℕ
events_from = events_in Plain

abbrev pub with_lines : Setup → List (List ℕ) → Result Transcript ℕ
with_lines = with_lines_in Plain

abbrev pub transcript_of : List (List ℕ) → Result Transcript ℕ
transcript_of = transcript_of_in Plain

-- what the bytes say, by their lines
unfoldable pub transcript : List ℕ → Result Transcript ℕ
transcript bytes = transcript_of (lines_of bytes)

abbrev pub read_after : List Event → List (List ℕ) → Result (List Event) ℕ
read_after = read_after_in Plain

-- ---- a transcript that may have extended lines

-- what the bytes say, by their lines
unfoldable pub extended_transcript : List ℕ → Result Transcript ℕ
extended_transcript bytes = transcript_of_in Extended (lines_of bytes)

-- what the bytes say, where their lines have this form
abbrev pub transcript_in : Lines → List ℕ → Result Transcript ℕ
transcript_in Plain = transcript
transcript_in Extended = extended_transcript

abbrev pub StopsAt : {A : Type 0} → Unread → Result A ℕ → Type 0
StopsAt unread.OutOfMemory reading = ⊤
StopsAt (unread.BadLine n) reading = reading ≡ Err n

-- What a call answers is what reading gives, seen by a view, unless memory ran out.
abbrev pub GivesLines : {A B : Type 0} → (A → B) → Result A Unread → Result B ℕ → Type 0
GivesLines view (Ok x) reading = reading ≡ Ok (view x)
GivesLines view (Err e) reading = StopsAt e reading
