-- What the lines that are left say, as one after another is read.
use Rattle.std.proofs.Common.{◌≡◌, ℕ, ◌+◌, ◌≤◌, List, [], ◌∷◌, ◌++◌, length, refl, sym, ap, ◌∙◌, subst, append_assoc, append-nil, arith}
use Rattle.std.specs.Prelude.{Option, Some, None, Result, Ok, Err}
use Rattle.js_event_log_sessions.specs.declared.session.Line.{Line}
use Rattle.js_event_log_sessions.specs.declared.session.Session.{Session}
use Rattle.js_tool_transcript.specs.declared.transcript.setup.Setup.{Setup}
use Rattle.js_tool_transcript.specs.Transcript.{◌>>=◌, numbered}
use Rattle.js_tool_event_log.specs.declared.sessions.line.Said.{Said}
use Rattle.js_tool_event_log.specs.declared.sessions.line.Said.TheVariants.{Begins, Says}
use Rattle.js_tool_event_log.specs.declared.sessions.reader.Reader.{Reader}
use Rattle.js_tool_event_log.specs.declared.sessions.session.SessionText.{SessionText}
use Rattle.js_tool_event_log.specs.SessionProgress.{left_said, HasText, PassesLines, ReadsNext, all_of, rest_of}
use Rattle.js_tool_event_log.specs.SessionLine.{session_line}
use Rattle.js_tool_event_log.specs.SessionInput.{said_from, session_of, lines_before, begun}

-- ---- one line

after_one : {A : Type 0} (said : Said) (r : Result (List Said) ℕ) (f : List Said → Result A ℕ) → ((r >>= λ more. Ok (said ∷ more)) >>= f) ≡ (r >>= λ more. f (said ∷ more))
after_one said (Ok more) f = refl
after_one said (Err n) f = refl

from_one : {A : Type 0} (line : Result Said ℕ) (said : Said) (rest : Result (List Said) ℕ) (f : List Said → Result A ℕ) → line ≡ Ok said
    → ((line >>= λ said. rest >>= λ more. Ok (said ∷ more)) >>= f) ≡ (rest >>= λ more. f (said ∷ more))
from_one line said rest f reads = ap (λ (l : Result Said ℕ). (l >>= λ said. rest >>= λ more. Ok (said ∷ more)) >>= f) reads ∙ after_one said rest f

-- the lines that are left say this first, and then what the further ones say
pub said_first : {A : Type 0} (was is : Reader) (text : List ℕ) (said : Said) (f : List Said → Result A ℕ) → was.lines.left ≡ text ∷ is.lines.left
    → numbered (was.number + 1) (session_line text) ≡ Ok said → is.number ≡ was.number + 1 → (left_said was >>= f) ≡ (left_said is >>= λ more. f (said ∷ more))
said_first was is text said f left reads counted =
    ap (λ (lines : List (List ℕ)). said_from (was.number + 1) lines >>= f) left
    ∙ from_one (numbered (was.number + 1) (session_line text)) said (said_from (was.number + 1 + 1) is.lines.left) f reads
    ∙ ap (λ (n : ℕ). said_from (n + 1) is.lines.left >>= λ more. f (said ∷ more)) (sym counted)

-- ---- in a session

line_moves : (done : List Session) (setup : Setup) (lines : List Line) (l : Line) (r : Result (List Said) ℕ)
    → (r >>= λ more. Ok (all_of done setup lines (Says l ∷ more))) ≡ (r >>= λ more. Ok (all_of done setup (lines ++ l ∷ []) more))
line_moves done setup lines l (Ok more) =
    ap (λ (some : List Line). Ok (done ++ session_of setup some ∷ begun more)) (sym (append_assoc lines (l ∷ []) (lines_before more)))
line_moves done setup lines l (Err n) = refl

-- a line of the session was read
pub rest_line : (done : List Session) (setup : Setup) (lines : List Line) (l : Line) (was is : Reader) (text : List ℕ) → was.lines.left ≡ text ∷ is.lines.left
    → numbered (was.number + 1) (session_line text) ≡ Ok (Says l) → is.number ≡ was.number + 1 → rest_of done setup lines was ≡ rest_of done setup (lines ++ l ∷ []) is
rest_line done setup lines l was is text left reads counted =
    said_first was is text (Says l) (λ more. Ok (all_of done setup lines more)) left reads counted ∙ line_moves done setup lines l (left_said is)

setup_moves : (done : List Session) (setup following : Setup) (lines : List Line) (r : Result (List Said) ℕ)
    → (r >>= λ more. Ok (all_of done setup lines (Begins following ∷ more))) ≡ (r >>= λ more. Ok (all_of (done ++ session_of setup lines ∷ []) following [] more))
setup_moves done setup following lines (Ok more) =
    let behind : List Session = session_of following (lines_before more) ∷ begun more in
    ap (λ (some : List Line). Ok (done ++ session_of setup some ∷ behind)) (append-nil lines) ∙ ap Ok (sym (append_assoc done (session_of setup lines ∷ []) behind))
setup_moves done setup following lines (Err n) = refl

-- the next setup was read
pub rest_setup : (done : List Session) (setup following : Setup) (lines : List Line) (was is : Reader) (text : List ℕ) → was.lines.left ≡ text ∷ is.lines.left
    → numbered (was.number + 1) (session_line text) ≡ Ok (Begins following) → is.number ≡ was.number + 1
    → rest_of done setup lines was ≡ rest_of (done ++ session_of setup lines ∷ []) following [] is
rest_setup done setup following lines was is text left reads counted =
    said_first was is text (Begins following) (λ more. Ok (all_of done setup lines more)) left reads counted ∙ setup_moves done setup following lines (left_said is)

-- ---- so far

-- from a session's lines and a reader's to those that have come since
abbrev pub Going : SessionText → Reader → SessionText → Reader → Type 0
Going old was new is =
    (next : ℕ) (done : List Session) (setup : Setup) (lines : List Line) → HasText next done setup lines old
    → (all : List Line) × HasText next done setup all new × (rest_of done setup lines was ≡ rest_of done setup all is)

-- one line more
pub going_line : (first old new : SessionText) (from was is : Reader) (text : List ℕ) (l : Line) → Going first from old was
    → was.lines.left ≡ text ∷ is.lines.left → numbered (was.number + 1) (session_line text) ≡ Ok (Says l) → is.number ≡ was.number + 1
    → ((next : ℕ) (done : List Session) (setup : Setup) (some : List Line) → HasText next done setup some old → HasText next done setup (some ++ l ∷ []) new)
    → Going first from new is
going_line first old new from was is text l before left reads counted passes = λ next done setup lines has.
    let (some, had, so_far) = before next done setup lines has in
    (some ++ l ∷ [], passes next done setup some had, so_far ∙ rest_line done setup some l was is text left reads counted)

-- what the next line says, by its kind
pub next_says : (was is : Reader) (found : Option Said) (said wanted : Said) → found ≡ Some said → said ≡ wanted → ReadsNext was is (Ok found) → ReadsNext was is (Ok (Some wanted))
next_says was is found said wanted some says reads = subst (λ (found : Option Said). ReadsNext was is (Ok found)) (some ∙ ap Some says) reads

-- a line that was read goes on with the session
pub going_next : (first old new : SessionText) (from was is : Reader) (l : Line) → Going first from old was → ReadsNext was is (Ok (Some (Says l)))
    → ((next : ℕ) (done : List Session) (setup : Setup) (some : List Line) → HasText next done setup some old → HasText next done setup (some ++ l ∷ []) new)
    → Going first from new is
going_next first old new from was is l before (text, left, reads, counted) passes = going_line first old new from was is text l before left reads counted passes

-- a setup that was read ends it
pub going_setup : (first old : SessionText) (from was is : Reader) (following : Setup) → Going first from old was → ReadsNext was is (Ok (Some (Begins following)))
    → PassesLines first from old is (Ok (Some following))
going_setup first old from was is following before (text, left, reads, counted) = λ next done setup lines has.
    let (some, had, so_far) = before next done setup lines has in
    (some, had, so_far ∙ rest_setup done setup following some was is text left reads counted)

-- and no more lines are left than before
pub next_left : (was is : Reader) (said : Said) (bound : ℕ) → ReadsNext was is (Ok (Some said)) → length was.lines.left ≤ bound → length is.lines.left ≤ bound
next_left was is said bound (text, left, reads, counted) within =
    let shorter : length was.lines.left ≡ length (text ∷ is.lines.left) = ap length left in
    omega arith

-- ---- lines that are read and let go

-- what was said first, and what the lines that are left say
abbrev pub after_said : List Said → Result (List Said) ℕ → Result (List Said) ℕ
after_said front reading = reading >>= λ more. Ok (front ++ more)

-- from a reader to where it has come since
abbrev pub HasRead : Reader → Reader → Type 0
HasRead from is = (front : List Said) × (left_said from ≡ after_said front (left_said is))

front_moves : (front : List Said) (said : Said) (r : Result (List Said) ℕ) → (r >>= λ more. Ok (front ++ said ∷ more)) ≡ after_said (front ++ said ∷ []) r
front_moves front said (Ok more) = ap Ok (sym (append_assoc front (said ∷ []) more))
front_moves front said (Err n) = refl

pub read_one : (from was is : Reader) (text : List ℕ) (said : Said) → HasRead from was → was.lines.left ≡ text ∷ is.lines.left
    → numbered (was.number + 1) (session_line text) ≡ Ok said → is.number ≡ was.number + 1 → HasRead from is
read_one from was is text said before left reads counted =
    (before.0 ++ said ∷ [], before.1 ∙ said_first was is text said (λ more. Ok (before.0 ++ more)) left reads counted ∙ front_moves before.0 said (left_said is))

-- what the next line says was read
pub read_next : (from was is : Reader) (found : Option Said) (said : Said) → HasRead from was → found ≡ Some said → ReadsNext was is (Ok found) → HasRead from is
read_next from was is None said before found reads = cc
read_next from was is (Some other) said before found (text, left, reads, counted) = read_one from was is text other before left reads counted
