-- The line of a message, and its body.
use Rattle.std.specs.Prelude.{ℕ, ◌+◌, ◌==◌, ◌&&◌, List, [], ◌∷◌, length, take, drop, nat_lt, slice_index, Option, Some, None, if◌then◌else◌, Result, Ok, Err}
use Rattle.std.specs.Option.{option_copied}
use Rattle.js_base.specs.Results.{◌>>=◌}
use Rattle.js_link_wire.specs.Words.{words, number_of}
use Rattle.js_link_wire.specs.declared.damage.Damage.TheVariants.{WrongArguments, BodyTooLong, HeadersTooLong, NoLineEnd}
use Rattle.js_link_wire.specs.declared.damage.Unread.{Unread}
use Rattle.js_link_wire.specs.declared.damage.Unread.TheVariants.{More, Damaged}
use Rattle.js_link_wire.specs.declared.frame.ServerFrame.{ServerFrame}
use Rattle.js_link_wire.specs.declared.frame.ServerFrame.TheVariants as frames
use Rattle.js_link_wire.specs.declared.message.Head.{Head}
use Rattle.js_link_wire.specs.declared.message.Headered.{Headered}

-- what the line of a message says
pub record Line : Type 0 where
  pub subject : List ℕ
  pub subscription : ℕ
  pub reply : Option (List ℕ)
  pub length : ℕ

-- the line of a message with headers says their length too
pub record HeaderedLine : Type 0 where
  pub line : Line
  pub headers : ℕ

abbrev pub head_view : Head → Line
head_view head = record { subject = head.subject.now; subscription = head.subscription; reply = option_copied head.reply; length = head.length }

abbrev pub headered_view : Headered → HeaderedLine
headered_view head = record { line = head_view head.head; headers = head.headers }

-- the words of a line, with its numbers
unfoldable pub line_of : List ℕ → List ℕ → Option (List ℕ) → List ℕ → Result Line Unread
line_of subject subscription reply length = do
  number ← number_of subscription
  count ← number_of length
  Ok (record { subject = subject; subscription = number; reply = reply; length = count })

-- MSG: the subject, the number of the subscription, the reply subject where there is one, and the body's length
abbrev pub head_of : List (List ℕ) → Result Line Unread
head_of (subject ∷ subscription ∷ length ∷ []) = line_of subject subscription None length
head_of (subject ∷ subscription ∷ reply ∷ length ∷ []) = line_of subject subscription (Some reply) length
head_of words = Err (Damaged WrongArguments)

-- with the length of the headers, which are a part of the body
unfoldable pub headered_line_of : List ℕ → List ℕ → Option (List ℕ) → List ℕ → List ℕ → Result HeaderedLine Unread
headered_line_of subject subscription reply headers length = do
  line ← line_of subject subscription reply length
  count ← number_of headers
  if nat_lt line.length count then Err (Damaged HeadersTooLong) else Ok (record { line = line; headers = count })

-- HMSG: the same words, with the length of the headers before that of the body
abbrev pub headered_of : List (List ℕ) → Result HeaderedLine Unread
headered_of (subject ∷ subscription ∷ headers ∷ length ∷ []) = headered_line_of subject subscription None headers length
headered_of (subject ∷ subscription ∷ reply ∷ headers ∷ length ∷ []) = headered_line_of subject subscription (Some reply) headers length
headered_of words = Err (Damaged WrongArguments)

-- so many bytes, behind which stands a line end
unfoldable pub body_at : ℕ → ℕ → List ℕ → Result (List ℕ) Unread
body_at most count rest =
    if nat_lt most count then Err (Damaged BodyTooLong)
    else (if nat_lt (length rest) (count + 2) then Err More
    else (if slice_index rest count == 13 && slice_index rest (count + 1) == 10 then Ok (take count rest) else Err (Damaged NoLineEnd)))

unfoldable pub message_of : ℕ → List ℕ → List ℕ → Result (ServerFrame × ℕ) Unread
message_of most text rest = do
  head ← head_of (words text)
  body ← body_at most head.length rest
  Ok (frames.Message head.subject head.subscription head.reply body, length body + 2)

unfoldable pub headered_message_of : ℕ → List ℕ → List ℕ → Result (ServerFrame × ℕ) Unread
headered_message_of most text rest = do
  head ← headered_of (words text)
  body ← body_at most head.line.length rest
  Ok (frames.HeaderedMessage head.line.subject head.line.subscription head.line.reply (take head.headers body) (drop head.headers body), length body + 2)
