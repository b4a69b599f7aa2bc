-- How far a stream is read.
use Rattle.std.specs.Prelude.{◌≡◌, ℕ, ◌+◌, ◌^◌, ◌++◌, nat_lt, if◌then◌else◌, Option, None, Some, IsOkAnd, refl}
use Rattle.js_message.specs.declared.message.Message.{Message}
use Rattle.js_message.specs.Message.{info_of}
use Rattle.js_pipe_consume.specs.declared.read_progress.Reading.{Reading}
use Rattle.js_pipe.specs.Lines.{message_line}

-- the sequence at which the next start goes on: the one behind the last message whose line was written, if there is one
abbrev pub bookmark : Option ℕ → Option ℕ
bookmark None = None
bookmark (Some sequence) = if nat_lt (sequence + 1) (2 ^ 64) then Some (sequence + 1) else None

-- behind message 41 it goes on with 42
behind_41 : bookmark (Some 41) ≡ Some 42
behind_41 = refl

-- a message of this stream sequence is read: its line stands behind the others, it is the last one, and one message less is wanted
pub record Reads (sequence : ℕ) (message : Message) (old new : Reading) : Type 0 where
  pub line : new.page.items ≡ old.page.items ++ message_line sequence message.message.subject message.message.payload
  pub last : new.last ≡ Some sequence
  pub left : new.left + 1 ≡ old.left
  pub written : new.written ≡ old.written

-- a message is read that tells its place in the stream
abbrev pub Adds : Message → Reading → Reading → Type 0
Adds message old new = IsOkAnd (info_of message.message.reply) (λ info. Reads info.stream_sequence message old new)
