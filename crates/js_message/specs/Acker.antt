-- What acknowledges a message.
use Rattle.std.specs.Prelude.{ℕ, Option, List}
use Rattle.js_message.specs.declared.acker.Acker.{Acker}

-- an acker with its timeout and its reply subject
abbrev pub acker : ℕ → Option (List ℕ) → Acker
acker timeout reply = record { timeout = timeout; reply = reply }

-- how long a double ack waits
abbrev pub timeout_of : Acker → ℕ
timeout_of a = a.timeout

-- where acknowledgements go
abbrev pub reply_of : Acker → Option (List ℕ)
reply_of a = a.reply
