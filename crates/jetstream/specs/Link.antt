-- Messages that came.
use Rattle.std.specs.Prelude.{ℕ, ◌+◌, ◌-◌, ◌^◌, min, None, List, length}
use Rattle.js_base.specs.declared.message.Message.{Message}

-- a message with these bytes, and nothing else
abbrev pub received : List ℕ → List ℕ → Message
received subject payload = record {
  subject = subject;
  reply = None;
  payload = payload;
  headers = None;
  status = None;
  description = None;
  length = min (length subject + length payload) (2 ^ 64 - 1);
}
