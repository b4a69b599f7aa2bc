-- The message of a server's frame.
use Rattle.std.specs.Prelude.{ℕ, ◌+◌, ◌-◌, ◌^◌, min, List, [], length, Option, Some, None, Result, Ok}
use Rattle.js_base.specs.Results.{◌>>=◌}
use Rattle.js_link_wire.specs.declared.frame.ServerFrame.{ServerFrame}
use Rattle.js_link_wire.specs.declared.frame.ServerFrame.TheVariants as frames
use Rattle.js_link_wire.specs.declared.headers.HeaderBlock.{HeaderBlock}
use Rattle.js_link_wire.specs.declared.headers.HeadersDamage.{HeadersDamage}
use Rattle.js_link_wire.specs.declared.incoming.Incoming.{Incoming}
use Rattle.js_link_wire.specs.Headers.{read_block}

abbrev pub reply_len : Option (List ℕ) → ℕ
reply_len None = 0
reply_len (Some reply) = length reply

-- the bytes of the subject, the reply subject, the headers and the payload, up to the type's end
abbrev pub size : List ℕ → Option (List ℕ) → List ℕ → List ℕ → ℕ
size subject reply headers payload = min (length subject + reply_len reply + length headers + length payload) (2 ^ 64 - 1)

-- a message without headers
abbrev pub plain : List ℕ → ℕ → Option (List ℕ) → List ℕ → Incoming
plain subject subscription reply payload =
    record { subscription = subscription; message = record { subject = subject; reply = reply; payload = payload; headers = None; status = None; description = None; length = size subject reply [] payload } }

-- a message with what its block of headers says
abbrev pub with_block : List ℕ → ℕ → Option (List ℕ) → List ℕ → List ℕ → HeaderBlock → Incoming
with_block subject subscription reply headers payload block =
    record { subscription = subscription; message = record { subject = subject; reply = reply; payload = payload; headers = Some block.headers; status = block.status; description = block.description; length = size subject reply headers payload } }

-- a message whose headers are read
abbrev pub headered : List ℕ → ℕ → Option (List ℕ) → List ℕ → List ℕ → Result Incoming HeadersDamage
headered subject subscription reply headers payload =
    read_block headers >>= λ block. Ok (with_block subject subscription reply headers payload block)

abbrev pub some_incoming : Incoming → Result (Option Incoming) HeadersDamage
some_incoming message = Ok (Some message)

-- the message of a frame, where the frame is one
abbrev pub incoming : ServerFrame → Result (Option Incoming) HeadersDamage
incoming (frames.Info json) = Ok None
incoming (frames.Message subject subscription reply payload) = some_incoming (plain subject subscription reply payload)
incoming (frames.HeaderedMessage subject subscription reply headers payload) = headered subject subscription reply headers payload >>= some_incoming
incoming frames.Ping = Ok None
incoming frames.Pong = Ok None
incoming frames.Taken = Ok None
incoming (frames.Refused text) = Ok None
