-- What is published: its size, and how it begins.
use Rattle.std.specs.Prelude.{ℕ, ◌+◌, Option, Some, None, List, length}
use Rattle.js_base.specs.Headers.{wire_len}
use Rattle.js_base.specs.declared.headers.Header.{Header}
use Rattle.js_message.specs.declared.publish_message.OutboundMessage.{OutboundMessage}
use Rattle.js_context.specs.declared.sending.Sending.{Sending}

-- the bytes of the headers on the wire
abbrev pub headers_size : Option (List Header) → ℕ
headers_size None = 0
headers_size (Some headers) = wire_len headers

-- the bytes of payload and headers on the wire
abbrev pub size : OutboundMessage → ℕ
size message = length message.payload + headers_size message.headers

-- a message that is not sent
abbrev pub sending : OutboundMessage → Sending
sending message = record { message = message }
