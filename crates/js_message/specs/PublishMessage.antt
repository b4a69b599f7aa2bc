-- Messages that are to be published.
use Rattle.std.specs.Prelude.{ℕ, List, [], Option, Some, None}
use Rattle.js_base.specs.declared.headers.Header.{Header}
use Rattle.js_base.specs.Headers.{all_headers, with_only}
use Rattle.js_message.specs.declared.publish_message.OutboundMessage.{OutboundMessage}
use Rattle.js_message.specs.declared.publish_message.PublishMessage.{PublishMessage}

-- a message to a subject
abbrev pub outbound : List ℕ → List ℕ → Option (List Header) → OutboundMessage
outbound subject payload headers = record { subject = subject; payload = payload; headers = headers }

-- no body and no headers
abbrev pub empty : PublishMessage
empty = record { payload = []; headers = None }

-- the message with another body
abbrev pub with_payload : List ℕ → PublishMessage → PublishMessage
with_payload payload message = record message { payload = payload }

-- the message with other headers
abbrev pub with_headers : List Header → PublishMessage → PublishMessage
with_headers headers message = record message { headers = Some headers }

-- the message with one value of a header
abbrev pub with_header : List ℕ → List ℕ → PublishMessage → PublishMessage
with_header name value message = with_headers (with_only name value (all_headers message.headers)) message

-- the message to a subject
abbrev pub outgoing : List ℕ → PublishMessage → OutboundMessage
outgoing subject message = outbound subject message.payload message.headers
