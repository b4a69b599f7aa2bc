-- The extended line of an event, as it is written: the line of a transcript where that says the event.
use Rattle.std.specs.Prelude.{◌≡◌, ℕ, ◌<◌, ◌^◌, ◌==◌, false, List, [], ◌∷◌, ◌++◌, codes, decimal, length, Some, None, if◌then◌else◌, refl}
use Rattle.std.specs.Fmt.{digits}
use Rattle.std.specs.Str.{IsUtf8, is_utf8, chars}
use lib.Utf8.{encode}
use Rattle.json.specs.Print.{quoted, escape_byte}
use Rattle.base64.specs.Rfc4648.{encode_symbols}
use Rattle.js_base.specs.declared.message.Message.{Message}
use Rattle.js_ordered_table.specs.declared.event.Event.{Event}
use Rattle.js_ordered_table.specs.declared.event.EventKind.{EventKind}
use Rattle.js_ordered_table.specs.declared.event.EventKind.TheVariants as what
use Rattle.js_tool_transcript.specs.EventText.{address_text, payload_text, status_and_headers_text, what_text, plain}
use Rattle.js_tool_transcript.specs.ExtendedMessage.{base64_of, bytes_of}

-- ---- the members of a message

-- a length that is not the payload's
abbrev pub length_text : Message → List ℕ
length_text m = if m.length == length m.payload then [] else codes ",\"length\":" ++ decimal m.length

-- a payload that is a text, or in base 64 one that is none
abbrev pub any_payload_text : List ℕ → List ℕ
any_payload_text payload = if is_utf8 payload then payload_text payload else codes ",\"payload_base64\":" ++ quoted (base64_of payload)

abbrev pub any_message_text : Message → List ℕ
any_message_text m = length_text m ++ (address_text m ++ (any_payload_text m.payload ++ status_and_headers_text m))

-- ---- what happens

abbrev pub any_what_text : EventKind → List ℕ
any_what_text what.Tick = what_text what.Tick
any_what_text (what.Arrival inbox message) = codes ",\"arrival\":{\"inbox\":" ++ (decimal inbox ++ (any_message_text message ++ codes "}"))
any_what_text (what.Answer request (Some message)) = codes ",\"answer\":{\"request\":" ++ (decimal request ++ (any_message_text message ++ codes "}"))
any_what_text (what.Answer request None) = what_text (what.Answer request None)
any_what_text (what.Link up) = what_text (what.Link up)
any_what_text (what.Connection state) = what_text (what.Connection state)
any_what_text what.WatcherEnded = what_text what.WatcherEnded

-- ---- the line

-- the JSON of an event
abbrev pub extended_json : Event → List ℕ
extended_json e = codes "{\"at\":" ++ (decimal e.at ++ (any_what_text e.what ++ codes "}"))

-- and its line feed
abbrev pub extended_text : Event → List ℕ
extended_text e = extended_json e ++ codes "\n"

-- ---- examples

a_text : extended_text (record { at = 7; what = what.Arrival 2 plain }) ≡ codes "{\"at\":7,\"arrival\":{\"inbox\":2,\"reply\":\"r\",\"payload\":\"p\"}}\n"
unfolding digits escape_byte is_utf8 chars encode
a_text = refl

no_text : extended_text (record { at = 7; what = what.Arrival 2 (record plain { payload = 255 ∷ 0 ∷ [] }) })
    ≡ codes "{\"at\":7,\"arrival\":{\"inbox\":2,\"length\":1,\"reply\":\"r\",\"payload_base64\":\"/wA=\"}}\n"
unfolding digits escape_byte is_utf8 chars encode base64_of encode_symbols
no_text = refl

longer : extended_text (record { at = 7; what = what.Answer 3 (Some (record plain { reply = None; length = 9 })) }) ≡ codes "{\"at\":7,\"answer\":{\"request\":3,\"length\":9,\"payload\":\"p\"}}\n"
unfolding digits escape_byte is_utf8 chars encode
longer = refl

-- ---- what is known of a payload: what its base 64 stands for

-- the text is UTF-8, and stands for the bytes
abbrev pub IsBase64 : List ℕ → Type 0
IsBase64 payload = IsUtf8 (base64_of payload) × (bytes_of (base64_of payload) ≡ Some payload)

-- a message whose payload is no text is written in base 64, and its length is a number of 64 bits
abbrev pub IsWritten : Message → Type 0
IsWritten m = (m.length < 2 ^ 64) × (is_utf8 m.payload ≡ false → IsBase64 m.payload)

abbrev pub IsWrittenKind : EventKind → Type 0
IsWrittenKind what.Tick = Unit {0}
IsWrittenKind (what.Arrival inbox message) = IsWritten message
IsWrittenKind (what.Answer request (Some message)) = IsWritten message
IsWrittenKind (what.Answer request None) = Unit {0}
IsWrittenKind (what.Link up) = Unit {0}
IsWrittenKind (what.Connection state) = Unit {0}
IsWrittenKind what.WatcherEnded = Unit {0}
