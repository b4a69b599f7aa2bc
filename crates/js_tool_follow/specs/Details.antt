-- What else is told of a message that is handed out: its time, what is pending, its headers, and its payload in base64 if it is no text.
use Rattle.std.specs.Prelude.{ℕ, ◌==◌, ◌&&◌, Bool, false, List, [], ◌∷◌, ◌++◌, codes, flat_map, Option, Some, None, Result, Ok, Err, if◌then◌else◌}
use Rattle.std.specs.Fmt.{signed_decimal}
use Rattle.std.specs.Str.{is_utf8}
use Rattle.base64.specs.Engines.{standard}
use Rattle.base64.specs.GeneralPurpose.{encode_of}
use Rattle.serde_json.specs.Data.{string}
use Rattle.js_base.specs.declared.headers.Header.{Header}
use Rattle.js_base.specs.declared.message.Message.{Message}
use Rattle.js_base.specs.Headers.{pairs}
use Rattle.js_message.specs.AckSubject.{Info, Place, ack, readable_as}
use Rattle.js_message.specs.declared.info_error.InfoError.{InfoError}
use Rattle.js_ordered_table.specs.declared.consumer.Opened.{Opened}
use Rattle.js_ordered_table.specs.declared.consumer.Phase.{Phase}
use Rattle.js_ordered_table.specs.declared.consumer.Phase.TheVariants.{Recreates}
use Rattle.js_ordered_table.specs.declared.event.Event.{Event}
use Rattle.js_ordered_table.specs.declared.event.EventKind.{EventKind}
use Rattle.js_ordered_table.specs.declared.event.EventKind.TheVariants as what
use Rattle.js_ordered_table.specs.declared.run.Output.{Output}
use Rattle.js_ordered_table.specs.declared.run.Output.TheVariants as out
use Rattle.js_tool_transcript.specs.Text.{line_text, count}

-- ---- the messages that an event can hand out

-- those that push's next inbox holds
abbrev pub held_by : Option Opened → List Message
held_by None = []
held_by (Some opened) = opened.held

abbrev pub held : Phase → List Message
held (Recreates r) = held_by r.opened
held phase = []

-- the one that arrives
abbrev pub arriving : EventKind → List Message
arriving (what.Arrival inbox message) = message ∷ []
arriving kind = []

-- all of them
abbrev pub messages_at : Phase → Event → List Message
messages_at phase e = held phase ++ arriving e.what

-- ---- what is told of a message

-- when its stream stored it, and how many messages its consumer had yet to deliver
abbrev pub info_line : ℕ → ℕ → Info → List ℕ
info_line step sequence info =
    line_text (count step ∷ string (codes "details") ∷ count sequence ∷ string (signed_decimal info.published) ∷ count info.pending ∷ [])

abbrev pub result_text : ℕ → ℕ → Result Info InfoError → List ℕ
result_text step sequence (Ok info) = info_line step sequence info
result_text step sequence (Err e) = []

-- as its reply says it
abbrev pub reply_text : ℕ → ℕ → Option (List ℕ) → List ℕ
reply_text step sequence None = []
reply_text step sequence (Some reply) = result_text step sequence (ack reply)

-- a header, by its name and its value
abbrev pub header_line : ℕ → ℕ → List ℕ × List ℕ → List ℕ
header_line step sequence header =
    line_text (count step ∷ string (codes "header") ∷ count sequence ∷ string header.0 ∷ string header.1 ∷ [])

abbrev pub headers_text : ℕ → ℕ → Option (List Header) → List ℕ
headers_text step sequence None = []
headers_text step sequence (Some headers) = flat_map (header_line step sequence) (pairs headers)

-- a payload that is no text
abbrev pub payload_text : ℕ → ℕ → List ℕ → List ℕ
payload_text step sequence payload =
    if is_utf8 payload then []
    else line_text (count step ∷ string (codes "payload_base64") ∷ count sequence ∷ string (encode_of standard payload) ∷ [])

-- the lines of a message with this stream sequence, behind the number of the step
abbrev pub message_text : ℕ → ℕ → Message → List ℕ
message_text step sequence m =
    reply_text step sequence m.reply ++ (headers_text step sequence m.headers ++ payload_text step sequence m.payload)

-- ---- of a message that was handed out

abbrev pub is_place : ℕ → ℕ → Option Place → Bool
is_place sequence number None = false
is_place sequence number (Some place) = (place.sequence == sequence) && (place.number == number)

-- its reply says these sequences of its stream and of its consumer
abbrev pub is_at : ℕ → ℕ → Message → Bool
is_at sequence number m = is_place sequence number (readable_as m.reply)

-- the lines of the first of these messages that has these sequences
abbrev pub text_at : ℕ → ℕ → ℕ → List Message → List ℕ
text_at step sequence number [] = []
text_at step sequence number (m ∷ messages) =
    if is_at sequence number m then message_text step sequence m else text_at step sequence number messages

-- the lines of an output, if it hands a message out
abbrev pub details_line : ℕ → List Message → Output → List ℕ
details_line step messages (out.Yield sequence number subject payload) = text_at step sequence number messages
details_line step messages output = []

-- the lines of all that is handed out, in order, where they are asked for
abbrev pub details_text : Bool → ℕ → List Message → List Output → List ℕ
details_text asked step messages outputs = if asked then flat_map (details_line step messages) outputs else []
