-- The line of an event, as it is written: the keys that docs/FORMATS.md names, in that page's order.
use Rattle.std.specs.Prelude.{◌≡◌, ℕ, ◌<◌, ◌^◌, ◌==◌, ◌&&◌, Bool, true, false, List, [], ◌∷◌, ◌++◌, codes, decimal, length, Option, Some, None, IfSome, refl}
use Rattle.std.specs.Fmt.{digits}
use Rattle.std.specs.List.{AllByRecursion}
use Rattle.std.specs.Str.{IsUtf8, is_utf8, chars}
use Rattle.json.specs.Print.{quoted, escape_byte}
use Rattle.serde_json.specs.Written.{comma_if}
use Rattle.js_base.specs.declared.headers.Header.{Header}
use Rattle.js_base.specs.declared.message.Message.{Message}
use Rattle.js_base.specs.declared.message.State.{State}
use Rattle.js_base.specs.declared.message.State.TheVariants.{Connected, Disconnected, Pending}
use Rattle.js_base.specs.declared.message.StatusCode.{StatusCode}
use Rattle.js_base.specs.Headers.{pairs}
use Rattle.js_ordered_table.specs.declared.event.Event.{Event}
use Rattle.js_ordered_table.specs.declared.event.EventKind.{EventKind}
use Rattle.js_ordered_table.specs.declared.event.EventKind.TheVariants as what

-- ---- the members of a message

-- a subject that is not empty
abbrev pub subject_text : List ℕ → List ℕ
subject_text [] = []
subject_text (c ∷ cs) = codes ",\"subject\":" ++ quoted (c ∷ cs)

abbrev pub reply_text : Option (List ℕ) → List ℕ
reply_text None = []
reply_text (Some reply) = codes ",\"reply\":" ++ quoted reply

-- always there, an empty one too
abbrev pub payload_text : List ℕ → List ℕ
payload_text payload = codes ",\"payload\":" ++ quoted payload

abbrev pub status_text : Option StatusCode → List ℕ
status_text None = []
status_text (Some status) = codes ",\"status\":" ++ decimal status.0

abbrev pub description_text : Option (List ℕ) → List ℕ
description_text None = []
description_text (Some description) = codes ",\"description\":" ++ quoted description

-- a name and its value
abbrev pub header_text : List ℕ × List ℕ → List ℕ
header_text header = codes "[" ++ (quoted header.0 ++ (codes "," ++ (quoted header.1 ++ codes "]")))

-- the headers in order, each behind a comma unless it is the first
abbrev pub list_text : Bool → List (List ℕ × List ℕ) → List ℕ
list_text later [] = []
list_text later (header ∷ headers) = comma_if later ++ (header_text header ++ list_text true headers)

-- an empty list of headers is there too
abbrev pub headers_text : Option (List Header) → List ℕ
headers_text None = []
headers_text (Some headers) = codes ",\"headers\":[" ++ (list_text false (pairs headers) ++ codes "]")

-- where a message came from and where its answer goes
abbrev pub address_text : Message → List ℕ
address_text m = subject_text m.subject ++ reply_text m.reply

-- the status, what is said of it, and the headers, each where there is one
abbrev pub status_and_headers_text : Message → List ℕ
status_and_headers_text m = status_text m.status ++ (description_text m.description ++ headers_text m.headers)

abbrev pub message_text : Message → List ℕ
message_text m = address_text m ++ (payload_text m.payload ++ status_and_headers_text m)

-- ---- what happens

abbrev pub link_text : Bool → List ℕ
link_text true = codes ",\"link\":\"open\""
link_text false = codes ",\"link\":\"closed\""

abbrev pub connection_text : State → List ℕ
connection_text Connected = codes ",\"connection\":\"connected\""
connection_text Disconnected = codes ",\"connection\":\"disconnected\""
connection_text Pending = codes ",\"connection\":\"pending\""

-- where only time passes no key says so; an answer without a message says that the replier is gone
abbrev pub what_text : EventKind → List ℕ
what_text what.Tick = []
what_text (what.Arrival inbox message) = codes ",\"arrival\":{\"inbox\":" ++ (decimal inbox ++ (message_text message ++ codes "}"))
what_text (what.Answer request (Some message)) = codes ",\"answer\":{\"request\":" ++ (decimal request ++ (message_text message ++ codes "}"))
what_text (what.Answer request None) = codes ",\"answer\":{\"request\":" ++ (decimal request ++ codes ",\"gone\":true}")
what_text (what.Link up) = link_text up
what_text (what.Connection state) = connection_text state
what_text what.WatcherEnded = codes ",\"watcher\":\"ended\""

-- ---- the line

-- the JSON of an event
abbrev pub event_json : Event → List ℕ
event_json e = codes "{\"at\":" ++ (decimal e.at ++ (what_text e.what ++ codes "}"))

-- and its line feed
abbrev pub event_text : Event → List ℕ
event_text e = event_json e ++ codes "\n"

-- ---- examples: one line of each kind

abbrev pub plain : Message
plain = record { subject = []; reply = Some (codes "r"); payload = codes "p"; headers = None; status = None; description = None; length = 1 }

a_tick : event_text (record { at = 7; what = what.Tick }) ≡ codes "{\"at\":7}\n"
unfolding digits
a_tick = refl

an_arrival : event_text (record { at = 7; what = what.Arrival 2 plain }) ≡ codes "{\"at\":7,\"arrival\":{\"inbox\":2,\"reply\":\"r\",\"payload\":\"p\"}}\n"
unfolding digits escape_byte
an_arrival = refl

a_heartbeat : event_text (record { at = 7; what = what.Arrival 2 (record plain { subject = codes "i"; reply = None; payload = []; status = Some (record { 0 = 100 }); description = Some (codes "Idle Heartbeat"); headers = Some (record { name = codes "Nats-Last-Consumer"; value = codes "8" } ∷ record { name = codes "a"; value = codes "\"" } ∷ []); length = 0 }) })
    ≡ codes "{\"at\":7,\"arrival\":{\"inbox\":2,\"subject\":\"i\",\"payload\":\"\",\"status\":100,\"description\":\"Idle Heartbeat\",\"headers\":[[\"Nats-Last-Consumer\",\"8\"],[\"a\",\"\\\"\"]]}}\n"
unfolding digits escape_byte
a_heartbeat = refl

an_answer : event_text (record { at = 7; what = what.Answer 3 (Some (record plain { reply = None })) }) ≡ codes "{\"at\":7,\"answer\":{\"request\":3,\"payload\":\"p\"}}\n"
unfolding digits escape_byte
an_answer = refl

a_gone_replier : event_text (record { at = 7; what = what.Answer 3 None }) ≡ codes "{\"at\":7,\"answer\":{\"request\":3,\"gone\":true}}\n"
unfolding digits
a_gone_replier = refl

a_closed_link : event_text (record { at = 7; what = what.Link false }) ≡ codes "{\"at\":7,\"link\":\"closed\"}\n"
unfolding digits
a_closed_link = refl

a_lost_connection : event_text (record { at = 7; what = what.Connection Disconnected }) ≡ codes "{\"at\":7,\"connection\":\"disconnected\"}\n"
unfolding digits
a_lost_connection = refl

an_ended_watcher : event_text (record { at = 7; what = what.WatcherEnded }) ≡ codes "{\"at\":7,\"watcher\":\"ended\"}\n"
unfolding digits
an_ended_watcher = refl

-- ---- what reads back

-- the payload is UTF-8, and the length is the payload's, since a line says no other
abbrev pub is_recordable_message : Message → Bool
is_recordable_message m = is_utf8 m.payload && (m.length == length m.payload)

abbrev pub is_recordable_kind : EventKind → Bool
is_recordable_kind what.Tick = true
is_recordable_kind (what.Arrival inbox message) = is_recordable_message message
is_recordable_kind (what.Answer request (Some message)) = is_recordable_message message
is_recordable_kind (what.Answer request None) = true
is_recordable_kind (what.Link up) = true
is_recordable_kind (what.Connection state) = true
is_recordable_kind what.WatcherEnded = true

-- an event whose line reads back as the event: all but those with a message that is no text, or has another length
abbrev pub is_recordable : Event → Bool
is_recordable e = is_recordable_kind e.what

no_text : is_recordable (record { at = 7; what = what.Arrival 2 (record plain { payload = 255 ∷ [] }) }) ≡ false
unfolding is_utf8 chars
no_text = refl

-- ---- what the types say of an event: its texts are UTF-8, and its numbers are small

abbrev pub AreTextPairs : List (List ℕ × List ℕ) → Type 0
AreTextPairs headers = AllByRecursion (λ header. IsUtf8 header.0 × IsUtf8 header.1) headers

pub record IsTyped (m : Message) : Type 0 where
  pub subject : IsUtf8 m.subject
  pub reply : IfSome m.reply IsUtf8
  pub status : IfSome m.status (λ status. status.0 < 2 ^ 16)
  pub description : IfSome m.description IsUtf8
  pub headers : IfSome m.headers (λ headers. AreTextPairs (pairs headers))

abbrev pub IsTypedKind : EventKind → Type 0
IsTypedKind what.Tick = Unit {0}
IsTypedKind (what.Arrival inbox message) = (inbox < 2 ^ 64) × IsTyped message
IsTypedKind (what.Answer request (Some message)) = (request < 2 ^ 64) × IsTyped message
IsTypedKind (what.Answer request None) = request < 2 ^ 64
IsTypedKind (what.Link up) = Unit {0}
IsTypedKind (what.Connection state) = Unit {0}
IsTypedKind what.WatcherEnded = Unit {0}
