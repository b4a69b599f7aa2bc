-- The JSON of an event is the compact text of a value: its members, each in its row.
use Rattle.std.proofs.Common.{◌≡◌, ℕ, Bool, true, false, List, [], ◌∷◌, ◌++◌, codes, decimal, Option, Some, None, option_map, refl, sym, ap, ◌∙◌, append_assoc, append-nil}
use Rattle.json.specs.Print.{quoted, escape_byte}
use Rattle.serde_json.specs.Data.{Data, boolean, unsigned, number, string, array, object, Items, no_items, item, Members, no_members, member}
use Rattle.serde_json.specs.Written.{comma_if, compact_text, items_text, members_text}
use Rattle.js_base.specs.declared.headers.Header.{Header}
use Rattle.js_base.specs.declared.message.Message.{Message}
use Rattle.js_base.specs.declared.message.State.{State}
use Rattle.js_base.specs.declared.message.State.TheVariants.{Connected, Disconnected, Pending}
use Rattle.js_base.specs.declared.message.StatusCode.{StatusCode}
use Rattle.js_base.specs.Headers.{pairs}
use Rattle.js_ordered_table.specs.declared.event.Event.{Event}
use Rattle.js_ordered_table.specs.declared.event.EventKind.{EventKind}
use Rattle.js_ordered_table.specs.declared.event.EventKind.TheVariants as what
use Rattle.js_tool_transcript.specs.EventText.{subject_text, reply_text, payload_text, status_text, description_text, header_text, list_text, headers_text, address_text, status_and_headers_text, message_text, link_text, connection_text, what_text, event_json}

-- ---- rows

-- a key, and its value where there is one
abbrev pub Row : Type 0
Row = List ℕ × Option Data

abbrev pub with_row : List ℕ → Option Data → Members → Members
with_row k None more = more
with_row k (Some d) more = member k d more

-- the members that have a value, in the order of their rows
abbrev pub written : List Row → Members
written [] = no_members
written (row ∷ rows) = with_row row.0 row.1 (written rows)

abbrev pub row_text : List ℕ → Option Data → List ℕ
row_text k None = []
row_text k (Some d) = 44 ∷ (quoted k ++ 58 ∷ compact_text d)

abbrev pub rows_text : List Row → List ℕ
rows_text [] = []
rows_text (row ∷ rows) = row_text row.0 row.1 ++ rows_text rows

with_row_is : (k : List ℕ) (o : Option Data) (more : Members) → members_text true (with_row k o more) ≡ row_text k o ++ members_text true more
with_row_is k None more = refl
with_row_is k (Some d) more = ap (λ (s : List ℕ). 44 ∷ s) (sym (append_assoc (quoted k) (58 ∷ compact_text d) (members_text true more)))

pub written_is : (rows : List Row) → members_text true (written rows) ≡ rows_text rows ++ codes "}"
written_is [] = refl
written_is (row ∷ rows) =
    with_row_is row.0 row.1 (written rows)
    ∙ ap (λ (s : List ℕ). row_text row.0 row.1 ++ s) (written_is rows)
    ∙ sym (append_assoc (row_text row.0 row.1) (rows_text rows) (codes "}"))

-- ---- a message

abbrev pub count : ℕ → Data
count n = number (unsigned n)

-- a text that is not empty
abbrev pub unless_empty : List ℕ → Option Data
unless_empty [] = None
unless_empty (c ∷ cs) = Some (string (c ∷ cs))

abbrev pub header_data : List ℕ × List ℕ → Data
header_data header = array (item (string header.0) (item (string header.1) no_items))

abbrev pub header_items : List (List ℕ × List ℕ) → Items
header_items [] = no_items
header_items (header ∷ headers) = item (header_data header) (header_items headers)

abbrev pub status_data : StatusCode → Data
status_data status = count status.0

abbrev pub headers_data : List Header → Data
headers_data headers = array (header_items (pairs headers))

-- with this row for its payload
abbrev pub rows_with : Row → Message → List Row
rows_with row m =
    (codes "subject", unless_empty m.subject) ∷ (codes "reply", option_map string m.reply) ∷ row
    ∷ (codes "status", option_map status_data m.status) ∷ (codes "description", option_map string m.description) ∷ (codes "headers", option_map headers_data m.headers) ∷ []

abbrev pub message_rows : Message → List Row
message_rows m = rows_with (codes "payload", Some (string m.payload)) m

subject_is : (subject : List ℕ) → row_text (codes "subject") (unless_empty subject) ≡ subject_text subject
unfolding escape_byte
subject_is [] = refl
subject_is (c ∷ cs) = refl

reply_is : (reply : Option (List ℕ)) → row_text (codes "reply") (option_map string reply) ≡ reply_text reply
unfolding escape_byte
reply_is None = refl
reply_is (Some reply) = refl

payload_is : (payload : List ℕ) → row_text (codes "payload") (Some (string payload)) ≡ payload_text payload
unfolding escape_byte
payload_is payload = refl

status_is : (status : Option StatusCode) → row_text (codes "status") (option_map status_data status) ≡ status_text status
unfolding escape_byte
status_is None = refl
status_is (Some status) = refl

description_is : (description : Option (List ℕ)) → row_text (codes "description") (option_map string description) ≡ description_text description
unfolding escape_byte
description_is None = refl
description_is (Some description) = refl

three : (a b c d : List ℕ) → a ++ (b ++ (c ++ d)) ≡ (a ++ (b ++ c)) ++ d
three a b c d = simp append_assoc

list_is : (later : Bool) (headers : List (List ℕ × List ℕ)) → items_text later (header_items headers) ≡ list_text later headers ++ codes "]"
list_is later [] = refl
list_is later (header ∷ headers) =
    ap (λ (s : List ℕ). comma_if later ++ (header_text header ++ s)) (list_is true headers)
    ∙ three (comma_if later) (header_text header) (list_text true headers) (codes "]")

headers_are : (headers : Option (List Header)) → row_text (codes "headers") (option_map headers_data headers) ≡ headers_text headers
unfolding escape_byte
headers_are None = refl
headers_are (Some headers) = ap (λ (s : List ℕ). codes ",\"headers\":[" ++ s) (list_is false (pairs headers))

six : (a b c d e f : List ℕ) → a ++ (b ++ (c ++ (d ++ (e ++ (f ++ []))))) ≡ (a ++ b) ++ (c ++ (d ++ (e ++ f)))
six a b c d e f = rw (append-nil f) (simp append_assoc)

abbrev joined : List ℕ → List ℕ → List ℕ → List ℕ → List ℕ → List ℕ → List ℕ
joined a b c d e f = (a ++ b) ++ (c ++ (d ++ (e ++ f)))

pub rows_are : (row : Row) (m : Message) → rows_text (rows_with row m) ≡ address_text m ++ (row_text row.0 row.1 ++ status_and_headers_text m)
rows_are row m =
    let subject = row_text (codes "subject") (unless_empty m.subject) in
    let reply = row_text (codes "reply") (option_map string m.reply) in
    let payload = row_text row.0 row.1 in
    let status = row_text (codes "status") (option_map status_data m.status) in
    let description = row_text (codes "description") (option_map string m.description) in
    let headers = row_text (codes "headers") (option_map headers_data m.headers) in
    six subject reply payload status description headers
    ∙ ap (λ (s : List ℕ). joined s reply payload status description headers) (subject_is m.subject)
    ∙ ap (λ (s : List ℕ). joined (subject_text m.subject) s payload status description headers) (reply_is m.reply)
    ∙ ap (λ (s : List ℕ). joined (subject_text m.subject) (reply_text m.reply) payload s description headers) (status_is m.status)
    ∙ ap (λ (s : List ℕ). joined (subject_text m.subject) (reply_text m.reply) payload (status_text m.status) s headers) (description_is m.description)
    ∙ ap (λ (s : List ℕ). joined (subject_text m.subject) (reply_text m.reply) payload (status_text m.status) (description_text m.description) s) (headers_are m.headers)

message_is : (m : Message) → rows_text (message_rows m) ≡ message_text m
message_is m =
    rows_are (codes "payload", Some (string m.payload)) m
    ∙ ap (λ (s : List ℕ). address_text m ++ (s ++ status_and_headers_text m)) (payload_is m.payload)

members_are : (m : Message) → members_text true (written (message_rows m)) ≡ message_text m ++ codes "}"
members_are m = written_is (message_rows m) ∙ ap (λ (s : List ℕ). s ++ codes "}") (message_is m)

-- ---- an event

-- a message behind a number
abbrev pub numbered_rows : List ℕ → ℕ → List Row → Data
numbered_rows key n rows = object (member key (count n) (written rows))

abbrev pub numbered_data : List ℕ → ℕ → Message → Data
numbered_data key n message = numbered_rows key n (message_rows message)

abbrev pub gone_data : ℕ → Data
gone_data request = object (member (codes "request") (count request) (member (codes "gone") (boolean true) no_members))

abbrev pub link_data : Bool → Data
link_data true = string (codes "open")
link_data false = string (codes "closed")

abbrev pub connection_data : State → Data
connection_data Connected = string (codes "connected")
connection_data Disconnected = string (codes "disconnected")
connection_data Pending = string (codes "pending")

abbrev pub what_member : EventKind → Members
what_member what.Tick = no_members
what_member (what.Arrival inbox message) = member (codes "arrival") (numbered_data (codes "inbox") inbox message) no_members
what_member (what.Answer request (Some message)) = member (codes "answer") (numbered_data (codes "request") request message) no_members
what_member (what.Answer request None) = member (codes "answer") (gone_data request) no_members
what_member (what.Link up) = member (codes "link") (link_data up) no_members
what_member (what.Connection state) = member (codes "connection") (connection_data state) no_members
what_member what.WatcherEnded = member (codes "watcher") (string (codes "ended")) no_members

abbrev pub event_data : Event → Data
event_data e = object (member (codes "at") (count e.at) (what_member e.what))

link_is : (up : Bool) → link_text up ++ codes "}" ≡ members_text true (what_member (what.Link up))
unfolding escape_byte
link_is true = refl
link_is false = refl

connection_is : (state : State) → connection_text state ++ codes "}" ≡ members_text true (what_member (what.Connection state))
unfolding escape_byte
connection_is Connected = refl
connection_is Disconnected = refl
connection_is Pending = refl

pub what_is : (kind : EventKind) → what_text kind ++ codes "}" ≡ members_text true (what_member kind)
unfolding escape_byte
what_is what.Tick = refl
what_is (what.Arrival inbox message) = ap (λ (s : List ℕ). codes ",\"arrival\":{\"inbox\":" ++ ((decimal inbox ++ s) ++ codes "}")) (sym (members_are message))
what_is (what.Answer request (Some message)) = ap (λ (s : List ℕ). codes ",\"answer\":{\"request\":" ++ ((decimal request ++ s) ++ codes "}")) (sym (members_are message))
what_is (what.Answer request None) = refl
what_is (what.Link up) = link_is up
what_is (what.Connection state) = connection_is state
what_is what.WatcherEnded = refl

pub json_is : (e : Event) → event_json e ≡ compact_text (event_data e)
unfolding escape_byte
json_is e = ap (λ (s : List ℕ). codes "{\"at\":" ++ (decimal e.at ++ s)) (what_is e.what)
