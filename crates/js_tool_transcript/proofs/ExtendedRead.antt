-- The extended line of an event is read as the event.
use Rattle.std.proofs.Common.{◌≡◌, ℕ, ◌^◌, ◌<◌, ◌==◌, Bool, true, false, ◌||◌, ◌&&◌, List, ◌∷◌, ◌++◌, codes, decimal, length, Option, Some, None, Result, Ok, refl, sym, ap, ◌∙◌, subst, true≢false, append_assoc}
use Rattle.std.specs.Prelude.{IfSome, if◌then◌else◌}
use Rattle.std.specs.Str.{IsUtf8, is_utf8}
use Rattle.std.proofs.lemmas.Bool.{and_parts, eqb-true}
use Rattle.std.proofs.lemmas.Str.{IsUtf8-from_is_utf8}
use Rattle.json.proofs.Printed.Utf8.{IsUtf8-are_ascii}
use Rattle.serde_json.specs.Data.{Data, string, object, Members, no_members, member}
use Rattle.serde_json.specs.Find.{get_member}
use Rattle.serde_json.specs.Written.{compact_text}
use Rattle.serde_json.proofs.Numbers.{number_of-decimal}
use Rattle.js_base.specs.declared.message.Message.{Message}
use Rattle.js_json_members.specs.declared.key.Key.{Key}
use Rattle.js_json_members.specs.declared.key.Key.TheVariants as key
use Rattle.js_json_members.specs.declared.error.ReadError.{ReadError}
use Rattle.js_json_members.specs.Member.{natural, named, text}
use Rattle.js_json_members.specs.Value.{is_among}
use Rattle.js_ordered_table.specs.declared.event.Event.{Event}
use Rattle.js_ordered_table.specs.declared.event.EventKind.{EventKind}
use Rattle.js_ordered_table.specs.declared.event.EventKind.TheVariants as what
use Rattle.js_tool_io.specs.Lines.{lines_of}
use Rattle.js_tool_transcript.specs.declared.transcript.lines.Lines.TheVariants.{Extended}
use Rattle.js_tool_transcript.specs.Message.{message_keys}
use Rattle.js_tool_transcript.specs.ExtendedMessage.{base64_of, bytes_of, message_names, only_in, payload_base64, with_length, extended_fields}
use Rattle.js_tool_transcript.specs.ExtendedName.{is_named, members_with, under}
use Rattle.js_tool_transcript.specs.Event.{arrival_fields, arrival, reply_fields, answer, event_line, extended_line}
use Rattle.js_tool_transcript.specs.EventText.{message_text, what_text, event_json, event_text, is_recordable_message, is_recordable_kind, is_recordable, IsTyped, IsTypedKind}
use Rattle.js_tool_transcript.specs.ExtendedText.{any_message_text, any_what_text, extended_json, extended_text, IsBase64, IsWritten, IsWrittenKind}
use Rattle.js_tool_transcript.proofs.CompactText.{IsSimple, IsOneLine, text_line, simple_line, line_cut}
use Rattle.js_tool_transcript.proofs.EventData.{count, rows_with, message_rows}
use Rattle.js_tool_transcript.proofs.EventLine.{event_cut}
use Rattle.js_tool_transcript.proofs.EventRead.{rows_held, AreRead, rows_simple, number_read, arrival_reads, reply_reads, event_reads}
use Rattle.js_tool_transcript.proofs.ExtendedData.{payload_row, length_data, rows_by, any_rows, keyed_data, arrival_is, reply_is}
use Rattle.js_tool_transcript.proofs.LinesAgree.{reads_alike}
use Rattle.js_tool_transcript.proofs.MessageRead.{level, message_same, message_simple, message_shallow, IsBare, text_read_with, other_read_with}
use Rattle.js_tool_transcript.proofs.RecordableRead.{said_is_recordable}
use Rattle.js_tool_transcript.proofs.RowsRead.{held, put_row, over, IsSame, IsShallow, row_left, rows_left, names_are, rows_names}

-- ---- rows

-- a payload that is a text, or stands in base 64
abbrev TextOr : Bool → List ℕ → Type 0
TextOr true payload = IsUtf8 payload
TextOr false payload = IsBase64 payload

text_or : (b : Bool) (payload : List ℕ) → is_utf8 payload ≡ b → (is_utf8 payload ≡ false → IsBase64 payload) → TextOr b payload
text_or true payload is other = IsUtf8-from_is_utf8 payload is
text_or false payload is other = other is

length_same : (sized : Bool) (n : ℕ) → n < 2 ^ 64 → IfSome (length_data sized n) IsSame
length_same true n low = tt
length_same false n low = rw (number_of-decimal n low) refl

length_simple : (sized : Bool) (n : ℕ) → n < 2 ^ 64 → IfSome (length_data sized n) (IsSimple IsUtf8)
length_simple true n low = tt
length_simple false n low = low

length_shallow : (sized : Bool) (n : ℕ) → IfSome (length_data sized n) IsShallow
length_shallow true n = tt
length_shallow false n = level

payload_same : (text : Bool) (payload : List ℕ) → IfSome (payload_row text payload).1 IsSame
payload_same true payload = refl
payload_same false payload = refl

payload_simple : (text : Bool) (payload : List ℕ) → TextOr text payload → IsUtf8 (payload_row text payload).0 × IfSome (payload_row text payload).1 (IsSimple IsUtf8)
payload_simple true payload is = (IsUtf8-are_ascii (codes "payload") refl, is)
payload_simple false payload is = (IsUtf8-are_ascii (codes "payload_base64") refl, is.0)

payload_shallow : (text : Bool) (payload : List ℕ) → IfSome (payload_row text payload).1 IsShallow
payload_shallow true payload = level
payload_shallow false payload = level

rows_are_read : (text sized : Bool) (m : Message) → IsTyped m → m.length < 2 ^ 64 → TextOr text m.payload → AreRead (rows_by text sized m)
rows_are_read text sized m typed low is =
    let row = payload_row text m.payload in
    record {
      same = (length_same sized m.length low, message_same row m typed (payload_same text m.payload));
      simple = ((IsUtf8-are_ascii (codes "length") refl, length_simple sized m.length low), message_simple row m typed (payload_simple text m.payload is));
      shallow = (length_shallow sized m.length, message_shallow row m (payload_shallow text m.payload));
    }

-- ---- what is read of them

-- no key of a message is there, and no extended name
record IsEmpty (found : Members) : Type 0 where
  bare : IsBare found
  base64 : get_member (codes "payload_base64") found ≡ None
  length : get_member (codes "length") found ≡ None

-- the length comes before the other rows
abbrev with_size : Bool → ℕ → Members → Members
with_size sized n found = put_row (codes "length") (length_data sized n) found

bare_with : (sized : Bool) (n : ℕ) (found : Members) → IsBare found → IsBare (with_size sized n found)
bare_with sized n found bare = record {
  subject = row_left (codes "subject") (codes "length") (length_data sized n) found ∙ bare.subject;
  reply = row_left (codes "reply") (codes "length") (length_data sized n) found ∙ bare.reply;
  payload = row_left (codes "payload") (codes "length") (length_data sized n) found ∙ bare.payload;
  status = row_left (codes "status") (codes "length") (length_data sized n) found ∙ bare.status;
  description = row_left (codes "description") (codes "length") (length_data sized n) found ∙ bare.description;
  headers = row_left (codes "headers") (codes "length") (length_data sized n) found ∙ bare.headers;
}

over_none : (o : Option Data) → over o None ≡ o
over_none None = refl
over_none (Some d) = refl

length_before : (sized : Bool) (n : ℕ) (found : Members) → get_member (codes "length") found ≡ None → get_member (codes "length") (with_size sized n found) ≡ length_data sized n
length_before sized n found none =
    row_left (codes "length") (codes "length") (length_data sized n) found ∙ ap (over (length_data sized n)) none ∙ over_none (length_data sized n)

length_there : (text sized : Bool) (m : Message) (found : Members) → get_member (codes "length") found ≡ None
    → get_member (codes "length") (held (rows_by text sized m) found) ≡ length_data sized m.length
length_there true sized m found none =
    rows_left (codes "length") (rows_with (payload_row true m.payload) m) (with_size sized m.length found) ∙ length_before sized m.length found none
length_there false sized m found none =
    rows_left (codes "length") (rows_with (payload_row false m.payload) m) (with_size sized m.length found) ∙ length_before sized m.length found none

length_read : (sized : Bool) (n : ℕ) (ms : Members) → get_member (codes "length") ms ≡ length_data sized n → under (codes "length") key.Payload natural (object ms) ≡ Ok (if sized then None else Some n)
unfolding under natural
length_read true n ms is = rw is refl
length_read false n ms is = rw is refl

none_read : (ms : Members) → get_member (codes "payload_base64") ms ≡ None → payload_base64 (object ms) ≡ Ok None
unfolding payload_base64 under
none_read ms is = rw is refl

bytes_read : (payload : List ℕ) (ms : Members) → get_member (codes "payload_base64") ms ≡ Some (string (base64_of payload)) → get_member (codes "payload") ms ≡ None
    → bytes_of (base64_of payload) ≡ Some payload → payload_base64 (object ms) ≡ Ok (Some payload)
unfolding payload_base64 under named text
bytes_read payload ms is other back = rw (is, other, back) refl

-- ---- a message

-- a message that was read
abbrev good : Message → Result Message ReadError
good m = Ok m

with_its_length : (sized : Bool) (m : Message) → (sized ≡ true → m.length ≡ length m.payload) → good (with_length (if sized then None else Some m.length) (record m { length = length m.payload })) ≡ good m
with_its_length true m same = ap (λ (n : ℕ). good (record m { length = n })) (sym (same refl))
with_its_length false m same = refl

message_read : (text sized : Bool) (m : Message) (found : Members) → IsTyped m → TextOr text m.payload → (sized ≡ true → m.length ≡ length m.payload) → IsEmpty found
    → extended_fields (object (held (rows_by text sized m) found)) ≡ Ok m
unfolding extended_fields
message_read true sized m found typed is same empty =
    let before = with_size sized m.length found in
    let ms = held (message_rows m) before in
    let bytes = none_read ms
    (rows_left (codes "payload_base64") (message_rows m) before ∙ row_left (codes "payload_base64") (codes "length") (length_data sized m.length) found ∙ empty.base64) in
    let size = length_read sized m.length ms (length_there true sized m found empty.length) in
    let fields = text_read_with m before typed (bare_with sized m.length found empty.bare) in
    rw (bytes, size, fields) (with_its_length sized m same)
message_read false sized m found typed is same empty =
    let before = with_size sized m.length found in
    let rows = rows_with (payload_row false m.payload) m in
    let ms = held rows before in
    let bytes = bytes_read m.payload ms (rows_left (codes "payload_base64") rows before)
    (rows_left (codes "payload") rows before ∙ row_left (codes "payload") (codes "length") (length_data sized m.length) found ∙ empty.bare.payload) is.1 in
    let size = length_read sized m.length ms (length_there false sized m found empty.length) in
    let fields = other_read_with m (string (base64_of m.payload)) before typed (bare_with sized m.length found empty.bare) in
    rw (bytes, size, fields) (with_its_length sized m same)

-- ---- behind a number

extended_names : (keys : List Key) (ms : Members) → names_are (λ name. is_among keys name || is_named message_names name) ms ≡ members_with keys message_names ms
extended_names keys no_members = refl
extended_names keys (member name d ms) = ap (λ (b : Bool). (is_among keys name || is_named message_names name) && b) (extended_names keys ms)

arrival_names : (text sized : Bool) (inbox : ℕ) (m : Message) → members_with (key.Inbox ∷ message_keys) message_names (rows_held (codes "inbox") inbox (rows_by text sized m)) ≡ true
arrival_names true sized inbox m =
    let keys = key.Inbox ∷ message_keys in
    let found = member (codes "inbox") (count inbox) no_members in
    sym (extended_names keys (held (rows_by true sized m) found))
    ∙ rows_names (λ name. is_among keys name || is_named message_names name) (rows_by true sized m) found (refl, (refl, (refl, (refl, (refl, (refl, (refl, tt))))))) refl
arrival_names false sized inbox m =
    let keys = key.Inbox ∷ message_keys in
    let found = member (codes "inbox") (count inbox) no_members in
    sym (extended_names keys (held (rows_by false sized m) found))
    ∙ rows_names (λ name. is_among keys name || is_named message_names name) (rows_by false sized m) found (refl, (refl, (refl, (refl, (refl, (refl, (refl, tt))))))) refl

inbox_there : (text sized : Bool) (inbox : ℕ) (m : Message) → get_member (codes "inbox") (rows_held (codes "inbox") inbox (rows_by text sized m)) ≡ Some (count inbox)
inbox_there true sized inbox m =
    let found = member (codes "inbox") (count inbox) no_members in
    rows_left (codes "inbox") (message_rows m) (with_size sized m.length found) ∙ row_left (codes "inbox") (codes "length") (length_data sized m.length) found
inbox_there false sized inbox m =
    let found = member (codes "inbox") (count inbox) no_members in
    rows_left (codes "inbox") (rows_with (payload_row false m.payload) m) (with_size sized m.length found) ∙ row_left (codes "inbox") (codes "length") (length_data sized m.length) found

arrival_read : (text sized : Bool) (inbox : ℕ) (m : Message) → IsTyped m → TextOr text m.payload → (sized ≡ true → m.length ≡ length m.payload)
    → arrival Extended key.Arrival (object (rows_held (codes "inbox") inbox (rows_by text sized m))) ≡ Ok (what.Arrival inbox m)
unfolding only_in arrival_fields
arrival_read text sized inbox m typed is same =
    let found = member (codes "inbox") (count inbox) no_members in
    let number = number_read key.Inbox inbox (held (rows_by text sized m) found) (inbox_there text sized inbox m) in
    let message = message_read text sized m found typed is same
    (record { bare = record { subject = refl; reply = refl; payload = refl; status = refl; description = refl; headers = refl }; base64 = refl; length = refl }) in
    rw (arrival_names text sized inbox m, number, message) refl

reply_names : (text sized : Bool) (request : ℕ) (m : Message) → members_with (key.Request ∷ message_keys) message_names (rows_held (codes "request") request (rows_by text sized m)) ≡ true
reply_names true sized request m =
    let keys = key.Request ∷ message_keys in
    let found = member (codes "request") (count request) no_members in
    sym (extended_names keys (held (rows_by true sized m) found))
    ∙ rows_names (λ name. is_among keys name || is_named message_names name) (rows_by true sized m) found (refl, (refl, (refl, (refl, (refl, (refl, (refl, tt))))))) refl
reply_names false sized request m =
    let keys = key.Request ∷ message_keys in
    let found = member (codes "request") (count request) no_members in
    sym (extended_names keys (held (rows_by false sized m) found))
    ∙ rows_names (λ name. is_among keys name || is_named message_names name) (rows_by false sized m) found (refl, (refl, (refl, (refl, (refl, (refl, (refl, tt))))))) refl

request_there : (text sized : Bool) (request : ℕ) (m : Message) → get_member (codes "request") (rows_held (codes "request") request (rows_by text sized m)) ≡ Some (count request)
request_there true sized request m =
    let found = member (codes "request") (count request) no_members in
    rows_left (codes "request") (message_rows m) (with_size sized m.length found) ∙ row_left (codes "request") (codes "length") (length_data sized m.length) found
request_there false sized request m =
    let found = member (codes "request") (count request) no_members in
    rows_left (codes "request") (rows_with (payload_row false m.payload) m) (with_size sized m.length found) ∙ row_left (codes "request") (codes "length") (length_data sized m.length) found

not_gone : (text sized : Bool) (request : ℕ) (m : Message) → get_member (codes "gone") (rows_held (codes "request") request (rows_by text sized m)) ≡ None
not_gone true sized request m =
    let found = member (codes "request") (count request) no_members in
    rows_left (codes "gone") (message_rows m) (with_size sized m.length found) ∙ row_left (codes "gone") (codes "length") (length_data sized m.length) found
not_gone false sized request m =
    let found = member (codes "request") (count request) no_members in
    rows_left (codes "gone") (rows_with (payload_row false m.payload) m) (with_size sized m.length found) ∙ row_left (codes "gone") (codes "length") (length_data sized m.length) found

reply_read : (text sized : Bool) (request : ℕ) (m : Message) → IsTyped m → TextOr text m.payload → (sized ≡ true → m.length ≡ length m.payload)
    → answer Extended key.Answer (object (rows_held (codes "request") request (rows_by text sized m))) ≡ Ok (what.Answer request (Some m))
unfolding answer only_in reply_fields
reply_read text sized request m typed is same =
    let found = member (codes "request") (count request) no_members in
    let number = number_read key.Request request (held (rows_by text sized m) found) (request_there text sized request m) in
    let message = message_read text sized m found typed is same
    (record { bare = record { subject = refl; reply = refl; payload = refl; status = refl; description = refl; headers = refl }; base64 = refl; length = refl }) in
    rw (not_gone text sized request m, reply_names text sized request m, number, message) refl

-- ---- each event

any_rows_are_read : (m : Message) → IsTyped m → IsWritten m → AreRead (any_rows m)
any_rows_are_read m typed written =
    rows_are_read (is_utf8 m.payload) (m.length == length m.payload) m typed written.0 (text_or (is_utf8 m.payload) m.payload refl written.1)

kind_reads : (at : ℕ) (kind : EventKind) → at < 2 ^ 64 → IsTypedKind kind → IsWrittenKind kind → extended_line (extended_json (record { at = at; what = kind })) ≡ Ok (record { at = at; what = kind })
kind_reads at what.Tick low typed written =
    let e : Event = record { at = at; what = what.Tick } in reads_alike Extended (event_json e) e (event_reads e low typed refl)
kind_reads at (what.Arrival inbox m) low typed written =
    arrival_reads Extended at inbox (any_rows m) (extended_json (record { at = at; what = what.Arrival inbox m })) m low typed.0 (any_rows_are_read m typed.1 written) (arrival_is at inbox m)
    (arrival_read (is_utf8 m.payload) (m.length == length m.payload) inbox m typed.1 (text_or (is_utf8 m.payload) m.payload refl written.1) (λ same. eqb-true m.length (length m.payload) same))
kind_reads at (what.Answer request (Some m)) low typed written =
    reply_reads Extended at request (any_rows m) (extended_json (record { at = at; what = what.Answer request (Some m) })) m low typed.0 (any_rows_are_read m typed.1 written) (reply_is at request m)
    (reply_read (is_utf8 m.payload) (m.length == length m.payload) request m typed.1 (text_or (is_utf8 m.payload) m.payload refl written.1) (λ same. eqb-true m.length (length m.payload) same))
kind_reads at (what.Answer request None) low typed written =
    let e : Event = record { at = at; what = what.Answer request None } in reads_alike Extended (event_json e) e (event_reads e low typed refl)
kind_reads at (what.Link up) low typed written =
    let e : Event = record { at = at; what = what.Link up } in reads_alike Extended (event_json e) e (event_reads e low typed refl)
kind_reads at (what.Connection state) low typed written =
    let e : Event = record { at = at; what = what.Connection state } in reads_alike Extended (event_json e) e (event_reads e low typed refl)
kind_reads at what.WatcherEnded low typed written =
    let e : Event = record { at = at; what = what.WatcherEnded } in reads_alike Extended (event_json e) e (event_reads e low typed refl)

pub extended_reads : (e : Event) → e.at < 2 ^ 64 → IsTypedKind e.what → IsWrittenKind e.what → extended_line (extended_json e) ≡ Ok e
extended_reads e low typed written = kind_reads e.at e.what low typed written

-- ---- its line

one_line : (key : List ℕ) (at : ℕ) (name : List ℕ) (n : ℕ) (m : Message) (text : List ℕ) → IsUtf8 key → IsUtf8 name → at < 2 ^ 64 → n < 2 ^ 64 → IsTyped m → IsWritten m
    → text ≡ compact_text (keyed_data key at name n m) → IsOneLine text
one_line key at name n m _ two three low fits typed written is =
    let d = keyed_data key at name n m in
    let one = IsUtf8-are_ascii (codes "at") refl in
    let simple : IsSimple IsUtf8 d = (one, (low, (two, (rows_simple name n (any_rows m) three fits (any_rows_are_read m typed written), tt)))) in
    subst IsOneLine (sym is) (text_line d (simple_line d simple))

cut_at : (json rest : List ℕ) → IsOneLine json → lines_of ((json ++ codes "\n") ++ rest) ≡ json ∷ lines_of rest
cut_at json rest is = ap lines_of (append_assoc json (codes "\n") rest) ∙ line_cut json rest is

kind_cut : (at : ℕ) (kind : EventKind) → at < 2 ^ 64 → IsTypedKind kind → IsWrittenKind kind → (rest : List ℕ)
    → lines_of (extended_text (record { at = at; what = kind }) ++ rest) ≡ extended_json (record { at = at; what = kind }) ∷ lines_of rest
kind_cut at what.Tick low typed written rest = event_cut (record { at = at; what = what.Tick }) low typed rest
kind_cut at (what.Arrival inbox m) low typed written rest =
    let json = extended_json (record { at = at; what = what.Arrival inbox m }) in
    cut_at json rest
    (one_line (codes "arrival") at (codes "inbox") inbox m json (IsUtf8-are_ascii (codes "arrival") refl) (IsUtf8-are_ascii (codes "inbox") refl) low typed.0 typed.1 written (arrival_is at inbox m))
kind_cut at (what.Answer request (Some m)) low typed written rest =
    let json = extended_json (record { at = at; what = what.Answer request (Some m) }) in
    cut_at json rest
    (one_line (codes "answer") at (codes "request") request m json (IsUtf8-are_ascii (codes "answer") refl) (IsUtf8-are_ascii (codes "request") refl) low typed.0 typed.1 written (reply_is at request m))
kind_cut at (what.Answer request None) low typed written rest = event_cut (record { at = at; what = what.Answer request None }) low typed rest
kind_cut at (what.Link up) low typed written rest = event_cut (record { at = at; what = what.Link up }) low typed rest
kind_cut at (what.Connection state) low typed written rest = event_cut (record { at = at; what = what.Connection state }) low typed rest
kind_cut at what.WatcherEnded low typed written rest = event_cut (record { at = at; what = what.WatcherEnded }) low typed rest

-- it is the first line of what follows
pub extended_cut : (e : Event) → e.at < 2 ^ 64 → IsTypedKind e.what → IsWrittenKind e.what → (rest : List ℕ) → lines_of (extended_text e ++ rest) ≡ extended_json e ∷ lines_of rest
extended_cut e low typed written rest = kind_cut e.at e.what low typed written rest

-- ---- and a line of a transcript

message_plain : (m : Message) → is_recordable_message m ≡ true → any_message_text m ≡ message_text m
message_plain m is =
    let parts = and_parts (is_utf8 m.payload) (m.length == length m.payload) is in
    rw (parts.0, parts.1) refl

what_plain : (kind : EventKind) → is_recordable_kind kind ≡ true → any_what_text kind ≡ what_text kind
what_plain what.Tick is = refl
what_plain (what.Arrival inbox m) is = ap (λ (s : List ℕ). codes ",\"arrival\":{\"inbox\":" ++ (decimal inbox ++ (s ++ codes "}"))) (message_plain m is)
what_plain (what.Answer request (Some m)) is = ap (λ (s : List ℕ). codes ",\"answer\":{\"request\":" ++ (decimal request ++ (s ++ codes "}"))) (message_plain m is)
what_plain (what.Answer request None) is = refl
what_plain (what.Link up) is = refl
what_plain (what.Connection state) is = refl
what_plain what.WatcherEnded is = refl

-- the line of a recordable event is that of a transcript
pub plain_text : (e : Event) → is_recordable e ≡ true → extended_text e ≡ event_text e
plain_text e is = ap (λ (s : List ℕ). (codes "{\"at\":" ++ (decimal e.at ++ (s ++ codes "}"))) ++ codes "\n") (what_plain e.what is)

-- an event that was read
abbrev read : Event → Result Event ReadError
read e = Ok e

-- any other is no line of a transcript
pub refused_plain : (e : Event) → e.at < 2 ^ 64 → IsTypedKind e.what → IsWrittenKind e.what → is_recordable e ≡ false → (other : Event) → event_line (extended_json e) ≡ Ok other → ⊥
refused_plain e low typed written not other is =
    let both : read e ≡ read other = sym (extended_reads e low typed written) ∙ reads_alike Extended (extended_json e) other is in
    let same : e ≡ other = cc in
    true≢false (sym (said_is_recordable other (extended_json e) is) ∙ ap is_recordable (sym same) ∙ not)
