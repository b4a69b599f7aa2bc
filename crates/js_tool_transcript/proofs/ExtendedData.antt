-- The JSON of an extended line is the compact text of a value: its members, each in its row.
use Rattle.std.proofs.Common.{◌≡◌, ℕ, ◌==◌, Bool, true, false, List, [], ◌∷◌, ◌++◌, codes, decimal, length, Option, Some, None, refl, sym, ap, ◌∙◌}
use Rattle.std.specs.Prelude.{if◌then◌else◌}
use Rattle.std.specs.Str.{is_utf8}
use Rattle.json.specs.Print.{quoted, escape_byte}
use Rattle.serde_json.specs.Data.{Data, string, object, no_members, member}
use Rattle.serde_json.specs.Written.{compact_text, members_text}
use Rattle.js_base.specs.declared.message.Message.{Message}
use Rattle.js_ordered_table.specs.declared.event.EventKind.TheVariants as what
use Rattle.js_tool_transcript.specs.EventText.{address_text, payload_text, status_and_headers_text}
use Rattle.js_tool_transcript.specs.ExtendedMessage.{base64_of}
use Rattle.js_tool_transcript.specs.ExtendedText.{any_message_text, extended_json}
use Rattle.js_tool_transcript.proofs.EventData.{Row, written, written_is, row_text, rows_text, count, rows_with, rows_are, numbered_rows}

-- ---- rows

-- a payload that is a text, or none
abbrev pub payload_row : Bool → List ℕ → Row
payload_row true payload = (codes "payload", Some (string payload))
payload_row false payload = (codes "payload_base64", Some (string (base64_of payload)))

-- a length that is the payload's, or not
abbrev pub length_data : Bool → ℕ → Option Data
length_data true n = None
length_data false n = Some (count n)

abbrev pub rows_by : Bool → Bool → Message → List Row
rows_by text sized m = (codes "length", length_data sized m.length) ∷ rows_with (payload_row text m.payload) m

abbrev pub any_rows : Message → List Row
any_rows m = rows_by (is_utf8 m.payload) (m.length == length m.payload) m

length_is : (sized : Bool) (n : ℕ) → row_text (codes "length") (length_data sized n) ≡ (if sized then [] else codes ",\"length\":" ++ decimal n)
unfolding escape_byte
length_is true n = refl
length_is false n = refl

payload_is : (text : Bool) (payload : List ℕ)
    → row_text (payload_row text payload).0 (payload_row text payload).1 ≡ (if text then payload_text payload else codes ",\"payload_base64\":" ++ quoted (base64_of payload))
unfolding escape_byte
payload_is true payload = refl
payload_is false payload = refl

message_is : (m : Message) → rows_text (any_rows m) ≡ any_message_text m
message_is m =
    let row = payload_row (is_utf8 m.payload) m.payload in
    ap (λ (s : List ℕ). s ++ rows_text (rows_with row m)) (length_is (m.length == length m.payload) m.length)
    ∙ ap (λ (s : List ℕ). (if m.length == length m.payload then [] else codes ",\"length\":" ++ decimal m.length) ++ s)
    (rows_are row m ∙ ap (λ (s : List ℕ). address_text m ++ (s ++ status_and_headers_text m)) (payload_is (is_utf8 m.payload) m.payload))

members_are : (m : Message) → members_text true (written (any_rows m)) ≡ any_message_text m ++ codes "}"
members_are m = written_is (any_rows m) ∙ ap (λ (s : List ℕ). s ++ codes "}") (message_is m)

-- ---- an event with a message

-- a message behind a number, under a key
abbrev pub keyed_data : List ℕ → ℕ → List ℕ → ℕ → Message → Data
keyed_data key at name n m = object (member (codes "at") (count at) (member key (numbered_rows name n (any_rows m)) no_members))

pub arrival_is : (at inbox : ℕ) (m : Message) → extended_json (record { at = at; what = what.Arrival inbox m }) ≡ compact_text (keyed_data (codes "arrival") at (codes "inbox") inbox m)
unfolding escape_byte
arrival_is at inbox m =
    ap (λ (s : List ℕ). codes "{\"at\":" ++ (decimal at ++ (codes ",\"arrival\":{\"inbox\":" ++ ((decimal inbox ++ s) ++ codes "}")))) (sym (members_are m))

pub reply_is : (at request : ℕ) (m : Message)
    → extended_json (record { at = at; what = what.Answer request (Some m) }) ≡ compact_text (keyed_data (codes "answer") at (codes "request") request m)
unfolding escape_byte
reply_is at request m =
    ap (λ (s : List ℕ). codes "{\"at\":" ++ (decimal at ++ (codes ",\"answer\":{\"request\":" ++ ((decimal request ++ s) ++ codes "}")))) (sym (members_are m))
