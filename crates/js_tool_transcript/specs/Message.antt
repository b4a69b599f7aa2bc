-- What the keys of a message say.
use Rattle.std.specs.Prelude.{ℕ, List, [], ◌∷◌, length, option_map, unwrap_or, Result, Ok, Err, if◌then◌else◌}
use Rattle.serde_json.specs.Data.{Data, null, boolean, number, string, array, object, Items, no_items, item}
use Rattle.serde_json.specs.Written.{compact_text, has_float}
use Rattle.js_base.specs.declared.headers.Header.{Header}
use Rattle.js_base.specs.declared.message.Message.{Message}
use Rattle.js_base.specs.declared.message.StatusCode.{StatusCode}
use Rattle.js_json_members.specs.declared.key.Key.{Key}
use Rattle.js_json_members.specs.declared.key.Key.TheVariants as key
use Rattle.js_json_members.specs.declared.error.ReadError.{ReadError}
use Rattle.js_json_members.specs.declared.error.ReadError.TheVariants.{Float, WrongKind}
use Rattle.js_json_members.specs.Member.{◌>>=◌, Reads, optional, defaulted, text, natural_of, list_of}

abbrev pub message_keys : List Key
message_keys = key.Subject ∷ key.Reply ∷ key.Payload ∷ key.Status ∷ key.Description ∷ key.Headers ∷ []

-- the compact text of a value in which no float stands
abbrev pub json_text : Data → Result (List ℕ) ReadError
json_text d = if has_float d then Err Float else Ok (compact_text d)

-- a text is its bytes, an object or an array its compact text, and null nothing
abbrev pub payload : Reads (List ℕ)
payload k null = Ok []
payload k (boolean b) = Err (WrongKind k)
payload k (number n) = Err (WrongKind k)
payload k (string s) = Ok s
payload k (array ds) = json_text (array ds)
payload k (object ms) = json_text (object ms)

-- a name and a value
abbrev pub header_of : Key → Items → Result Header ReadError
header_of k no_items = Err (WrongKind k)
header_of k (item name no_items) = Err (WrongKind k)
header_of k (item name (item value no_items)) = do
  name ← text k name
  value ← text k value
  Ok (record { name = name; value = value })
header_of k (item name (item value (item d ds))) = Err (WrongKind k)

-- an array of two texts
abbrev pub header : Reads Header
header k null = Err (WrongKind k)
header k (boolean b) = Err (WrongKind k)
header k (number n) = Err (WrongKind k)
header k (string s) = Err (WrongKind k)
header k (array ds) = header_of k ds
header k (object ms) = Err (WrongKind k)

abbrev pub status_code : ℕ → StatusCode
status_code n = record { 0 = n }

-- each key may be absent, and null stands for absent
unfoldable pub message_fields : Data → Result Message ReadError
message_fields d = do
  subject ← optional text key.Subject d
  reply ← optional text key.Reply d
  payload ← defaulted payload key.Payload [] d
  status ← optional (natural_of 16) key.Status d
  description ← optional text key.Description d
  headers ← optional (list_of header) key.Headers d
  Ok (record {
    subject = unwrap_or subject [];
    reply = reply;
    payload = payload;
    headers = headers;
    status = option_map status_code status;
    description = description;
    length = length payload;
  })
