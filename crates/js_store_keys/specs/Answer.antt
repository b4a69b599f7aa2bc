-- What the server's answer says of the last message of a key.
use Rattle.std.specs.Prelude.{ℕ, ℤ, ◌≡◌, ◌==◌, ⊤, Bool, true, false, if◌then◌else◌, List, [], ◌∷◌, length, codes, Option, Some, None, IsSome, option_map, Result, Ok, Err, refl}
use Rattle.std.specs.Option.{option_and_then, ok_or}
use Rattle.std.specs.Result.{result_ok}
use Rattle.base64.specs.Engines.{standard}
use Rattle.base64.specs.GeneralPurpose.{decode_of}
use Rattle.serde_json.specs.Data.{Data}
use Rattle.serde_json.specs.Find.{get, as_str, as_number, as_u64}
use Rattle.js_base.specs.declared.headers.Header.{Header}
use Rattle.js_base.specs.declared.message.Message.{Message}
use Rattle.js_base.specs.declared.message.StatusCode.{StatusCode}
use Rattle.js_codes.specs.Errors.{error_fields}
use Rattle.js_codes.specs.declared.errors.Error.{Error}
use Rattle.js_json_members.specs.Instant.{instant_of}
use Rattle.js_json_members.specs.Value.{value_of}
use Rattle.js_json_members.specs.declared.error.ReadError.{ReadError}
use Rattle.js_json_members.specs.declared.error.ReadError.TheVariants as faults
use Rattle.js_link_wire.specs.Headers.{read_block}
use Rattle.js_link_wire.specs.declared.headers.HeaderBlock.{HeaderBlock}
use Rattle.js_link_wire.specs.declared.headers.HeadersDamage.{HeadersDamage}
use Rattle.js_message.specs.StreamMessage.{MessageFields, fields_in}
use Rattle.js_store_keys.specs.declared.entry.Entry.{Entry}
use Rattle.js_store_keys.specs.declared.get_error.GetError.{GetError}
use Rattle.js_store_keys.specs.declared.get_error.GetError.TheVariants.{Refused, Unreadable, OutOfMemory}
use Rattle.js_store_keys.specs.declared.operation.Operation.{Operation}
use Rattle.js_store_keys.specs.declared.operation.Operation.TheVariants.{Put}
use Rattle.js_store_keys.specs.declared.stored_message.Stored.{Stored}
use Rattle.js_store_keys.specs.Operation.{operation_in, is_put}

-- how an error is printed
abbrev pub get_error_text : GetError → List ℕ
get_error_text (Refused code err_code) = codes "refused by the server"
get_error_text Unreadable = codes "unreadable answer"
get_error_text OutOfMemory = codes "out of memory"

-- what is answered is what the definition says; memory may run out only where something needs it
abbrev pub AnswersWhere : {A : Type 0} → Type 0 → Result A GetError → Result A GetError → Type 0
AnswersWhere needs told (Ok value) = told ≡ Ok value
AnswersWhere needs told (Err Unreadable) = told ≡ Err Unreadable
AnswersWhere needs told (Err (Refused code err_code)) = told ≡ Err (Refused code err_code)
AnswersWhere needs told (Err OutOfMemory) = needs

-- the same where memory is needed in any case
abbrev pub Answers : {A : Type 0} → Result A GetError → Result A GetError → Type 0
Answers told result = AnswersWhere ⊤ told result

-- the same, of an answer that is seen by a view
abbrev pub AnswersAs : {A B : Type 0} → (A → B) → Result B GetError → Result A GetError → Type 0
AnswersAs view told (Ok value) = told ≡ Ok (view value)
AnswersAs view told (Err Unreadable) = told ≡ Err Unreadable
AnswersAs view told (Err (Refused code err_code)) = told ≡ Err (Refused code err_code)
AnswersAs view told (Err OutOfMemory) = ⊤

-- the first error, or what follows
abbrev pub and_then : {A B : Type 0} → Result A GetError → (A → Result B GetError) → Result B GetError
and_then (Ok value) next = next value
and_then (Err error) next = Err error

-- what is there, or an answer that is unreadable
abbrev pub readable : {A : Type 0} → Option A → Result A GetError
readable value = ok_or value Unreadable

-- what is told where a JSON value could not be read
abbrev pub unread_value : ReadError → GetError
unread_value (faults.Missing key) = Unreadable
unread_value (faults.WrongKind key) = Unreadable
unread_value (faults.OutOfRange key) = Unreadable
unread_value faults.Float = Unreadable
unread_value faults.NotJson = Unreadable
unread_value faults.OutOfMemory = OutOfMemory

-- ---- the entry

-- the entry of a message, after which no consumer has anything to come
abbrev pub entry_of : List ℕ → List ℕ → Stored → Entry
entry_of bucket key stored = record {
  bucket = bucket;
  key = key;
  value = stored.value;
  revision = stored.revision;
  operation = stored.operation;
  created = stored.created;
  delta = 0;
}

-- a deletion and a purge give the key no value, and any other message does, even with an empty one
abbrev pub value_in : List ℕ → List ℕ → Stored → Result (Option Entry) GetError
value_in bucket key stored = if is_put stored.operation then Ok (Some (entry_of bucket key stored)) else Ok None

-- ---- a direct answer

-- the status 404 tells that there is no message, and any other one refuses
abbrev pub by_status : StatusCode → Result (Option Entry) GetError
by_status status = if status.0 == 404 then Ok None else Err (Refused status.0 0)

-- where a message stands: its sequence, and when the stream stored it
abbrev pub by_fields : {F : Type 0} → Result MessageFields F → Option (ℕ × ℤ)
by_fields (Ok fields) = Some (fields.sequence, fields.time)
by_fields (Err fault) = None

-- a message of a stream says it in its headers
abbrev pub place_in : List Header → Option (ℕ × ℤ)
place_in headers = by_fields (fields_in headers)

abbrev pub stored_with : List Header → List ℕ → ℕ × ℤ → Stored
stored_with headers payload place = record { value = payload; revision = place.0; operation = operation_in headers; created = place.1 }

-- without headers it is none
abbrev pub direct_stored : Option (List Header) → List ℕ → Option Stored
direct_stored None payload = None
direct_stored (Some headers) payload = option_map (stored_with headers payload) (place_in headers)

-- a status, or else a message
abbrev pub status_or : Option StatusCode → Result (Option Entry) GetError → Result (Option Entry) GetError
status_or (Some status) told = by_status status
status_or None told = told

-- what the answer to a direct get says
abbrev pub direct_answer : List ℕ → List ℕ → Message → Result (Option Entry) GetError
direct_answer bucket key message = status_or message.status (and_then (readable (direct_stored message.headers message.payload)) (value_in bucket key))

-- ---- an answer in JSON

-- what kind of error the API's error is, and which; its description does not matter
abbrev pub numbers_of : Result Error ReadError → Option (ℕ × ℕ)
numbers_of (Ok error) = Some (error.code, error.err_code.0)
numbers_of (Err fault) = None

-- the error 10037 tells that there is no message, and any other one refuses
abbrev pub by_numbers : Option (ℕ × ℕ) → Result (Option Entry) GetError
by_numbers None = Err Unreadable
by_numbers (Some numbers) = if numbers.1 == 10037 then Ok None else Err (Refused numbers.0 numbers.1)

abbrev pub by_error : Data → Result (Option Entry) GetError
by_error error = by_numbers (numbers_of (error_fields error))

-- the sequence of the message
abbrev pub revision_at : Data → Option ℕ
revision_at message = option_and_then as_u64 (option_and_then as_number (get (codes "seq") message))

-- when the stream stored it
abbrev pub created_at : Data → Option ℤ
created_at message = option_map (λ time. time.nanosecond) (option_and_then instant_of (option_and_then as_str (get (codes "time") message)))

-- where it stands
abbrev pub place_at : Data → Option (ℕ × ℤ)
place_at message = option_and_then (λ revision. option_map (λ created. (revision, created)) (created_at message)) (revision_at message)

-- the bytes that a text in base 64 stands for
abbrev pub decoded : List ℕ → Result (List ℕ) GetError
decoded text = readable (result_ok (decode_of standard text))

-- none where there is no member
abbrev pub decoded_or_none : Option Data → Result (List ℕ) GetError
decoded_or_none None = Ok []
decoded_or_none (Some value) = and_then (readable (as_str value)) decoded

-- the bytes of a member
abbrev pub bytes_at : List ℕ → Data → Result (List ℕ) GetError
bytes_at name message = decoded_or_none (get name message)

-- what headers say that stand in bytes, of which a message without headers has none
abbrev pub by_block : Result HeaderBlock HeadersDamage → Result Operation GetError
by_block (Ok block) = Ok (operation_in block.headers)
by_block (Err damage) = Err Unreadable

abbrev pub in_block : List ℕ → Result Operation GetError
in_block block = if length block == 0 then Ok Put else by_block (read_block block)

abbrev pub operation_at : Data → Result Operation GetError
operation_at message = and_then (bytes_at (codes "hdrs") message) in_block

-- what it does to its key, and its value
abbrev pub contents_at : Data → Result (Operation × List ℕ) GetError
contents_at message = and_then (operation_at message) (λ operation. and_then (bytes_at (codes "data") message) (λ value. Ok (operation, value)))

-- the message that the answer has
abbrev pub stored_of : ℕ × ℤ → Operation × List ℕ → Stored
stored_of place contents = record { value = contents.1; revision = place.0; operation = contents.0; created = place.1 }

-- the entry of the message at a place, where there is one
abbrev pub at_place : List ℕ → List ℕ → Data → ℕ × ℤ → Result (Option Entry) GetError
at_place bucket key message place = and_then (contents_at message) (λ contents. value_in bucket key (stored_of place contents))

-- the entry of the message, where there is one
abbrev pub by_message : List ℕ → List ℕ → Option Data → Result (Option Entry) GetError
by_message bucket key None = Err Unreadable
by_message bucket key (Some message) = and_then (readable (place_at message)) (at_place bucket key message)

-- an error, or else a message
abbrev pub error_or : Option Data → Result (Option Entry) GetError → Result (Option Entry) GetError
error_or (Some error) told = by_error error
error_or None told = told

abbrev pub by_value : List ℕ → List ℕ → Data → Result (Option Entry) GetError
by_value bucket key answer = error_or (get (codes "error") answer) (by_message bucket key (get (codes "message") answer))

-- the JSON of the answer, where it is some
abbrev pub by_json : List ℕ → List ℕ → Result Data ReadError → Result (Option Entry) GetError
by_json bucket key (Ok answer) = by_value bucket key answer
by_json bucket key (Err fault) = Err Unreadable

-- what the answer of the API says
abbrev pub stream_answer : List ℕ → List ℕ → List ℕ → Result (Option Entry) GetError
stream_answer bucket key payload = by_json bucket key (value_of payload)

-- ---- where memory is needed

-- for an entry, and not for a refusal or for a key that has no value
abbrev pub NeedsEntry : Result (Option Entry) GetError → Type 0
NeedsEntry (Ok (Some entry)) = ⊤
NeedsEntry (Ok None) = ⊥
NeedsEntry (Err error) = ⊥

-- for the bytes of a message in JSON, which stand in base 64: not where it does not say where it stands, nor where there is an error in its place
abbrev pub NeedsBytes : Option Data → Option Data → Type 0
NeedsBytes (Some error) message = ⊥
NeedsBytes None message = IsSome (option_and_then place_at message)

-- ---- both

-- what an answer says, to a direct get or to a request of the API
abbrev pub answer : List ℕ → Bool → List ℕ → Message → Result (Option Entry) GetError
answer bucket true key message = direct_answer bucket key message
answer bucket false key message = stream_answer bucket key message.payload

-- where memory is needed to tell it: for each answer in JSON, and of the others for an entry
abbrev pub NeedsMemory : List ℕ → Bool → List ℕ → Message → Type 0
NeedsMemory bucket true key message = NeedsEntry (direct_answer bucket key message)
NeedsMemory bucket false key message = ⊤

-- ---- worked answers

-- an answer with this status
abbrev pub with_status : ℕ → Message
with_status status = record {
  subject = codes "_INBOX.t1.1";
  reply = None;
  payload = [];
  headers = None;
  status = Some (record { 0 = status });
  description = None;
  length = 0;
}

-- a key without a message, and a server that has no time: neither needs memory
no_message : (direct_answer (codes "config") (codes "mode") (with_status 404) ≡ Ok None) × (NeedsMemory (codes "config") true (codes "mode") (with_status 404) → ⊥)
no_message = (refl, λ needs. needs)

times_out : (direct_answer (codes "config") (codes "mode") (with_status 408) ≡ Err (Refused 408 0)) × (NeedsMemory (codes "config") true (codes "mode") (with_status 408) → ⊥)
times_out = (refl, λ needs. needs)
