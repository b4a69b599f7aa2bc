-- What an extended line can say of a message beside the keys of a transcript: a payload in base 64, and a length.
use Rattle.std.specs.Prelude.{ℕ, Bool, List, [], ◌∷◌, length, codes, Option, Some, None, Result, Ok, Err, if◌then◌else◌}
use Rattle.std.specs.Result.{result_ok}
use Rattle.base64.specs.Engines.{standard}
use Rattle.base64.specs.GeneralPurpose.{encode_of, decode_of}
use Rattle.serde_json.specs.Data.{Data}
use Rattle.serde_json.specs.Find.{get}
use Rattle.js_base.specs.declared.message.Message.{Message}
use Rattle.js_json_members.specs.declared.key.Key.{Key}
use Rattle.js_json_members.specs.declared.key.Key.TheVariants as key
use Rattle.js_json_members.specs.declared.error.ReadError.{ReadError}
use Rattle.js_json_members.specs.declared.error.ReadError.TheVariants.{WrongKind}
use Rattle.js_json_members.specs.Member.{◌>>=◌, Reads, natural, named}
use Rattle.js_json_members.specs.Value.{has_only}
use Rattle.js_tool_transcript.specs.declared.transcript.lines.Lines.{Lines}
use Rattle.js_tool_transcript.specs.declared.transcript.lines.Lines.TheVariants.{Plain, Extended}
use Rattle.js_tool_transcript.specs.declared.transcript.extended_name.ExtendedName.{ExtendedName}
use Rattle.js_tool_transcript.specs.declared.transcript.extended_name.ExtendedName.TheVariants as name
use Rattle.js_tool_transcript.specs.ExtendedName.{has_only_with, under}
use Rattle.js_tool_transcript.specs.Message.{message_fields}

-- ---- base 64

-- the text of bytes in base 64, as RFC 4648 has it, with its padding
unfoldable pub base64_of : List ℕ → List ℕ
base64_of bytes = encode_of standard bytes

-- the bytes that a text in base 64 stands for, if it is one
unfoldable pub bytes_of : List ℕ → Option (List ℕ)
bytes_of text = result_ok (decode_of standard text)

-- ---- the names that only an extended line has

abbrev pub message_names : List ExtendedName
message_names = name.PayloadBase64 ∷ name.Length ∷ []

-- an object that has no other names than lines of this form allow
abbrev pub has_only_in : Lines → List Key → Data → Bool
has_only_in Plain keys d = has_only keys d
has_only_in Extended keys d = has_only_with keys message_names d

-- a member that is such an object
unfoldable pub only_in : {A : Type 0} → Lines → List Key → (Data → Result A ReadError) → Reads A
only_in lines keys fields key d = if has_only_in lines keys d then fields d else Err (WrongKind key)

-- ---- their members

-- bytes stand in the place of a payload, and not beside one
abbrev pub in_place_of : Option Data → Option (List ℕ) → Result (Option (List ℕ)) ReadError
in_place_of payload None = Ok None
in_place_of None (Some bytes) = Ok (Some bytes)
in_place_of (Some payload) (Some bytes) = Err (WrongKind key.Payload)

-- a payload in base 64, in place of `payload`
unfoldable pub payload_base64 : Data → Result (Option (List ℕ)) ReadError
payload_base64 d = under (codes "payload_base64") key.Payload (named bytes_of) d >>= in_place_of (get (codes "payload") d)

-- a payload is as long as it is, unless a length is said too
abbrev pub with_payload : Option (List ℕ) → Message → Message
with_payload None m = m
with_payload (Some bytes) m = record m { payload = bytes; length = length bytes }

abbrev pub with_length : Option ℕ → Message → Message
with_length None m = m
with_length (Some n) m = record m { length = n }

-- a message as a transcript has it, but for what the extended names say
unfoldable pub extended_fields : Data → Result Message ReadError
extended_fields d = do
  bytes ← payload_base64 d
  length ← under (codes "length") key.Payload natural d
  message ← message_fields d
  Ok (with_length length (with_payload bytes message))

-- what lines of this form say of a message
abbrev pub fields_in : Lines → Data → Result Message ReadError
fields_in Plain d = message_fields d
fields_in Extended d = extended_fields d
