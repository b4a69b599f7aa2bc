-- What the headers of a message say of how it lies in its stream.
use Rattle.std.specs.Prelude.{ℕ, ℤ, ◌≡◌, ◌⊎◌, List, [], Option, Some, None, Result, Ok, Err, codes}
use Rattle.std.specs.Result.{result_ok, result_map_both}
use Rattle.jiff.specs.Words.{parse_timestamp}
use Rattle.js_base.specs.declared.error.Error.{Error}
use Rattle.js_base.specs.declared.error.Source.TheVariants as source
use Rattle.js_base.specs.declared.headers.Header.{Header}
use Rattle.js_base.specs.declared.message.Message.{Message}
use Rattle.js_base.specs.Error.{plain, caused}
use Rattle.js_base.specs.Headers.{last_value}
use Rattle.js_message.specs.Numbers.{u64_of}
use Rattle.js_message.specs.declared.stream_message.StreamMessage.{StreamMessage}
use Rattle.js_message.specs.declared.stream_message.StreamMessageErrorKind.{StreamMessageErrorKind}
use Rattle.js_message.specs.declared.stream_message.StreamMessageErrorKind.TheVariants.{MissingHeader, ParseError, OutOfMemory}
use Rattle.js_message.specs.declared.stream_message.HeaderFault.{HeaderFault}
use Rattle.js_message.specs.declared.stream_message.StreamHeader.{StreamHeader}
use Rattle.js_message.specs.declared.stream_message.StreamHeader.TheVariants.{Sequence, TimeStamp, Subject}
use Rattle.js_message.specs.declared.stream_message.MessageFields as declared

-- how each kind is printed
abbrev pub kind_text : StreamMessageErrorKind → List ℕ
kind_text MissingHeader = codes "missing message header"
kind_text ParseError = codes "parse error"
kind_text OutOfMemory = codes "out of memory"

-- the instant that a text is, in nanoseconds since 1970
abbrev pub time_of : List ℕ → Option ℤ
time_of text = result_ok (parse_timestamp text)

-- what headers say of a message: its subject, its sequence and its time
pub record MessageFields : Type 0 where
  pub subject : List ℕ
  pub sequence : ℕ
  pub time : ℤ

-- the name of a header
abbrev pub name_of : StreamHeader → List ℕ
name_of Sequence = codes "Nats-Sequence"
name_of TimeStamp = codes "Nats-Time-Stamp"
name_of Subject = codes "Nats-Subject"

-- a header that is not there
abbrev pub is_missing : StreamHeader → HeaderFault
is_missing header = record { kind = MissingHeader; header = header }

-- a header whose value does not parse
abbrev pub is_unreadable : StreamHeader → HeaderFault
is_unreadable header = record { kind = ParseError; header = header }

-- the value that is there, or the fault; then what follows
abbrev pub or_fault : {A B : Type 0} → Option A → HeaderFault → (A → Result B HeaderFault) → Result B HeaderFault
or_fault None fault next = Err fault
or_fault (Some value) fault next = next value

-- what the headers say, read in this order
abbrev pub fields_in : List Header → Result MessageFields HeaderFault
fields_in headers =
    or_fault (last_value (name_of Sequence) headers) (is_missing Sequence) (λ sequence_text.
    or_fault (u64_of sequence_text) (is_unreadable Sequence) (λ sequence.
    or_fault (last_value (name_of TimeStamp) headers) (is_missing TimeStamp) (λ time_text.
    or_fault (time_of time_text) (is_unreadable TimeStamp) (λ time.
    or_fault (last_value (name_of Subject) headers) (is_missing Subject) (λ subject.
    Ok (record { subject = subject; sequence = sequence; time = time }))))))

-- what was read, as plain values
abbrev pub plain_fields : Result declared.MessageFields HeaderFault → Result MessageFields HeaderFault
plain_fields result = result_map_both (λ t. record { subject = t.subject.now; sequence = t.sequence; time = t.time.nanosecond }) (λ fault. fault) result

-- the message that was read says what the headers say, and has them and the body
pub record IsStreamMessage (headers : List Header) (payload : List ℕ) (s : StreamMessage) : Type 0 where
  pub told : fields_in headers ≡ Ok (record { subject = s.subject; sequence = s.sequence; time = s.time.nanosecond })
  pub headers_stay : s.headers ≡ headers
  pub payload_stays : s.payload ≡ payload

-- the error is of the fault's kind, and its source is the header's name; or memory ran out
abbrev pub IsRefusal : HeaderFault → Error StreamMessageErrorKind → Type 0
IsRefusal fault error = (error ≡ caused fault.kind (source.Text (name_of fault.header))) ⊎ (error ≡ plain OutOfMemory)

-- refusing what was read of the headers: their fault is told, or memory ran out
abbrev pub RefusesAs : Result MessageFields HeaderFault → Error StreamMessageErrorKind → Type 0
RefusesAs (Err fault) error = IsRefusal fault error
RefusesAs (Ok told) error = error ≡ plain OutOfMemory

-- Reading a message with these headers and this body: want of memory apart, each refusal is that of the headers' fault. A message
-- that has none is refused as one whose headers are empty.
abbrev pub Reads : Option (List Header) → List ℕ → Result StreamMessage (Error StreamMessageErrorKind) → Type 0
Reads None payload (Ok s) = ⊥
Reads None payload (Err error) = RefusesAs (fields_in []) error
Reads (Some headers) payload (Ok s) = IsStreamMessage headers payload s
Reads (Some headers) payload (Err error) = RefusesAs (fields_in headers) error

-- reading the message
abbrev pub ReadsMessage : Message → Result StreamMessage (Error StreamMessageErrorKind) → Type 0
ReadsMessage message result = Reads message.headers message.payload result
