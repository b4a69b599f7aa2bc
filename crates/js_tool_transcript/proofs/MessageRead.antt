-- The rows of a message are read as the message.
use Rattle.std.proofs.Common.{◌≡◌, ℕ, ◌^◌, ◌<◌, ◌≤◌, List, [], ◌∷◌, codes, length, Option, Some, None, option_map, Result, Ok, refl, sym, ap, ◌∙◌, lt-ltb, arith}
use Rattle.std.specs.Prelude.{IfSome, unwrap_or, max}
use Rattle.std.specs.List.{AllByRecursion}
use Rattle.std.specs.Str.{IsUtf8}
use Rattle.json.specs.Tree.{items_depth}
use Rattle.json.proofs.Printed.Utf8.{IsUtf8-are_ascii}
use Rattle.serde_json.specs.Data.{Data, string, object, Members}
use Rattle.serde_json.specs.Find.{get_member}
use Rattle.serde_json.specs.Read.{of_items}
use Rattle.serde_json.specs.Written.{items_outline}
use Rattle.serde_json.proofs.Numbers.{number_of-decimal}
use Rattle.js_base.specs.declared.headers.Header.{Header}
use Rattle.js_base.specs.declared.message.Message.{Message}
use Rattle.js_base.specs.declared.message.StatusCode.{StatusCode}
use Rattle.js_base.specs.Headers.{pairs}
use Rattle.js_json_members.specs.declared.key.Key.{Key}
use Rattle.js_json_members.specs.declared.key.Key.TheVariants as key
use Rattle.js_json_members.specs.declared.error.ReadError.{ReadError}
use Rattle.js_json_members.specs.Member.{defaulted, optional, text, natural, natural_of, list_of, all_read}
use Rattle.js_json_members.specs.Key.{key_name}
use Rattle.js_tool_transcript.specs.Message.{payload, header, status_code, message_fields}
use Rattle.js_tool_transcript.specs.EventText.{AreTextPairs, IsTyped}
use Rattle.js_tool_transcript.proofs.CompactText.{IsSimple, ItemsAreSimple}
use Rattle.js_tool_transcript.proofs.EventData.{Row, unless_empty, header_items, status_data, headers_data, rows_with, message_rows}
use Rattle.js_tool_transcript.proofs.RowsRead.{held, IsSame, over, rows_left, AreSimple, IsShallow}

-- ---- headers

headers_read : (headers : List Header) → all_read header key.Headers (header_items (pairs headers)) ≡ Ok headers
unfolding text
headers_read [] = refl
headers_read (h ∷ headers) = rw (headers_read headers) refl

headers_same : (headers : List (List ℕ × List ℕ)) → of_items (items_outline (header_items headers)) ≡ Some (header_items headers)
headers_same [] = refl
headers_same (h ∷ headers) = rw (headers_same headers) refl

headers_simple : (headers : List (List ℕ × List ℕ)) → AreTextPairs headers → ItemsAreSimple IsUtf8 (header_items headers)
headers_simple [] are = tt
headers_simple (h ∷ headers) are = ((are.0.0, (are.0.1, tt)), headers_simple headers are.1)

flat_or : (n : ℕ) → n ≤ 1 → max 1 n ≤ 1
flat_or n flat = omega arith

headers_flat : (headers : List (List ℕ × List ℕ)) → items_depth (items_outline (header_items headers)) ≤ 1
headers_flat [] = omega arith
headers_flat (h ∷ headers) = flat_or (items_depth (items_outline (header_items headers))) (headers_flat headers)

-- ---- the rows of a message

-- what holds of a value that may be left out
mapped : {A : Type 0} (P : Data → Type 0) (f : A → Data) (Q : A → Type 0) → ((a : A) → Q a → P (f a)) → (o : Option A) → IfSome o Q → IfSome (option_map f o) P
mapped P f Q holds None is = tt
mapped P f Q holds (Some a) is = holds a is

filled : (P : Data → Type 0) (s : List ℕ) → P (string s) → IfSome (unless_empty s) P
filled P [] is = tt
filled P (c ∷ cs) is = is

small : (n : ℕ) → n < 2 ^ 16 → n < 2 ^ 64
small n low = omega arith

pub message_same : (row : Row) (m : Message) → IsTyped m → IfSome row.1 IsSame → AllByRecursion (λ (row : Row). IfSome row.1 IsSame) (rows_with row m)
message_same row m typed same = (
  filled IsSame m.subject refl,
  (
    mapped IsSame string IsUtf8 (λ s is. refl) m.reply typed.reply,
    (
      same,
      (
        mapped IsSame status_data (λ status. status.0 < 2 ^ 16) (λ status low. rw (number_of-decimal status.0 (small status.0 low)) refl) m.status typed.status,
        (
          mapped IsSame string IsUtf8 (λ s is. refl) m.description typed.description,
          (mapped IsSame headers_data (λ headers. AreTextPairs (pairs headers)) (λ headers are. rw (headers_same (pairs headers)) refl) m.headers typed.headers, tt),
        ),
      ),
    ),
  ),
)

pub message_simple : (row : Row) (m : Message) → IsTyped m → IsUtf8 row.0 × IfSome row.1 (IsSimple IsUtf8) → AreSimple IsUtf8 (rows_with row m)
message_simple row m typed simple = (
  (IsUtf8-are_ascii (codes "subject") refl, filled (IsSimple IsUtf8) m.subject typed.subject),
  (
    (IsUtf8-are_ascii (codes "reply") refl, mapped (IsSimple IsUtf8) string IsUtf8 (λ s is. is) m.reply typed.reply),
    (
      simple,
      (
        (IsUtf8-are_ascii (codes "status") refl, mapped (IsSimple IsUtf8) status_data (λ status. status.0 < 2 ^ 16) (λ status low. small status.0 low) m.status typed.status),
        (
          (IsUtf8-are_ascii (codes "description") refl, mapped (IsSimple IsUtf8) string IsUtf8 (λ s is. is) m.description typed.description),
          (
            (
              IsUtf8-are_ascii (codes "headers") refl,
              mapped (IsSimple IsUtf8) headers_data (λ headers. AreTextPairs (pairs headers)) (λ headers are. headers_simple (pairs headers) are) m.headers typed.headers,
            ),
            tt,
          ),
        ),
      ),
    ),
  ),
)

pub level : 0 ≤ 2
level = omega arith

any : {A : Type 0} (o : Option A) → IfSome o (λ a. Unit {0})
any None = tt
any (Some a) = tt

pub message_shallow : (row : Row) (m : Message) → IfSome row.1 IsShallow → AllByRecursion (λ (row : Row). IfSome row.1 IsShallow) (rows_with row m)
message_shallow row m shallow = (
  filled IsShallow m.subject level,
  (
    mapped IsShallow string (λ s. Unit {0}) (λ s is. level) m.reply (any m.reply),
    (
      shallow,
      (
        mapped IsShallow status_data (λ s. Unit {0}) (λ s is. level) m.status (any m.status),
        (
          mapped IsShallow string (λ s. Unit {0}) (λ s is. level) m.description (any m.description),
          (mapped IsShallow headers_data (λ s. Unit {0}) (λ headers is. let flat = headers_flat (pairs headers) in omega (arith, flat)) m.headers (any m.headers), tt),
        ),
      ),
    ),
  ),
)

-- ---- a message is read

-- a subject that is not empty
abbrev nonempty : List ℕ → Option (List ℕ)
nonempty [] = None
nonempty (c ∷ cs) = Some (c ∷ cs)

or_empty : (s : List ℕ) → unwrap_or (nonempty s) [] ≡ s
or_empty [] = refl
or_empty (c ∷ cs) = refl

subject_read : (s : List ℕ) (ms : Members) → get_member (codes "subject") ms ≡ over (unless_empty s) None → optional text key.Subject (object ms) ≡ Ok (nonempty s)
unfolding optional text
subject_read [] ms is = rw is refl
subject_read (c ∷ cs) ms is = rw is refl

text_read : (k : Key) (s : Option (List ℕ)) (ms : Members) → get_member (key_name k) ms ≡ over (option_map string s) None → optional text k (object ms) ≡ Ok s
unfolding optional text
text_read k None ms is = rw is refl
text_read k (Some s) ms is = rw is refl

payload_read : (s : List ℕ) (ms : Members) → get_member (codes "payload") ms ≡ Some (string s) → defaulted payload key.Payload [] (object ms) ≡ Ok s
unfolding defaulted
payload_read s ms is = rw is refl

-- the number of a status
abbrev number_in : StatusCode → ℕ
number_in status = status.0

status_same : (status : Option StatusCode) → option_map status_code (option_map number_in status) ≡ status
status_same None = refl
status_same (Some status) = refl

status_read : (status : Option StatusCode) (ms : Members) → IfSome status (λ status. status.0 < 2 ^ 16) → get_member (codes "status") ms ≡ over (option_map status_data status) None
    → optional (natural_of 16) key.Status (object ms) ≡ Ok (option_map number_in status)
unfolding optional natural natural_of
status_read None ms low is = rw is refl
status_read (Some status) ms low is = rw (is, lt-ltb status.0 (2 ^ 16) low) refl

headers_there : (headers : Option (List Header)) (ms : Members) → get_member (codes "headers") ms ≡ over (option_map headers_data headers) None → optional (list_of header) key.Headers (object ms) ≡ Ok headers
unfolding optional list_of
headers_there None ms is = rw is refl
headers_there (Some headers) ms is = rw (is, headers_read headers) refl

-- no key of a message is there
pub record IsBare (found : Members) : Type 0 where
  pub subject : get_member (codes "subject") found ≡ None
  pub reply : get_member (codes "reply") found ≡ None
  pub payload : get_member (codes "payload") found ≡ None
  pub status : get_member (codes "status") found ≡ None
  pub description : get_member (codes "description") found ≡ None
  pub headers : get_member (codes "headers") found ≡ None

-- a message that was read
abbrev good : Message → Result Message ReadError
good m = Ok m

same_message : (m : Message) (subject : List ℕ) (status : Option StatusCode) (said : List ℕ) → subject ≡ m.subject → status ≡ m.status
    → good (record { subject = subject; reply = m.reply; payload = said; headers = m.headers; status = status; description = m.description; length = length said })
    ≡ good (record m { payload = said; length = length said })
same_message m subject status said one two = rw (one, two) refl

-- all keys of a message are there but that of its payload
pub record HasMembers (m : Message) (ms : Members) : Type 0 where
  pub subject : get_member (codes "subject") ms ≡ over (unless_empty m.subject) None
  pub reply : get_member (codes "reply") ms ≡ over (option_map string m.reply) None
  pub status : get_member (codes "status") ms ≡ over (option_map status_data m.status) None
  pub description : get_member (codes "description") ms ≡ over (option_map string m.description) None
  pub headers : get_member (codes "headers") ms ≡ over (option_map headers_data m.headers) None

fields_read : (m : Message) (ms : Members) (said : List ℕ) → IsTyped m → HasMembers m ms → defaulted payload key.Payload [] (object ms) ≡ Ok said
    → message_fields (object ms) ≡ Ok (record m { payload = said; length = length said })
unfolding message_fields
fields_read m ms said typed has three =
    let one = subject_read m.subject ms has.subject in
    let two = text_read key.Reply m.reply ms has.reply in
    let four = status_read m.status ms typed.status has.status in
    let five = text_read key.Description m.description ms has.description in
    let last = headers_there m.headers ms has.headers in
    rw (one, two, three, four, five, last)
    (same_message m (unwrap_or (nonempty m.subject) []) (option_map status_code (option_map number_in m.status)) said (or_empty m.subject) (status_same m.status))

-- a message whose payload is a text, but for its length
pub text_read_with : (m : Message) (found : Members) → IsTyped m → IsBare found → message_fields (object (held (message_rows m) found)) ≡ Ok (record m { length = length m.payload })
text_read_with m found typed bare =
    let rows = message_rows m in
    fields_read m (held rows found) m.payload typed
    (record {
      subject = rows_left (codes "subject") rows found ∙ ap (over (unless_empty m.subject)) bare.subject;
      reply = rows_left (codes "reply") rows found ∙ ap (over (option_map string m.reply)) bare.reply;
      status = rows_left (codes "status") rows found ∙ ap (over (option_map status_data m.status)) bare.status;
      description = rows_left (codes "description") rows found ∙ ap (over (option_map string m.description)) bare.description;
      headers = rows_left (codes "headers") rows found ∙ ap (over (option_map headers_data m.headers)) bare.headers;
    })
    (payload_read m.payload (held rows found) (rows_left (codes "payload") rows found))

no_payload : (ms : Members) → get_member (codes "payload") ms ≡ None → defaulted payload key.Payload [] (object ms) ≡ Ok []
unfolding defaulted
no_payload ms is = rw is refl

-- a message whose payload stands under another name
pub other_read_with : (m : Message) (d : Data) (found : Members) → IsTyped m → IsBare found
    → message_fields (object (held (rows_with (codes "payload_base64", Some d) m) found)) ≡ Ok (record m { payload = []; length = 0 })
other_read_with m d found typed bare =
    let rows = rows_with (codes "payload_base64", Some d) m in
    fields_read m (held rows found) [] typed
    (record {
      subject = rows_left (codes "subject") rows found ∙ ap (over (unless_empty m.subject)) bare.subject;
      reply = rows_left (codes "reply") rows found ∙ ap (over (option_map string m.reply)) bare.reply;
      status = rows_left (codes "status") rows found ∙ ap (over (option_map status_data m.status)) bare.status;
      description = rows_left (codes "description") rows found ∙ ap (over (option_map string m.description)) bare.description;
      headers = rows_left (codes "headers") rows found ∙ ap (over (option_map headers_data m.headers)) bare.headers;
    })
    (no_payload (held rows found) (rows_left (codes "payload") rows found ∙ bare.payload))

pub message_read : (m : Message) (found : Members) → IsTyped m → m.length ≡ length m.payload → IsBare found → message_fields (object (held (message_rows m) found)) ≡ Ok m
message_read m found typed sized bare = text_read_with m found typed bare ∙ ap (λ (n : ℕ). good (record m { length = n })) (sym sized)
