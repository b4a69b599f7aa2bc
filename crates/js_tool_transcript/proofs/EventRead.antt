-- The line of a recordable event is read as the event.
use Rattle.std.proofs.Common.{◌≡◌, ℕ, ◌^◌, ◌<◌, ◌≤◌, ◌==◌, Bool, true, false, List, ◌∷◌, codes, length, Some, None, option_map, Result, Ok, refl, ap, ◌∙◌, arith}
use Rattle.std.specs.Prelude.{IfSome, max, suc}
use Rattle.std.specs.List.{AllByRecursion}
use Rattle.std.specs.Str.{IsUtf8, is_utf8}
use Rattle.std.proofs.lemmas.Bool.{and_parts, eqb-true}
use Rattle.std.proofs.lemmas.Str.{IsUtf8-from_is_utf8}
use Rattle.json.specs.Tree.{depth, members_depth}
use Rattle.json.proofs.Printed.Utf8.{IsUtf8-are_ascii}
use Rattle.serde_json.specs.Data.{Data, boolean, string, object, Members, no_members, member}
use Rattle.serde_json.specs.Find.{get_member}
use Rattle.serde_json.specs.Read.{of_json}
use Rattle.serde_json.specs.Written.{outline, members_outline, compact_text}
use Rattle.serde_json.proofs.Numbers.{number_of-decimal}
use Rattle.js_base.specs.declared.message.Message.{Message}
use Rattle.js_base.specs.declared.message.State.{State}
use Rattle.js_base.specs.declared.message.State.TheVariants.{Connected, Disconnected, Pending}
use Rattle.js_json_members.specs.declared.key.Key.{Key}
use Rattle.js_json_members.specs.declared.key.Key.TheVariants as key
use Rattle.js_json_members.specs.declared.error.ReadError.{ReadError}
use Rattle.js_json_members.specs.Member.{◌>>=◌, required, given, text, truth, natural, named}
use Rattle.js_json_members.specs.Key.{key_name}
use Rattle.js_ordered_table.specs.declared.event.Event.{Event}
use Rattle.js_ordered_table.specs.declared.event.EventKind.{EventKind}
use Rattle.js_ordered_table.specs.declared.event.EventKind.TheVariants as what
use Rattle.js_tool_transcript.specs.declared.transcript.lines.Lines.{Lines}
use Rattle.js_tool_transcript.specs.declared.transcript.lines.Lines.TheVariants.{Plain}
use Rattle.js_tool_transcript.specs.Members.{only, value_as, line_as}
use Rattle.js_tool_transcript.specs.Message.{message_keys}
use Rattle.js_tool_transcript.specs.Event.{arrival_fields, arrival, reply_fields, gone_fields, answer, link_named, connection_named, watcher_named, with_key, what_fields, event_fields_in, event_of_in, event_line_in, event_of, event_line}
use Rattle.js_tool_transcript.specs.ExtendedMessage.{only_in}
use Rattle.js_tool_transcript.specs.EventText.{event_json, is_recordable_kind, is_recordable, IsTyped, IsTypedKind}
use Rattle.js_tool_transcript.proofs.CompactText.{IsSimple, MembersAreSimple, simple_float_free, value_reads_as}
use Rattle.js_tool_transcript.proofs.EventData.{Row, written, count, message_rows, numbered_rows, event_data, json_is}
use Rattle.js_tool_transcript.proofs.RowsRead.{held, IsSame, rows_read, rows_left, rows_only, AreSimple, IsShallow, written_simple, held_simple, rows_shallow}
use Rattle.js_tool_transcript.proofs.MessageRead.{level, message_same, message_simple, message_shallow, message_read}

-- ---- rows behind a number

-- what is read of them
abbrev pub rows_held : List ℕ → ℕ → List Row → Members
rows_held k n rows = held rows (member k (count n) no_members)

-- rows that are read as themselves, of texts and of small numbers, and that are flat
pub record AreRead (rows : List Row) : Type 0 where
  pub same : AllByRecursion (λ (row : Row). IfSome row.1 IsSame) rows
  pub simple : AreSimple IsUtf8 rows
  pub shallow : AllByRecursion (λ (row : Row). IfSome row.1 IsShallow) rows

rows_outlined : (k : List ℕ) (n : ℕ) (rows : List Row) → n < 2 ^ 64 → AreRead rows → of_json (outline (numbered_rows k n rows)) ≡ Some (object (rows_held k n rows))
rows_outlined k n rows low are = rw (number_of-decimal n low) (ap (option_map object) (rows_read rows (member k (count n) no_members) are.same))

pub rows_simple : (k : List ℕ) (n : ℕ) (rows : List Row) → IsUtf8 k → n < 2 ^ 64 → AreRead rows → IsSimple IsUtf8 (numbered_rows k n rows)
rows_simple k n rows name low are = (name, (low, written_simple IsUtf8 rows are.simple))

rows_held_simple : (k : List ℕ) (n : ℕ) (rows : List Row) → IsUtf8 k → n < 2 ^ 64 → AreRead rows → MembersAreSimple IsUtf8 (rows_held k n rows)
rows_held_simple k n rows name low are = held_simple IsUtf8 rows (member k (count n) no_members) are.simple (name, (low, tt))

behind_number : (n : ℕ) → n ≤ 2 → suc (max 0 n) ≤ 3
behind_number n flat = omega arith

behind_shallow : (k : List ℕ) (n : ℕ) (rows : List Row) → AreRead rows → depth (outline (numbered_rows k n rows)) ≤ 3
behind_shallow k n rows are = behind_number (members_depth (members_outline (written rows))) (rows_shallow rows are.shallow)

-- a message whose payload is a text
message_reads : (m : Message) → IsTyped m → IsUtf8 m.payload → AreRead (message_rows m)
message_reads m typed utf8 =
    let row : Row = (codes "payload", Some (string m.payload)) in
    record { same = message_same row m typed refl; simple = message_simple row m typed (IsUtf8-are_ascii (codes "payload") refl, utf8); shallow = message_shallow row m level }

pub number_read : (k : Key) (n : ℕ) (ms : Members) → get_member (key_name k) ms ≡ Some (count n) → required natural k (object ms) ≡ Ok n
unfolding required natural
number_read k n ms is = rw is refl

-- an arrival

arrival_read : (inbox : ℕ) (m : Message) → IsTyped m → m.length ≡ length m.payload → arrival Plain key.Arrival (object (rows_held (codes "inbox") inbox (message_rows m))) ≡ Ok (what.Arrival inbox m)
unfolding only_in arrival_fields
arrival_read inbox m typed sized =
    let found = member (codes "inbox") (count inbox) no_members in
    let known = rows_only (key.Inbox ∷ message_keys) (message_rows m) found (refl, (refl, (refl, (refl, (refl, (refl, tt)))))) refl in
    let number = number_read key.Inbox inbox (held (message_rows m) found) (rows_left (codes "inbox") (message_rows m) found) in
    let message = message_read m found typed sized (record { subject = refl; reply = refl; payload = refl; status = refl; description = refl; headers = refl }) in
    rw (known, number, message) refl

-- an answer

reply_read : (request : ℕ) (m : Message) → IsTyped m → m.length ≡ length m.payload → answer Plain key.Answer (object (rows_held (codes "request") request (message_rows m))) ≡ Ok (what.Answer request (Some m))
unfolding answer only_in reply_fields
reply_read request m typed sized =
    let found = member (codes "request") (count request) no_members in
    let other : get_member (codes "gone") (held (message_rows m) found) ≡ None = rows_left (codes "gone") (message_rows m) found in
    let known = rows_only (key.Request ∷ message_keys) (message_rows m) found (refl, (refl, (refl, (refl, (refl, (refl, tt)))))) refl in
    let number = number_read key.Request request (held (message_rows m) found) (rows_left (codes "request") (message_rows m) found) in
    let message = message_read m found typed sized (record { subject = refl; reply = refl; payload = refl; status = refl; description = refl; headers = refl }) in
    rw (other, known, number, message) refl

-- ---- an event

-- in lines of a form
pub reads_in : (form : Lines) (e : Event) (text : List ℕ) (d said : Data) → text ≡ compact_text d → IsSimple IsUtf8 d → depth (outline d) ≤ 127 → of_json (outline d) ≡ Some said → IsSimple IsUtf8 said
    → event_of_in form said ≡ Ok e → event_line_in form text ≡ Ok e
unfolding line_as
reads_in form e _ d said is simple shallow says whole read =
    ap (λ (line : List ℕ). event_line_in form line) is
    ∙ ap (λ (v : Result Data ReadError). v >>= event_of_in form) (value_reads_as d said simple shallow says (simple_float_free said whole))
    ∙ read

reads_by : (e : Event) (said : Data) → IsSimple IsUtf8 (event_data e) → depth (outline (event_data e)) ≤ 127 → of_json (outline (event_data e)) ≡ Some said → IsSimple IsUtf8 said
    → event_of said ≡ Ok e → event_line (event_json e) ≡ Ok e
reads_by e said simple shallow says whole read = reads_in Plain e (event_json e) (event_data e) said (json_is e) simple shallow says whole read

ascii : (s : List ℕ) → is_utf8 s ≡ true → IsUtf8 s
ascii s is = IsUtf8-from_is_utf8 s is

-- where only time passes

tick_of : (at : ℕ) → event_of (event_data (record { at = at; what = what.Tick })) ≡ Ok (record { at = at; what = what.Tick })
unfolding value_as event_fields_in what_fields with_key required given natural
tick_of at = refl

tick_reads : (at : ℕ) → at < 2 ^ 64 → event_line (event_json (record { at = at; what = what.Tick })) ≡ Ok (record { at = at; what = what.Tick })
tick_reads at low =
    let e : Event = record { at = at; what = what.Tick } in
    let simple : IsSimple IsUtf8 (event_data e) = (IsUtf8-are_ascii (codes "at") refl, (low, tt)) in
    reads_by e (event_data e) simple (omega arith) (rw (number_of-decimal at low) refl) simple (tick_of at)

-- a change that a text names

link_of : (at : ℕ) (up : Bool) → event_of (event_data (record { at = at; what = what.Link up })) ≡ Ok (record { at = at; what = what.Link up })
unfolding value_as event_fields_in what_fields with_key required given natural named link_named text
link_of at true = refl
link_of at false = refl

link_reads : (at : ℕ) (up : Bool) → at < 2 ^ 64 → event_line (event_json (record { at = at; what = what.Link up })) ≡ Ok (record { at = at; what = what.Link up })
link_reads at true low =
    let e : Event = record { at = at; what = what.Link true } in
    let simple : IsSimple IsUtf8 (event_data e) = (IsUtf8-are_ascii (codes "at") refl, (low, (IsUtf8-are_ascii (codes "link") refl, (IsUtf8-are_ascii (codes "open") refl, tt)))) in
    reads_by e (event_data e) simple (omega arith) (rw (number_of-decimal at low) refl) simple (link_of at true)
link_reads at false low =
    let e : Event = record { at = at; what = what.Link false } in
    let simple : IsSimple IsUtf8 (event_data e) = (IsUtf8-are_ascii (codes "at") refl, (low, (IsUtf8-are_ascii (codes "link") refl, (IsUtf8-are_ascii (codes "closed") refl, tt)))) in
    reads_by e (event_data e) simple (omega arith) (rw (number_of-decimal at low) refl) simple (link_of at false)

connection_of : (at : ℕ) (state : State) → event_of (event_data (record { at = at; what = what.Connection state })) ≡ Ok (record { at = at; what = what.Connection state })
unfolding value_as event_fields_in what_fields with_key required given natural named connection_named text
connection_of at Connected = refl
connection_of at Disconnected = refl
connection_of at Pending = refl

connection_reads : (at : ℕ) (state : State) → at < 2 ^ 64 → event_line (event_json (record { at = at; what = what.Connection state })) ≡ Ok (record { at = at; what = what.Connection state })
connection_reads at Connected low =
    let e : Event = record { at = at; what = what.Connection Connected } in
    let simple : IsSimple IsUtf8 (event_data e) = (IsUtf8-are_ascii (codes "at") refl, (low, (IsUtf8-are_ascii (codes "connection") refl, (IsUtf8-are_ascii (codes "connected") refl, tt)))) in
    reads_by e (event_data e) simple (omega arith) (rw (number_of-decimal at low) refl) simple (connection_of at Connected)
connection_reads at Disconnected low =
    let e : Event = record { at = at; what = what.Connection Disconnected } in
    let simple : IsSimple IsUtf8 (event_data e) = (IsUtf8-are_ascii (codes "at") refl, (low, (IsUtf8-are_ascii (codes "connection") refl, (IsUtf8-are_ascii (codes "disconnected") refl, tt)))) in
    reads_by e (event_data e) simple (omega arith) (rw (number_of-decimal at low) refl) simple (connection_of at Disconnected)
connection_reads at Pending low =
    let e : Event = record { at = at; what = what.Connection Pending } in
    let simple : IsSimple IsUtf8 (event_data e) = (IsUtf8-are_ascii (codes "at") refl, (low, (IsUtf8-are_ascii (codes "connection") refl, (IsUtf8-are_ascii (codes "pending") refl, tt)))) in
    reads_by e (event_data e) simple (omega arith) (rw (number_of-decimal at low) refl) simple (connection_of at Pending)

watcher_of : (at : ℕ) → event_of (event_data (record { at = at; what = what.WatcherEnded })) ≡ Ok (record { at = at; what = what.WatcherEnded })
unfolding value_as event_fields_in what_fields with_key required given natural named watcher_named text
watcher_of at = refl

watcher_reads : (at : ℕ) → at < 2 ^ 64 → event_line (event_json (record { at = at; what = what.WatcherEnded })) ≡ Ok (record { at = at; what = what.WatcherEnded })
watcher_reads at low =
    let e : Event = record { at = at; what = what.WatcherEnded } in
    let simple : IsSimple IsUtf8 (event_data e) = (IsUtf8-are_ascii (codes "at") refl, (low, (IsUtf8-are_ascii (codes "watcher") refl, (IsUtf8-are_ascii (codes "ended") refl, tt)))) in
    reads_by e (event_data e) simple (omega arith) (rw (number_of-decimal at low) refl) simple (watcher_of at)

-- a replier that is gone

abbrev gone_read : ℕ → ℕ → Data
gone_read at request =
    object (member (codes "answer") (object (member (codes "gone") (boolean true) (member (codes "request") (count request) no_members))) (member (codes "at") (count at) no_members))

gone_of : (at request : ℕ) → event_of (gone_read at request) ≡ Ok (record { at = at; what = what.Answer request None })
unfolding value_as event_fields_in what_fields with_key required given natural answer only gone_fields truth
gone_of at request = refl

gone_reads : (at request : ℕ) → at < 2 ^ 64 → request < 2 ^ 64 → event_line (event_json (record { at = at; what = what.Answer request None })) ≡ Ok (record { at = at; what = what.Answer request None })
gone_reads at request low fits =
    let one = IsUtf8-are_ascii (codes "at") refl in
    let two = IsUtf8-are_ascii (codes "answer") refl in
    let three = IsUtf8-are_ascii (codes "request") refl in
    let four = IsUtf8-are_ascii (codes "gone") refl in
    reads_by (record { at = at; what = what.Answer request None }) (gone_read at request)
    (one, (low, (two, ((three, (fits, (four, (tt, tt)))), tt))))
    (omega arith)
    (rw (number_of-decimal at low, number_of-decimal request fits) refl)
    (two, ((four, (tt, (three, (fits, tt)))), (one, (low, tt))))
    (gone_of at request)

-- a message that arrives

-- what is read of an event whose key comes before `at`
abbrev first_key : List ℕ → ℕ → Members → Data
first_key k at inner = object (member k (object inner) (member (codes "at") (count at) no_members))

within : (n : ℕ) → n ≤ 3 → suc (max 0 (max n 0)) ≤ 127
within n flat = omega arith

arrival_of : (form : Lines) (at inbox : ℕ) (inner : Members) (m : Message) → arrival form key.Arrival (object inner) ≡ Ok (what.Arrival inbox m)
    → event_of_in form (first_key (codes "arrival") at inner) ≡ Ok (record { at = at; what = what.Arrival inbox m })
unfolding value_as event_fields_in what_fields with_key required given natural
arrival_of form at inbox inner m read = rw read refl

-- an event whose key has rows
abbrev pub keyed : List ℕ → ℕ → Data → Data
keyed k at d = object (member (codes "at") (count at) (member k d no_members))

pub arrival_reads : (form : Lines) (at inbox : ℕ) (rows : List Row) (text : List ℕ) (m : Message) → at < 2 ^ 64 → inbox < 2 ^ 64 → AreRead rows
    → text ≡ compact_text (keyed (codes "arrival") at (numbered_rows (codes "inbox") inbox rows))
    → arrival form key.Arrival (object (rows_held (codes "inbox") inbox rows)) ≡ Ok (what.Arrival inbox m)
    → event_line_in form text ≡ Ok (record { at = at; what = what.Arrival inbox m })
arrival_reads form at inbox rows text m low fits are is read =
    let one = IsUtf8-are_ascii (codes "at") refl in
    let two = IsUtf8-are_ascii (codes "arrival") refl in
    let three = IsUtf8-are_ascii (codes "inbox") refl in
    reads_in form (record { at = at; what = what.Arrival inbox m }) text (keyed (codes "arrival") at (numbered_rows (codes "inbox") inbox rows))
    (first_key (codes "arrival") at (rows_held (codes "inbox") inbox rows))
    is
    (one, (low, (two, (rows_simple (codes "inbox") inbox rows three fits are, tt))))
    (within (depth (outline (numbered_rows (codes "inbox") inbox rows))) (behind_shallow (codes "inbox") inbox rows are))
    (rw (number_of-decimal at low, rows_outlined (codes "inbox") inbox rows fits are) refl)
    (two, (rows_held_simple (codes "inbox") inbox rows three fits are, (one, (low, tt))))
    (arrival_of form at inbox (rows_held (codes "inbox") inbox rows) m read)

reply_of : (form : Lines) (at request : ℕ) (inner : Members) (m : Message) → answer form key.Answer (object inner) ≡ Ok (what.Answer request (Some m))
    → event_of_in form (first_key (codes "answer") at inner) ≡ Ok (record { at = at; what = what.Answer request (Some m) })
unfolding value_as event_fields_in what_fields with_key required given natural
reply_of form at request inner m read = rw read refl

pub reply_reads : (form : Lines) (at request : ℕ) (rows : List Row) (text : List ℕ) (m : Message) → at < 2 ^ 64 → request < 2 ^ 64 → AreRead rows
    → text ≡ compact_text (keyed (codes "answer") at (numbered_rows (codes "request") request rows))
    → answer form key.Answer (object (rows_held (codes "request") request rows)) ≡ Ok (what.Answer request (Some m))
    → event_line_in form text ≡ Ok (record { at = at; what = what.Answer request (Some m) })
reply_reads form at request rows text m low fits are is read =
    let one = IsUtf8-are_ascii (codes "at") refl in
    let two = IsUtf8-are_ascii (codes "answer") refl in
    let three = IsUtf8-are_ascii (codes "request") refl in
    reads_in form (record { at = at; what = what.Answer request (Some m) }) text (keyed (codes "answer") at (numbered_rows (codes "request") request rows))
    (first_key (codes "answer") at (rows_held (codes "request") request rows))
    is
    (one, (low, (two, (rows_simple (codes "request") request rows three fits are, tt))))
    (within (depth (outline (numbered_rows (codes "request") request rows))) (behind_shallow (codes "request") request rows are))
    (rw (number_of-decimal at low, rows_outlined (codes "request") request rows fits are) refl)
    (two, (rows_held_simple (codes "request") request rows three fits are, (one, (low, tt))))
    (reply_of form at request (rows_held (codes "request") request rows) m read)

-- ---- each recordable event

kind_reads : (at : ℕ) (kind : EventKind) → at < 2 ^ 64 → IsTypedKind kind → is_recordable_kind kind ≡ true
    → event_line (event_json (record { at = at; what = kind })) ≡ Ok (record { at = at; what = kind })
kind_reads at what.Tick low typed is = tick_reads at low
kind_reads at (what.Arrival inbox m) low typed is =
    let parts = and_parts (is_utf8 m.payload) (m.length == length m.payload) is in
    arrival_reads Plain at inbox (message_rows m) (event_json (record { at = at; what = what.Arrival inbox m })) m low typed.0 (message_reads m typed.1 (ascii m.payload parts.0))
    (json_is (record { at = at; what = what.Arrival inbox m }))
    (arrival_read inbox m typed.1 (eqb-true m.length (length m.payload) parts.1))
kind_reads at (what.Answer request (Some m)) low typed is =
    let parts = and_parts (is_utf8 m.payload) (m.length == length m.payload) is in
    reply_reads Plain at request (message_rows m) (event_json (record { at = at; what = what.Answer request (Some m) })) m low typed.0 (message_reads m typed.1 (ascii m.payload parts.0))
    (json_is (record { at = at; what = what.Answer request (Some m) }))
    (reply_read request m typed.1 (eqb-true m.length (length m.payload) parts.1))
kind_reads at (what.Answer request None) low typed is = gone_reads at request low typed
kind_reads at (what.Link up) low typed is = link_reads at up low
kind_reads at (what.Connection state) low typed is = connection_reads at state low
kind_reads at what.WatcherEnded low typed is = watcher_reads at low

pub event_reads : (e : Event) → e.at < 2 ^ 64 → IsTypedKind e.what → is_recordable e ≡ true → event_line (event_json e) ≡ Ok e
event_reads e low typed is = kind_reads e.at e.what low typed is
