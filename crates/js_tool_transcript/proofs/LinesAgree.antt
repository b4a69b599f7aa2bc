-- What reads as a line of a transcript reads the same among extended lines.
use Rattle.std.proofs.Common.{◌≡◌, ℕ, Bool, true, false, ◌||◌, ◌&&◌, List, [], ◌∷◌, codes, Option, Some, None, Result, Ok, Err, IfOk, refl, sym, subst}
use Rattle.std.specs.Prelude.{is_some, unwrap_or, if◌then◌else◌}
use Rattle.std.proofs.lemmas.Bool.{and_parts, or_left}
use Rattle.serde_json.specs.Data.{Data, null, boolean, number, string, array, object, Members, no_members, member}
use Rattle.serde_json.specs.Find.{get}
use Rattle.js_base.specs.declared.message.Message.{Message}
use Rattle.js_json_members.specs.declared.key.Key.{Key}
use Rattle.js_json_members.specs.declared.key.Key.TheVariants as key
use Rattle.js_json_members.specs.Key.{key_name}
use Rattle.js_json_members.specs.declared.error.ReadError.{ReadError}
use Rattle.js_json_members.specs.declared.error.ReadError.TheVariants.{WrongKind, NotJson}
use Rattle.js_json_members.specs.Member.{◌>>=◌, Reads, if_present, required, given, natural, named}
use Rattle.js_json_members.specs.Value.{is_among, members_only, has_only, value_of}
use Rattle.js_ordered_table.specs.declared.event.Event.{Event}
use Rattle.js_ordered_table.specs.declared.event.EventKind.{EventKind}
use Rattle.js_ordered_table.specs.declared.event.EventKind.TheVariants as what
use Rattle.js_tool_transcript.specs.declared.transcript.lines.Lines.{Lines}
use Rattle.js_tool_transcript.specs.declared.transcript.lines.Lines.TheVariants.{Plain, Extended}
use Rattle.js_tool_transcript.specs.declared.transcript.extended_name.ExtendedName.TheVariants as names
use Rattle.js_tool_transcript.specs.declared.transcript.setup.Setup.{Setup}
use Rattle.js_tool_transcript.specs.ExtendedSetup.{resilience, extended_setup_fields, extended_setup_of, extended_setup_line, setup_line_in}
use Rattle.js_tool_transcript.specs.Setup.{setup_keys, setup_fields, setup_of, setup_line}
use Rattle.js_tool_transcript.specs.Members.{only, value_as, line_as}
use Rattle.js_tool_transcript.specs.Message.{message_keys, message_fields}
use Rattle.js_tool_transcript.specs.ExtendedMessage.{bytes_of, message_names, only_in, payload_base64, extended_fields}
use Rattle.js_tool_transcript.specs.ExtendedName.{is_named, members_with, has_only_with, under}
use Rattle.js_tool_transcript.specs.declared.transcript.extended_name.ExtendedName.{ExtendedName}
use Rattle.js_tool_transcript.specs.Event.{arrival_fields, arrival, reply_fields, gone_fields, answer, link_named, connection_named, watcher_named, alone, with_key, what_fields, event_keys, event_fields_in, event_of_in, event_line, event_line_in, extended_line}
use Rattle.js_tool_transcript.proofs.OtherKeys.{get_other}

-- ---- what agrees

-- what the one reads the other reads too
abbrev Agree : {A : Type 0} → Result A ReadError → Result A ReadError → Type 0
Agree plain extended = IfOk plain (λ x. extended ≡ Ok x)

itself : {A : Type 0} (r : Result A ReadError) → Agree r r
itself (Ok x) = refl
itself (Err e) = tt

then_agree : {A B : Type 0} (r s : Result A ReadError) (f g : A → Result B ReadError) → Agree r s → ((x : A) → Agree (f x) (g x)) → Agree (r >>= f) (s >>= g)
then_agree {A} {B} (Ok x) s f g same next = subst (λ (t : Result A ReadError). Agree {A = B} (f x) (t >>= g)) (sym same) (next x)
then_agree (Err e) s f g same next = tt

-- ---- a message

pub absent : {A : Type 0} (name : List ℕ) (k : Key) (reads : Reads A) (d : Data) → get name d ≡ None → under name k reads d ≡ Ok None
unfolding under
absent name k reads d none = rw none refl

as_it_is : {A : Type 0} (r : Result A ReadError) → Agree r (r >>= λ x. Ok x)
as_it_is (Ok x) = refl
as_it_is (Err e) = tt

message_agrees : (d : Data) → get (codes "payload_base64") d ≡ None → get (codes "length") d ≡ None → Agree (message_fields d) (extended_fields d)
unfolding extended_fields payload_base64
message_agrees d one two = rw (absent (codes "payload_base64") key.Payload (named bytes_of) d one, absent (codes "length") key.Payload natural d two) (as_it_is (message_fields d))

-- ---- an object

both_hold : (a b : Bool) → a ≡ true → b ≡ true → (a && b) ≡ true
both_hold a b p q = rw (p, q) refl

members_agree : (keys : List Key) (names : List ExtendedName) (ms : Members) → members_only keys ms ≡ true → members_with keys names ms ≡ true
members_agree keys names no_members only = refl
members_agree keys names (member name d ms) only =
    let parts = and_parts (is_among keys name) (members_only keys ms) only in
    both_hold (is_among keys name || is_named names name) (members_with keys names ms) (or_left (is_among keys name) (is_named names name) parts.0) (members_agree keys names ms parts.1)

pub keys_agree : (keys : List Key) (names : List ExtendedName) (d : Data) → has_only keys d ≡ true → has_only_with keys names d ≡ true
keys_agree keys names null only = only
keys_agree keys names (boolean b) only = only
keys_agree keys names (number n) only = only
keys_agree keys names (string s) only = only
keys_agree keys names (array ds) only = only
keys_agree keys names (object ms) only = members_agree keys names ms only

only_agrees : {A : Type 0} (keys : List Key) (f g : Data → Result A ReadError) (k : Key) (d : Data) → (has_only keys d ≡ true → Agree (f d) (g d)) → Agree (only_in Plain keys f k d) (only_in Extended keys g k d)
unfolding only_in
only_agrees {A} keys f g k d same = by_test (has_only keys d) refl
  where
    by_test : (b : Bool) → has_only keys d ≡ b → Agree {A = A} (if b then f d else Err (WrongKind k)) (if has_only_with keys message_names d then g d else Err (WrongKind k))
    by_test true only =
        subst (λ (b : Bool). Agree {A = A} (f d) (if b then g d else Err (WrongKind k))) (sym (keys_agree keys message_names d only)) (same only)
    by_test false other = tt

-- ---- what happens

arrival_fields_agree : (d : Data) → has_only (key.Inbox ∷ message_keys) d ≡ true → Agree (arrival_fields Plain d) (arrival_fields Extended d)
unfolding arrival_fields
arrival_fields_agree d only =
    then_agree (required natural key.Inbox d) (required natural key.Inbox d) _ _ (itself (required natural key.Inbox d)) (λ inbox.
    then_agree (message_fields d) (extended_fields d) _ _
    (message_agrees d (get_other (key.Inbox ∷ message_keys) (codes "payload_base64") d only refl) (get_other (key.Inbox ∷ message_keys) (codes "length") d only refl)) (λ message. refl))

arrival_agrees : (k : Key) (d : Data) → Agree (arrival Plain k d) (arrival Extended k d)
arrival_agrees k d = only_agrees (key.Inbox ∷ message_keys) (arrival_fields Plain) (arrival_fields Extended) k d (arrival_fields_agree d)

reply_fields_agree : (d : Data) → has_only (key.Request ∷ message_keys) d ≡ true → Agree (reply_fields Plain d) (reply_fields Extended d)
unfolding reply_fields
reply_fields_agree d only =
    then_agree (required natural key.Request d) (required natural key.Request d) _ _ (itself (required natural key.Request d)) (λ request.
    then_agree (message_fields d) (extended_fields d) _ _
    (message_agrees d (get_other (key.Request ∷ message_keys) (codes "payload_base64") d only refl) (get_other (key.Request ∷ message_keys) (codes "length") d only refl)) (λ message. refl))

either_agrees : {A : Type 0} (b : Bool) (r s t : Result A ReadError) → Agree s t → Agree (if b then r else s) (if b then r else t)
either_agrees true r s t same = itself r
either_agrees false r s t same = same

answer_agrees : (k : Key) (d : Data) → Agree (answer Plain k d) (answer Extended k d)
unfolding answer
answer_agrees k d =
    either_agrees (is_some (get (key_name key.Gone) d)) (only (key.Request ∷ key.Gone ∷ []) gone_fields k d)
    (only_in Plain (key.Request ∷ message_keys) (reply_fields Plain) k d) (only_in Extended (key.Request ∷ message_keys) (reply_fields Extended) k d)
    (only_agrees (key.Request ∷ message_keys) (reply_fields Plain) (reply_fields Extended) k d (reply_fields_agree d))

given_agrees : {A : Type 0} (r s : Reads A) (k : Key) (d : Data) → ((k : Key) (d : Data) → Agree (r k d) (s k d)) → Agree (given r k d) (given s k d)
unfolding given
given_agrees {A} r s k d same = by_member (get (key_name k) d)
  where
    by_member : (o : Option Data) → Agree {A = Option A} (if_present (Ok None) (λ x. r k x >>= λ x. Ok (Some x)) o) (if_present (Ok None) (λ x. s k x >>= λ x. Ok (Some x)) o)
    by_member None = refl
    by_member (Some d) = then_agree (r k d) (s k d) (λ x. Ok (Some x)) (λ x. Ok (Some x)) (same k d) (λ x. refl)

with_key_agrees : (r s : Reads EventKind) (k : Key) (found : Option EventKind) (d : Data) → ((k : Key) (d : Data) → Agree (r k d) (s k d)) → Agree (with_key r k found d) (with_key s k found d)
unfolding with_key
with_key_agrees r s k found d same = then_agree (given r k d) (given s k d) (alone k found) (alone k found) (given_agrees r s k d same) (λ next. itself (alone k found next))

what_agrees : (d : Data) → Agree (what_fields Plain d) (what_fields Extended d)
unfolding what_fields
what_agrees d =
    then_agree (with_key (arrival Plain) key.Arrival None d) (with_key (arrival Extended) key.Arrival None d) _ _ (with_key_agrees (arrival Plain) (arrival Extended) key.Arrival None d arrival_agrees) (λ one.
    then_agree (with_key (answer Plain) key.Answer one d) (with_key (answer Extended) key.Answer one d) _ _ (with_key_agrees (answer Plain) (answer Extended) key.Answer one d answer_agrees) (λ two.
    itself (with_key (named link_named) key.Link two d >>= λ three. with_key (named connection_named) key.Connection three d >>= λ four.
    with_key (named watcher_named) key.Watcher four d >>= λ five. Ok (unwrap_or five what.Tick))))

-- ---- a line

event_agrees : (d : Data) → Agree (event_fields_in Plain d) (event_fields_in Extended d)
unfolding event_fields_in
event_agrees d =
    then_agree (required natural key.At d) (required natural key.At d) _ _ (itself (required natural key.At d)) (λ at.
    then_agree (what_fields Plain d) (what_fields Extended d) _ _ (what_agrees d) (λ what. refl))

value_agrees : (d : Data) → Agree (event_of_in Plain d) (event_of_in Extended d)
unfolding value_as
value_agrees d = by_test (has_only event_keys d)
  where
    by_test : (b : Bool) → Agree {A = Event} (if b then event_fields_in Plain d else Err NotJson) (if b then event_fields_in Extended d else Err NotJson)
    by_test true = event_agrees d
    by_test false = tt

line_agrees : (line : List ℕ) → Agree (event_line line) (extended_line line)
unfolding line_as
line_agrees line = then_agree (value_of line) (value_of line) (event_of_in Plain) (event_of_in Extended) (itself (value_of line)) value_agrees

-- what a line of a transcript says it says in both forms
pub reads_alike : (form : Lines) (line : List ℕ) (e : Event) → event_line line ≡ Ok e → event_line_in form line ≡ Ok e
reads_alike Plain line e is = is
reads_alike Extended line e is = subst (λ (r : Result Event ReadError). Agree r (extended_line line)) is (line_agrees line)

-- ---- a first line

setup_fields_agree : (d : Data) → get (codes "resilience") d ≡ None → Agree (setup_fields d) (extended_setup_fields d)
unfolding extended_setup_fields
setup_fields_agree d none = rw (absent (codes "resilience") key.Settings resilience d none) (as_it_is (setup_fields d))

setup_agrees : (d : Data) → Agree (setup_of d) (extended_setup_of d)
unfolding value_as
setup_agrees d = by_test (has_only setup_keys d) refl
  where
    by_test : (b : Bool) → has_only setup_keys d ≡ b
        → Agree {A = Setup} (if b then setup_fields d else Err NotJson) (if has_only_with setup_keys (names.Resilience ∷ []) d then extended_setup_fields d else Err NotJson)
    by_test true only =
        subst (λ (b : Bool). Agree {A = Setup} (setup_fields d) (if b then extended_setup_fields d else Err NotJson)) (sym (keys_agree setup_keys (names.Resilience ∷ []) d only))
        (setup_fields_agree d (get_other setup_keys (codes "resilience") d only refl))
    by_test false other = tt

setup_line_agrees : (line : List ℕ) → Agree (setup_line line) (extended_setup_line line)
unfolding line_as
setup_line_agrees line = then_agree (value_of line) (value_of line) setup_of extended_setup_of (itself (value_of line)) setup_agrees

-- what the first line of a transcript says it says in both forms
pub setup_alike : (form : Lines) (line : List ℕ) (s : Setup) → setup_line line ≡ Ok s → setup_line_in form line ≡ Ok s
setup_alike Plain line s is = is
setup_alike Extended line s is = subst (λ (r : Result Setup ReadError). Agree r (extended_setup_line line)) is (setup_line_agrees line)
