-- The texts of a transcript are UTF-8, as the lines are that they are read from.
use Rattle.std.proofs.Common.{◌≡◌, ℕ, ◌+◌, Bool, true, false, List, [], ◌∷◌, Option, Some, None, Result, Ok, Err, IfOk, codes, refl, subst}
use Rattle.std.specs.Prelude.{IfSome, is_some, unwrap_or, if◌then◌else◌}
use Rattle.std.specs.List.{AllByRecursion}
use Rattle.std.specs.Str.{IsUtf8, bytes_eq}
use Rattle.std.proofs.lemmas.Str.{IsUtf8-nil}
use Rattle.serde_json.specs.Data.{Data, null, boolean, number, string, array, object}
use Rattle.serde_json.specs.Find.{get}
use Rattle.serde_json.specs.Written.{compact_text, has_float}
use Rattle.js_base.specs.declared.message.Message.{Message}
use Rattle.js_base.specs.declared.message.State.TheVariants.{Connected, Disconnected, Pending}
use Rattle.js_json_members.specs.declared.key.Key.{Key}
use Rattle.js_json_members.specs.declared.key.Key.TheVariants as key
use Rattle.js_json_members.specs.Key.{key_name}
use Rattle.js_json_members.specs.declared.error.ReadError.{ReadError}
use Rattle.js_json_members.specs.declared.error.ReadError.TheVariants.{Float, NotJson, WrongKind, OutOfRange}
use Rattle.js_json_members.specs.Member.{required, optional, defaulted, given as given_member, nested, named, text, truth, natural, natural_of, list_of}
use Rattle.js_json_members.specs.Value.{has_only, value_of}
use Rattle.js_json.specs.declared.consumer.config.Config.{Config}
use Rattle.js_json.specs.declared.push.OrderedConfig.{OrderedConfig}
use Rattle.js_json.specs.ConsumerConfig.{config_fields}
use Rattle.js_json.specs.ConsumerInfo.{info_fields}
use Rattle.js_json.specs.Conversion.{where_delivered}
use Rattle.js_tool_io.specs.Lines.{lines_of}
use Rattle.js_ordered_table.specs.declared.event.Event.{Event}
use Rattle.js_ordered_table.specs.declared.event.EventKind.{EventKind}
use Rattle.js_ordered_table.specs.declared.event.EventKind.TheVariants as what
use Rattle.js_ordered_table.specs.declared.setup.OrderedSetup.{OrderedSetup}
use Rattle.js_ordered_table.specs.declared.setup.OrderedSetup.TheVariants as setup
use Rattle.js_ordered_table.specs.Fold.{fold}
use Rattle.js_ordered_table.specs.Gapless.{Entry, yields, all_outputs}
use Rattle.js_ordered_table.specs.Texts.{config_of}
use Rattle.js_ordered_table.proofs.Rewritten.{if_both}
use Rattle.js_tool_transcript.specs.declared.transcript.setup.Setup.{Setup}
use Rattle.js_tool_transcript.specs.declared.transcript.Transcript.{Transcript}
use Rattle.js_tool_transcript.specs.Event.{arrival, arrival_fields, reply_fields, gone_fields, answer, link_named, connection_named, watcher_named, alone, with_key, what_fields, event_keys, event_fields, event_fields_in, event_line}
use Rattle.js_tool_transcript.specs.ExtendedMessage.{has_only_in, only_in}
use Rattle.js_tool_transcript.specs.declared.transcript.lines.Lines.{Lines}
use Rattle.js_tool_transcript.specs.declared.transcript.lines.Lines.TheVariants.{Plain}
use Rattle.js_tool_transcript.specs.Members.{only, value_as, line_as}
use Rattle.js_tool_transcript.specs.Message.{message_keys, json_text, payload, header, message_fields}
use Rattle.js_tool_transcript.specs.TranscriptReplay.{replay_input}
use Rattle.js_tool_transcript.specs.Setup.{mode_named, settings, ordered_setup, of_mode, setup_keys, setup_with, setup_fields, setup_line}
use Rattle.js_tool_transcript.specs.Transcript.{◌>>=◌, numbered, events_from, with_lines, transcript_of, transcript}
use Rattle.js_tool_transcript.proofs.ValuesRead.{IsTextValue, text_utf8}
use Rattle.js_tool_transcript.proofs.MembersRead.{Gives, then_is, then_any, required_is, defaulted_is, optional_is, given_is, text_is, nested_is, row_is, named_is, value_is}
use Rattle.js_tool_transcript.proofs.FiltersRead.{HasTextFilters, config_is}
use Rattle.js_tool_transcript.proofs.MessagesYielded.{Brings, yields_are}

-- ---- a message

-- its subject and its payload are UTF-8
abbrev pub IsTextMessage : List ℕ → List ℕ → Type 0
IsTextMessage subject payload = IsUtf8 subject × IsUtf8 payload

abbrev HasTexts : Message → Type 0
HasTexts m = IsTextMessage m.subject m.payload

json_is : (d : Data) → IsTextValue d → IfOk (json_text d) IsUtf8
json_is d is = by_test (has_float d) refl
  where
    by_test : (b : Bool) → has_float d ≡ b → IfOk (if b then Err Float else Ok (compact_text d)) IsUtf8
    by_test true some = tt
    by_test false none = text_utf8 d none is

pub payload_is : (k : Key) → Gives IsUtf8 (payload k)
payload_is k null is = IsUtf8-nil
payload_is k (boolean b) is = tt
payload_is k (number n) is = tt
payload_is k (string s) is = is
payload_is k (array ds) is = json_is (array ds) is
payload_is k (object ms) is = json_is (object ms) is

or_empty : (o : Option (List ℕ)) → IfSome o IsUtf8 → IsUtf8 (unwrap_or o [])
or_empty None is = IsUtf8-nil
or_empty (Some some) is = is

message_is : Gives HasTexts message_fields
unfolding message_fields
message_is d is =
    then_is (λ o. IfSome o IsUtf8) HasTexts (optional text key.Subject d) _ (optional_is IsUtf8 text key.Subject (text_is key.Subject) d is) (λ subject one.
    then_any HasTexts (optional text key.Reply d) _ (λ reply.
    then_is IsUtf8 HasTexts (defaulted payload key.Payload [] d) _ (defaulted_is IsUtf8 payload key.Payload [] IsUtf8-nil (payload_is key.Payload) d is) (λ payload other.
    then_any HasTexts (optional (natural_of 16) key.Status d) _ (λ status.
    then_any HasTexts (optional text key.Description d) _ (λ description.
    then_any HasTexts (optional (list_of header) key.Headers d) _ (λ headers. (or_empty subject one, other)))))))

-- ---- an event

-- a message that arrives is so
abbrev BringsTexts : EventKind → Type 0
BringsTexts kind = Brings IsTextMessage kind

pub only_is : {A : Type 0} (P : A → Type 0) (keys : List Key) (fields : Data → Result A ReadError) (k : Key) → Gives P fields → Gives P (only keys fields k)
unfolding only
only_is {A = A} P keys fields k gives d is = by_test (has_only keys d)
  where
    by_test : (b : Bool) → IfOk {T = A} (if b then fields d else Err (WrongKind k)) P
    by_test true = gives d is
    by_test false = tt

pub only_in_is : {A : Type 0} (P : A → Type 0) (form : Lines) (keys : List Key) (fields : Data → Result A ReadError) (k : Key) → Gives P fields → Gives P (only_in form keys fields k)
unfolding only_in
only_in_is {A = A} P form keys fields k gives d is = by_test (has_only_in form keys d)
  where
    by_test : (b : Bool) → IfOk {T = A} (if b then fields d else Err (WrongKind k)) P
    by_test true = gives d is
    by_test false = tt

arrival_fields_are : Gives BringsTexts (arrival_fields Plain)
unfolding arrival_fields
arrival_fields_are d is =
    then_any BringsTexts (required natural key.Inbox d) _ (λ inbox.
    then_is HasTexts BringsTexts (message_fields d) _ (message_is d is) (λ message are. are))

arrival_is : (k : Key) → Gives BringsTexts (arrival Plain k)
arrival_is k = only_in_is BringsTexts Plain (key.Inbox ∷ message_keys) (arrival_fields Plain) k arrival_fields_are

reply_is : Gives BringsTexts (reply_fields Plain)
unfolding reply_fields
reply_is d is = then_any BringsTexts (required natural key.Request d) _ (λ request. then_any BringsTexts (message_fields d) _ (λ message. tt))

gone_is : Gives BringsTexts gone_fields
unfolding gone_fields
gone_is d is =
    then_any BringsTexts (required natural key.Request d) _ (λ request.
    then_any BringsTexts (required truth key.Gone d) _ (λ gone. if_both (λ r. IfOk r BringsTexts) gone (Ok (what.Answer request None)) (Err (OutOfRange key.Gone)) tt tt))

answer_is : (k : Key) → Gives BringsTexts (answer Plain k)
unfolding answer
answer_is k d is =
    if_both (λ r. IfOk r BringsTexts) (is_some (get (key_name key.Gone) d)) (only (key.Request ∷ key.Gone ∷ []) gone_fields k d) (only_in Plain (key.Request ∷ message_keys) (reply_fields Plain) k d)
    (only_is BringsTexts (key.Request ∷ key.Gone ∷ []) gone_fields k gone_is d is) (only_in_is BringsTexts Plain (key.Request ∷ message_keys) (reply_fields Plain) k reply_is d is)

link_is : (k : Key) → Gives BringsTexts (named link_named k)
unfolding link_named
link_is k = named_is BringsTexts link_named k (λ name. row_is BringsTexts ((codes "open", what.Link true) ∷ (codes "closed", what.Link false) ∷ []) (tt, (tt, tt)) name)

connection_is : (k : Key) → Gives BringsTexts (named connection_named k)
unfolding connection_named
connection_is k = named_is BringsTexts connection_named k (λ name.
    row_is BringsTexts ((codes "connected", what.Connection Connected) ∷ (codes "disconnected", what.Connection Disconnected) ∷ (codes "pending", what.Connection Pending) ∷ [])
    (tt, (tt, (tt, tt))) name)

watcher_is : (k : Key) → Gives BringsTexts (named watcher_named k)
unfolding watcher_named
watcher_is k = named_is BringsTexts watcher_named k (λ name. row_is BringsTexts ((codes "ended", what.WatcherEnded) ∷ []) (tt, tt) name)

-- what was found so far
abbrev IsFound : Option EventKind → Type 0
IsFound o = IfSome o BringsTexts

alone_is : (k : Key) (found next : Option EventKind) → IsFound found → IsFound next → IfOk (alone k found next) IsFound
alone_is k None next is more = more
alone_is k (Some found) None is more = is
alone_is k (Some found) (Some next) is more = tt

with_key_is : (reads : Key → Data → Result EventKind ReadError) (k : Key) (found : Option EventKind) → ((k : Key) → Gives BringsTexts (reads k)) → IsFound found → Gives IsFound (with_key reads k found)
unfolding with_key
with_key_is reads k found gives so_far d is =
    then_is IsFound IsFound (given_member reads k d) (alone k found) (given_is BringsTexts reads k (gives k) d is) (λ next more. alone_is k found next so_far more)

or_tick : (o : Option EventKind) → IsFound o → BringsTexts (unwrap_or o what.Tick)
or_tick None is = tt
or_tick (Some found) is = is

what_is : Gives BringsTexts (what_fields Plain)
unfolding what_fields
what_is d is =
    then_is IsFound BringsTexts (with_key (arrival Plain) key.Arrival None d) _ (with_key_is (arrival Plain) key.Arrival None arrival_is tt d is) (λ one first.
    then_is IsFound BringsTexts (with_key (answer Plain) key.Answer one d) _ (with_key_is (answer Plain) key.Answer one answer_is first d is) (λ two second.
    then_is IsFound BringsTexts (with_key (named link_named) key.Link two d) _ (with_key_is (named link_named) key.Link two link_is second d is) (λ three third.
    then_is IsFound BringsTexts (with_key (named connection_named) key.Connection three d) _ (with_key_is (named connection_named) key.Connection three connection_is third d is) (λ four fourth.
    then_is IsFound BringsTexts (with_key (named watcher_named) key.Watcher four d) _ (with_key_is (named watcher_named) key.Watcher four watcher_is fourth d is) (λ five fifth.
    or_tick five fifth)))))

abbrev IsTextEvent : Event → Type 0
IsTextEvent e = BringsTexts e.what

event_is : Gives IsTextEvent event_fields
unfolding event_fields_in
event_is d is =
    then_any IsTextEvent (required natural key.At d) _ (λ at.
    then_is BringsTexts IsTextEvent (what_fields Plain d) _ (what_is d is) (λ what brings. brings))

-- ---- a setup

-- its filters are UTF-8
abbrev IsTextSetup : OrderedSetup → Type 0
IsTextSetup s = HasTextFilters (config_of s)

delivered_is : (subject : Option (List ℕ)) (push : List ℕ → OrderedConfig) → ((s : List ℕ) → IsTextSetup (setup.Push (push s))) → IfOk (of_mode setup.Push (where_delivered subject push)) IsTextSetup
delivered_is None push are = tt
delivered_is (Some subject) push are = are subject

-- a mode whose setups have a configuration's filters
abbrev SetsTexts : {A : Type 0} → (A → Config → Result OrderedSetup ReadError) → A → Type 0
SetsTexts ordered mode = (c : Config) → HasTextFilters c → IfOk (ordered mode c) IsTextSetup

mode_named_is : (name : List ℕ) → IfSome (mode_named name) (SetsTexts ordered_setup)
unfolding mode_named ordered_setup
mode_named_is name =
    if_both (λ o. IfSome o (SetsTexts ordered_setup)) (bytes_eq name (codes "pull")) _ _ (λ c are. are)
    (if_both (λ o. IfSome o (SetsTexts ordered_setup)) (bytes_eq name (codes "push")) _ _ (λ c are. delivered_is c.deliver_subject _ (λ subject. are)) tt)

mode_is : Gives (SetsTexts ordered_setup) (named mode_named key.Mode)
mode_is = named_is (SetsTexts ordered_setup) mode_named key.Mode mode_named_is

abbrev FiltersTexts : Setup → Type 0
FiltersTexts s = IsTextSetup s.setup

setup_is : Gives FiltersTexts setup_fields
unfolding setup_fields setup_with
setup_is d is =
    then_is (SetsTexts ordered_setup) FiltersTexts (required (named mode_named) key.Mode d) _ (required_is (SetsTexts ordered_setup) (named mode_named) key.Mode mode_is d is) (λ mode sets.
    then_any FiltersTexts (required natural key.Start d) _ (λ start.
    then_any FiltersTexts (required settings key.Settings d) _ (λ settings.
    then_is HasTextFilters FiltersTexts (required (nested config_fields) key.Config d) _
    (required_is HasTextFilters (nested config_fields) key.Config (nested_is HasTextFilters config_fields key.Config config_is) d is) (λ config filters.
    then_any FiltersTexts (required (nested info_fields) key.Info d) _ (λ first.
    then_is IsTextSetup FiltersTexts (ordered_setup mode config) _ (sets config filters) (λ setup are. are))))))

-- ---- lines

pub line_is : {A : Type 0} (P : A → Type 0) (keys : List Key) (fields : Data → Result A ReadError) → Gives P fields → (line : List ℕ) → IfOk (line_as keys fields line) P
unfolding line_as value_as
line_is {A = A} P keys fields gives line = then_is IsTextValue P (value_of line) _ (value_is line) (λ d is. by_test d is (has_only keys d))
  where
    by_test : (d : Data) → IsTextValue d → (b : Bool) → IfOk {T = A} (if b then fields d else Err NotJson) P
    by_test d is true = gives d is
    by_test d is false = tt

numbered_is : {A : Type 0} (P : A → Type 0) (n : ℕ) (r : Result A ReadError) → IfOk r P → IfOk (numbered n r) P
numbered_is P n (Ok x) is = is
numbered_is P n (Err e) is = tt

next_is : {A B : Type 0} (P : A → Type 0) (Q : B → Type 0) (r : Result A ℕ) (f : A → Result B ℕ) → IfOk r P → ((x : A) → P x → IfOk (f x) Q) → IfOk (r >>= f) Q
next_is P Q (Ok x) f is next = next x is
next_is P Q (Err n) f is next = tt

events_are : (lines : List (List ℕ)) (n : ℕ) → IfOk (events_from n lines) (AllByRecursion IsTextEvent)
events_are [] n = tt
events_are (line ∷ lines) n =
    let rest = events_are lines (n + 1) in
    next_is IsTextEvent (AllByRecursion IsTextEvent) (numbered n (event_line line)) (λ event. events_from (n + 1) lines >>= λ events. Ok (event ∷ events))
    (numbered_is IsTextEvent n (event_line line) (line_is IsTextEvent event_keys event_fields event_is line))
    (λ event first. next_is (AllByRecursion IsTextEvent) (AllByRecursion IsTextEvent) (events_from (n + 1) lines) (λ events. Ok (event ∷ events)) rest (λ events more. (first, more)))

-- a setup whose filters are UTF-8, and events that bring UTF-8
abbrev IsTextTranscript : Transcript → Type 0
IsTextTranscript t = IsTextSetup t.setup.setup × AllByRecursion IsTextEvent t.events

lines_are : (lines : List (List ℕ)) → IfOk (transcript_of lines) IsTextTranscript
lines_are [] = tt
lines_are (line ∷ lines) =
    next_is FiltersTexts IsTextTranscript (numbered 1 (setup_line line)) (λ setup. with_lines setup lines)
    (numbered_is FiltersTexts 1 (setup_line line) (line_is FiltersTexts setup_keys setup_fields setup_is line))
    (λ setup filters.
    next_is (AllByRecursion IsTextEvent) IsTextTranscript (events_from 2 lines) (λ events. Ok (record { setup = setup; events = events })) (events_are lines 2) (λ events are. (filters, are)))

-- what bytes are read as
transcript_is : (bytes : List ℕ) (t : Transcript) → transcript bytes ≡ Ok t → IsTextTranscript t
unfolding transcript
transcript_is bytes t is = subst (λ (r : Result Transcript ℕ). IfOk r IsTextTranscript) is (lines_are (lines_of bytes))

-- so the filters of its setup are UTF-8, and the subject and the payload of each yield of its run
pub texts_are : (bytes : List ℕ) (t : Transcript) → transcript bytes ≡ Ok t
    → HasTextFilters (config_of t.setup.setup)
    × AllByRecursion (λ (y : Entry). IsTextMessage y.subject y.payload) (yields (all_outputs (fold (replay_input t.setup) t.setup.start t.events)))
texts_are bytes t is =
    let are : IsTextTranscript t = transcript_is bytes t is in
    (are.0, yields_are IsTextMessage (replay_input t.setup) t.setup.start t.events are.1)
