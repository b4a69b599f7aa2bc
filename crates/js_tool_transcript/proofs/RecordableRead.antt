-- An event that a line says is recordable.
use Rattle.std.proofs.Common.{◌≡◌, ℕ, ◌==◌, ◌&&◌, true, false, List, [], ◌∷◌, Option, Some, None, Result, Ok, Err, IfOk, codes, refl, subst, arith}
use Rattle.std.specs.Prelude.{IfSome, is_some, unwrap_or, length}
use Rattle.std.specs.Str.{IsUtf8, is_utf8}
use Rattle.std.proofs.lemmas.Str.{IsUtf8-nil, is_utf8-from_IsUtf8}
use Rattle.serde_json.specs.Data.{Data}
use Rattle.serde_json.specs.Find.{get}
use Rattle.js_base.specs.declared.message.Message.{Message}
use Rattle.js_base.specs.declared.message.State.TheVariants.{Connected, Disconnected, Pending}
use Rattle.js_json_members.specs.declared.key.Key.{Key}
use Rattle.js_json_members.specs.declared.key.Key.TheVariants as key
use Rattle.js_json_members.specs.Key.{key_name}
use Rattle.js_json_members.specs.declared.error.ReadError.{ReadError}
use Rattle.js_json_members.specs.declared.error.ReadError.TheVariants.{OutOfRange}
use Rattle.js_json_members.specs.Member.{required, optional, defaulted, given as given_member, named, text, truth, natural, natural_of, list_of}
use Rattle.js_ordered_table.specs.declared.event.Event.{Event}
use Rattle.js_ordered_table.specs.declared.event.EventKind.{EventKind}
use Rattle.js_ordered_table.specs.declared.event.EventKind.TheVariants as what
use Rattle.js_ordered_table.proofs.Rewritten.{if_both}
use Rattle.js_tool_transcript.specs.Event.{arrival, arrival_fields, reply_fields, gone_fields, answer, link_named, connection_named, watcher_named, alone, with_key, what_fields, event_keys, event_fields, event_fields_in, event_line}
use Rattle.js_tool_transcript.specs.ExtendedMessage.{only_in}
use Rattle.js_tool_transcript.specs.declared.transcript.lines.Lines.TheVariants.{Plain}
use Rattle.js_tool_transcript.specs.EventText.{is_recordable_message, is_recordable_kind, is_recordable}
use Rattle.js_tool_transcript.specs.Members.{only}
use Rattle.js_tool_transcript.specs.Message.{message_keys, payload, header, message_fields}
use Rattle.js_tool_transcript.proofs.MembersRead.{Gives, then_is, then_any, defaulted_is, given_is, row_is, named_is}
use Rattle.js_tool_transcript.proofs.TranscriptsRead.{payload_is, only_is, only_in_is, line_is}

-- ---- a message

abbrev IsText : Message → Type 0
IsText m = is_recordable_message m ≡ true

itself : (n : ℕ) → (n == n) ≡ true
itself n = grind arith

sized : (s : List ℕ) → IsUtf8 s → (is_utf8 s && (length s == length s)) ≡ true
sized s utf8 = rw (is_utf8-from_IsUtf8 s utf8, itself (length s)) refl

message_is : Gives IsText message_fields
unfolding message_fields
message_is d is =
    then_any IsText (optional text key.Subject d) _ (λ subject.
    then_any IsText (optional text key.Reply d) _ (λ reply.
    then_is IsUtf8 IsText (defaulted payload key.Payload [] d) _ (defaulted_is IsUtf8 payload key.Payload [] IsUtf8-nil (payload_is key.Payload) d is) (λ payload utf8.
    then_any IsText (optional (natural_of 16) key.Status d) _ (λ status.
    then_any IsText (optional text key.Description d) _ (λ description.
    then_any IsText (optional (list_of header) key.Headers d) _ (λ headers. sized payload utf8))))))

-- ---- an event

abbrev Fits : EventKind → Type 0
Fits kind = is_recordable_kind kind ≡ true

arrival_fields_are : Gives Fits (arrival_fields Plain)
unfolding arrival_fields
arrival_fields_are d is = then_any Fits (required natural key.Inbox d) _ (λ inbox. then_is IsText Fits (message_fields d) _ (message_is d is) (λ message are. are))

arrival_is : (k : Key) → Gives Fits (arrival Plain k)
arrival_is k = only_in_is Fits Plain (key.Inbox ∷ message_keys) (arrival_fields Plain) k arrival_fields_are

reply_is : Gives Fits (reply_fields Plain)
unfolding reply_fields
reply_is d is = then_any Fits (required natural key.Request d) _ (λ request. then_is IsText Fits (message_fields d) _ (message_is d is) (λ message are. are))

gone_is : Gives Fits gone_fields
unfolding gone_fields
gone_is d is =
    then_any Fits (required natural key.Request d) _ (λ request.
    then_any Fits (required truth key.Gone d) _ (λ gone. if_both (λ r. IfOk r Fits) gone (Ok (what.Answer request None)) (Err (OutOfRange key.Gone)) refl tt))

answer_is : (k : Key) → Gives Fits (answer Plain k)
unfolding answer
answer_is k d is =
    if_both (λ r. IfOk r Fits) (is_some (get (key_name key.Gone) d)) (only (key.Request ∷ key.Gone ∷ []) gone_fields k d) (only_in Plain (key.Request ∷ message_keys) (reply_fields Plain) k d)
    (only_is Fits (key.Request ∷ key.Gone ∷ []) gone_fields k gone_is d is) (only_in_is Fits Plain (key.Request ∷ message_keys) (reply_fields Plain) k reply_is d is)

link_is : (k : Key) → Gives Fits (named link_named k)
unfolding link_named
link_is k = named_is Fits link_named k (λ name. row_is Fits ((codes "open", what.Link true) ∷ (codes "closed", what.Link false) ∷ []) (refl, (refl, tt)) name)

connection_is : (k : Key) → Gives Fits (named connection_named k)
unfolding connection_named
connection_is k = named_is Fits connection_named k (λ name.
    row_is Fits ((codes "connected", what.Connection Connected) ∷ (codes "disconnected", what.Connection Disconnected) ∷ (codes "pending", what.Connection Pending) ∷ [])
    (refl, (refl, (refl, tt))) name)

watcher_is : (k : Key) → Gives Fits (named watcher_named k)
unfolding watcher_named
watcher_is k = named_is Fits watcher_named k (λ name. row_is Fits ((codes "ended", what.WatcherEnded) ∷ []) (refl, tt) name)

-- what was found so far
abbrev IsFound : Option EventKind → Type 0
IsFound o = IfSome o Fits

alone_is : (k : Key) (found next : Option EventKind) → IsFound found → IsFound next → IfOk (alone k found next) IsFound
alone_is k None next is more = more
alone_is k (Some found) None is more = is
alone_is k (Some found) (Some next) is more = tt

with_key_is : (reads : Key → Data → Result EventKind ReadError) (k : Key) (found : Option EventKind) → ((k : Key) → Gives Fits (reads k)) → IsFound found → Gives IsFound (with_key reads k found)
unfolding with_key
with_key_is reads k found gives so_far d is =
    then_is IsFound IsFound (given_member reads k d) (alone k found) (given_is Fits reads k (gives k) d is) (λ next more. alone_is k found next so_far more)

or_tick : (o : Option EventKind) → IsFound o → Fits (unwrap_or o what.Tick)
or_tick None is = refl
or_tick (Some found) is = is

what_is : Gives Fits (what_fields Plain)
unfolding what_fields
what_is d is =
    then_is IsFound Fits (with_key (arrival Plain) key.Arrival None d) _ (with_key_is (arrival Plain) key.Arrival None arrival_is tt d is) (λ one first.
    then_is IsFound Fits (with_key (answer Plain) key.Answer one d) _ (with_key_is (answer Plain) key.Answer one answer_is first d is) (λ two second.
    then_is IsFound Fits (with_key (named link_named) key.Link two d) _ (with_key_is (named link_named) key.Link two link_is second d is) (λ three third.
    then_is IsFound Fits (with_key (named connection_named) key.Connection three d) _ (with_key_is (named connection_named) key.Connection three connection_is third d is) (λ four fourth.
    then_is IsFound Fits (with_key (named watcher_named) key.Watcher four d) _ (with_key_is (named watcher_named) key.Watcher four watcher_is fourth d is) (λ five fifth.
    or_tick five fifth)))))

abbrev IsRecordable : Event → Type 0
IsRecordable e = is_recordable e ≡ true

event_is : Gives IsRecordable event_fields
unfolding event_fields_in
event_is d is =
    then_any IsRecordable (required natural key.At d) _ (λ at.
    then_is Fits IsRecordable (what_fields Plain d) _ (what_is d is) (λ what fits. fits))

-- each event that is read is so; a reader that takes over a length of its own is refused by it
pub said_is_recordable : (e : Event) (line : List ℕ) → event_line line ≡ Ok e → is_recordable e ≡ true
said_is_recordable e line says = subst (λ (r : Result Event ReadError). IfOk r IsRecordable) says (line_is IsRecordable event_keys event_fields event_is line)
