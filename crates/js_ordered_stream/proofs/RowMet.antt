-- What a row meets at its link.
use Rattle.std.proofs.Common.{◌≡◌, ℕ, true, false, List, [], ◌∷◌, ◌++◌, map, Option, Some, None, refl, sym, ap}
use Rattle.std.specs.Prelude.{⊤, IfSome, is_some, option_map}
use Rattle.js_base.specs.declared.message.Message.{Message}
use Rattle.js_link.specs.LinkView.{LinkView}
use Rattle.js_link.specs.Meets.{Meets}
use Rattle.js_link.specs.Wish.{row_input, message_of, reply_of, IsClosing, GoesAs, is_shut, reply_met, watch_met}
use Rattle.js_link.specs.declared.wish.Wish.{Wish}
use Rattle.js_link.specs.declared.wish.Wish.TheVariants.{Nothing, OpensInbox, Watches, Publishes, Requests, Drops, Reads, Awaits}
use Rattle.js_link.specs.declared.wish.Met.{Met}
use Rattle.js_link.specs.declared.wish.Met.TheVariants.{Refused, Requested, Opened, Shut, Took, Got, Gone}
use Rattle.js_link.specs.declared.sent.Sent.{Sent}
use Rattle.js_link.specs.declared.sent.Sent.TheVariants as goes
use Rattle.js_ordered_table.specs.declared.transitions.task.Inbox.{Inbox}
use Rattle.js_ordered_table.specs.Tasks.{at_moment, opening_to, requested, requesting, subscribed}
use Rattle.js_link.specs.declared.link.Watch.{Watch}
use Rattle.js_link.specs.declared.link.Watch.TheVariants as watch
use Rattle.js_ordered_stream.specs.declared.rows.RowItem.{RowItem}
use Rattle.js_ordered_stream.specs.declared.rows.RowItem.TheVariants as hands
use Rattle.js_ordered_stream.specs.Rows.{IfError, answer_in, has_message, inbox_in, message_in, seen_met}
use Rattle.js_pull.specs.Rows.{brought}
use Rattle.js_pull.specs.Reader as pull
use Rattle.js_pull.specs.declared.reader.InfoRequest.{InfoRequest}
use Rattle.js_pull.specs.declared.reader.InfoRequest.TheVariants as info
use Rattle.js_pull.specs.declared.reader.Reader.{Reader}
use Rattle.js_pull.specs.declared.reader.Row.{Row as PullRow}
use Rattle.js_pull.specs.declared.reader.Row.TheVariants as read
use Rattle.js_ordered_table.specs.declared.consumer.Opened.{Opened as OpenedInbox}
use Rattle.js_ordered_table.specs.declared.consumer.Phase.{Phase}
use Rattle.js_ordered_table.specs.declared.consumer.Phase.TheVariants.{Pulls, Pushes, Recreates, Idle, Ended, Exhausted}
use Rattle.js_ordered_table.specs.declared.consumer.Stage.{Stage}
use Rattle.js_ordered_table.specs.declared.consumer.Stage.TheVariants.{Between, Deleting, Creating, Waiting}
use Rattle.js_ordered_table.specs.declared.run.Output.{Output}
use Rattle.js_ordered_table.specs.Recreation.{message_on}
use Rattle.js_ordered_table.specs.Consumer.{output_of}
use Rattle.js_ordered_table.specs.Walk.{handed}
use Rattle.js_ordered_table.specs.Wishes.{arrival_of, awaited, dropped, opened_dropped}
use Rattle.js_ordered_table.proofs.Walk.{arrives_here}

-- ---- no message is taken

-- no inbox is read
abbrev pub IsOther : Wish → Type 0
IsOther (Reads inbox) = ⊥
IsOther wish = ⊤

pub record IsUntaken (met : Met) : Type 0 where
  pub message : message_of met ≡ None
  pub is_open : is_shut met ≡ false

pub untaken : (wish : Wish) (met : Met) (v u : LinkView) → IsOther wish → Meets wish met v u → IsUntaken met
untaken (Reads inbox) met v u other m = absurd other
untaken Nothing (Took message) v u other m = absurd m
untaken Nothing Shut v u other m = absurd m
untaken Nothing met v u other m = record { message = refl; is_open = refl }
untaken OpensInbox (Took message) v u other m = absurd m
untaken OpensInbox Shut v u other m = absurd m
untaken OpensInbox met v u other m = record { message = refl; is_open = refl }
untaken Watches (Took message) v u other m = absurd m
untaken Watches Shut v u other m = absurd m
untaken Watches met v u other m = record { message = refl; is_open = refl }
untaken (Publishes subject reply payload) (Took message) v u other m = absurd m
untaken (Publishes subject reply payload) Shut v u other m = absurd m
untaken (Publishes subject reply payload) met v u other m = record { message = refl; is_open = refl }
untaken (Requests subject payload) (Took message) v u other m = absurd m
untaken (Requests subject payload) Shut v u other m = absurd m
untaken (Requests subject payload) met v u other m = record { message = refl; is_open = refl }
untaken (Drops inbox) (Took message) v u other m = absurd m
untaken (Drops inbox) Shut v u other m = absurd m
untaken (Drops inbox) met v u other m = record { message = refl; is_open = refl }
untaken (Awaits request) (Took message) v u other m = absurd m
untaken (Awaits request) Shut v u other m = absurd m
untaken (Awaits request) met v u other m = record { message = refl; is_open = refl }

pub opened_other : (opened : Option OpenedInbox) → IsOther (opened_dropped opened)
opened_other None = tt
opened_other (Some opened) = tt

pub dropped_other : (phase : Phase) → IsOther (dropped phase)
dropped_other (Pulls reader) = tt
dropped_other (Pushes inbox heartbeat_timer) = tt
dropped_other (Recreates r) = opened_other r.opened
dropped_other Idle = tt
dropped_other Ended = tt
dropped_other Exhausted = tt

pub awaited_other : (stage : Stage) → IsOther (awaited stage)
awaited_other Between = tt
awaited_other (Deleting request timeout) = tt
awaited_other (Creating request timeout) = tt
awaited_other (Waiting wait) = tt

-- ---- what was met, as what a row looked at

pub message_seen : (request : ℕ) (met : Met) → message_in (seen_met request met) ≡ message_of met
message_seen request (Took message) = refl
message_seen request (Got reply) = refl
message_seen request Gone = refl
message_seen request met = refl

pub any_seen : (request : ℕ) (met : Met) → has_message (seen_met request met) ≡ is_some (message_of met)
any_seen request (Took message) = refl
any_seen request (Got reply) = refl
any_seen request Gone = refl
any_seen request met = refl

pub answer_seen : (request : ℕ) (met : Met) → answer_in (seen_met request met) ≡ option_map (λ (message : Option Message). record { request = request; reply = message }) (reply_of met)
answer_seen request (Took message) = refl
answer_seen request (Got reply) = refl
answer_seen request Gone = refl
answer_seen request met = refl

pub reply_seen : (request : ℕ) (met : Met) → brought (answer_in (seen_met request met)) ≡ reply_met met
reply_seen request (Took message) = refl
reply_seen request (Got reply) = refl
reply_seen request Gone = refl
reply_seen request met = refl

pub if_error : (hand : RowItem) (P : Type 0) → P → IfError hand P
if_error (hands.Error kind) P holds = holds
if_error hand P holds = tt

pub looked_as : (message other : Option Message) → message ≡ other → IfSome message (λ x. other ≡ Some x)
looked_as None other is = tt
looked_as (Some x) other is = sym is

-- the connection is looked at
pub watched : (seen : Watch) (v u : LinkView) → seen ≡ v.watch → u ≡ v → Meets Watches (watch_met seen) v u
watched (watch.State state) v u is same = (same, sym is)
watched watch.Ended v u is same = (same, sym is)

-- ---- a closed inbox

pub closing : (wish : Wish) (met : Met) (v u : LinkView) → Meets wish met v u → is_shut met ≡ true → IsClosing Meets wish true v u
closing (Reads inbox) Shut v u m e = m
closing Nothing Shut v u m e = absurd m
closing OpensInbox Shut v u m e = absurd m
closing Watches Shut v u m e = absurd m
closing (Publishes subject reply payload) Shut v u m e = absurd m
closing (Requests subject payload) Shut v u m e = absurd m
closing (Drops inbox) Shut v u m e = absurd m
closing (Awaits request) Shut v u m e = absurd m
closing wish met v u m e = absurd (never e)
  where
    never : false ≡ true → ⊥
    never e = cc

-- ---- how a row is passed

pub moment_met : (now : ℕ) (met : Met) → at_moment now (row_input now met) ≡ row_input now met
moment_met now (Requested number) = refl
moment_met now (Opened inbox subject) = refl
moment_met now Refused = refl
moment_met now met = refl

false_true : false ≡ true → ⊥
false_true e = cc

pub requesting_met : (now : ℕ) (met : Met) (request : Option ℕ) (subject payload : List ℕ) (v u : LinkView) → Meets (Requests subject payload) met v u → GoesAs request met
    → requesting now request (row_input now met) ≡ row_input now met
requesting_met now (Requested number) None subject payload v u m goes = absurd (false_true (sym (goes now)))
requesting_met now (Requested number) (Some request) subject payload v u m goes = ap (λ (n : ℕ). record (row_input now (Requested number)) { request = n }) (sym (goes now).1)
requesting_met now Refused None subject payload v u m goes = refl
requesting_met now Refused (Some request) subject payload v u m goes = absurd (false_true (goes now).0)
requesting_met now met request subject payload v u m goes = absurd m

pub opening_met : (now : ℕ) (met : Met) (v u : LinkView) → Meets OpensInbox met v u → opening_to now (inbox_in met) (row_input now met) ≡ row_input now met
opening_met now (Opened inbox subject) v u m = refl
opening_met now Refused v u m = refl
opening_met now met v u m = absurd m

-- ---- what is sent is not handed out

pub no_request : (subject payload : List ℕ) (request : Option ℕ) → handed (requested subject payload request) ≡ []
no_request subject payload None = refl
no_request subject payload (Some request) = refl

pub no_inbox : (inbox : Option Inbox) → handed (subscribed inbox) ≡ []
no_inbox None = refl
no_inbox (Some inbox) = refl

pub none_sent : (sent : List Sent) (outputs : List Output) → handed (map output_of sent ++ outputs) ≡ handed outputs
none_sent [] outputs = refl
none_sent (goes.Request number subject headers payload ∷ sent) outputs = none_sent sent outputs
none_sent (goes.Publish subject reply headers payload ∷ sent) outputs = none_sent sent outputs
none_sent (goes.Subscribe inbox subject group ∷ sent) outputs = none_sent sent outputs

-- ---- what a reader's row takes

arrives_other : (inbox : ℕ) (wish : Wish) (met : Met) (v u : LinkView) → IsOther wish → Meets wish met v u → message_on inbox (arrival_of wish met) ≡ message_of met
arrives_other inbox (Reads at) met v u other m = absurd other
arrives_other inbox Nothing met v u other m = sym (untaken Nothing met v u tt m).message
arrives_other inbox OpensInbox met v u other m = sym (untaken OpensInbox met v u tt m).message
arrives_other inbox Watches met v u other m = sym (untaken Watches met v u tt m).message
arrives_other inbox (Publishes subject reply payload) met v u other m = sym (untaken (Publishes subject reply payload) met v u tt m).message
arrives_other inbox (Requests subject payload) met v u other m = sym (untaken (Requests subject payload) met v u tt m).message
arrives_other inbox (Drops at) met v u other m = sym (untaken (Drops at) met v u tt m).message
arrives_other inbox (Awaits request) met v u other m = sym (untaken (Awaits request) met v u tt m).message

inquiry_other : (inquiry : InfoRequest) → IsOther (pull.awaited inquiry)
inquiry_other info.NoInfoRequest = tt
inquiry_other (info.Asked request timeout failures) = tt
inquiry_other (info.Resting wait failures) = tt

pub arrives : (one : PullRow) (r : Reader) (met : Met) (v u : LinkView) → Meets (pull.wish one r) met v u
    → message_on r.source.inbox (arrival_of (pull.wish one r) met) ≡ message_of met
arrives read.CheckArrival r met v u m = arrives_here r.source.inbox met
arrives read.CheckInfoRequest r met v u m = arrives_other r.source.inbox (pull.awaited r.inquiry) met v u (inquiry_other r.inquiry) m
arrives (read.Begin change) r met v u m = arrives_other r.source.inbox (pull.wish (read.Begin change) r) met v u tt m
arrives (read.Ask reason) r met v u m = arrives_other r.source.inbox (pull.wish (read.Ask reason) r) met v u tt m
arrives read.Threshold r met v u m = arrives_other r.source.inbox (pull.wish read.Threshold r) met v u tt m
arrives read.Arm r met v u m = arrives_other r.source.inbox (pull.wish read.Arm r) met v u tt m
arrives (read.Inquire failures) r met v u m = arrives_other r.source.inbox (pull.wish (read.Inquire failures) r) met v u tt m
arrives (read.FailInfoRequest failures) r met v u m = arrives_other r.source.inbox (pull.wish (read.FailInfoRequest failures) r) met v u tt m
arrives (read.Answered reply failures) r met v u m = arrives_other r.source.inbox (pull.wish (read.Answered reply failures) r) met v u tt m
arrives read.CheckExpiry r met v u m = arrives_other r.source.inbox (pull.wish read.CheckExpiry r) met v u tt m
arrives read.CheckSilence r met v u m = arrives_other r.source.inbox (pull.wish read.CheckSilence r) met v u tt m
