-- A row depends on its link only by what it asks of it, and sends what it asks to send.
use Rattle.std.proofs.Common.{◌≡◌, ℕ, ◌+◌, Bool, true, false, List, [], Option, Some, None, refl, sym, ◌∙◌}
use Rattle.std.proofs.lemmas.Bool.{eq-eqb}
use Rattle.std.specs.Prelude.{◌&&◌, not, nat_lt, if◌then◌else◌}
use Rattle.js_base.specs.declared.message.Message.{Message}
use Rattle.js_base.specs.Clock.{is_any_due}
use Rattle.js_base.specs.declared.clock.Timer.{Timer}
use Rattle.js_base.specs.declared.message.State.{State}
use Rattle.js_base.specs.declared.message.State.TheVariants.{Pending, Connected, Disconnected}
use Rattle.js_link.specs.RowInput.{RowInput}
use Rattle.js_link.specs.Wish.{row_input, message_of}
use Rattle.js_link.specs.declared.wish.Wish.{Wish}
use Rattle.js_link.specs.declared.wish.Wish.TheVariants.{Awaits}
use Rattle.js_link.specs.Offer.{Offer, given, took, got, sends_of}
use Rattle.js_pull.specs.declared.kind.Kind.{Kind}
use Rattle.js_pull.specs.declared.kind.Kind.TheVariants.{Delivered, IdleHeartbeat, Deleted, PushBased, Limit, Gone, Bad, Ledger}
use Rattle.js_pull.specs.Kind.{pull_kind}
use Rattle.js_pull.specs.declared.reader.Reader.{Reader}
use Rattle.js_pull.specs.Reader as rows
use Rattle.js_pull.specs.declared.reader.InfoRequest.{InfoRequest}
use Rattle.js_pull.specs.declared.reader.InfoRequest.TheVariants.{NoInfoRequest, Asked, Resting}
use Rattle.js_pull.specs.declared.reader.Reason.{Reason}
use Rattle.js_pull.specs.declared.reader.Row.{Row}
use Rattle.js_pull.specs.declared.reader.Row.TheVariants.{Begin, Ask, Threshold, Arm, Inquire, FailInfoRequest, CheckInfoRequest, Answered, CheckExpiry, CheckArrival, CheckSilence}
use Rattle.js_pull.specs.declared.replies.InfoReply.{InfoReply}
use Rattle.js_pull.specs.declared.replies.InfoReply.TheVariants as reply
use Rattle.js_pull.proofs.Cases.{if_each}

-- ---- what is asked is sent

abbrev pub Sends : Wish → RowInput → rows.Passed → Type 0
Sends wish p passed = passed.sent ≡ sends_of wish p

abbrev Silent : rows.Passed → Type 0
Silent passed = passed.sent ≡ []

hear_silent : (message : Message) (kind : Kind) (r : Reader) → Silent (rows.hear message kind r)
hear_silent message Delivered r = refl
hear_silent message IdleHeartbeat r = refl
hear_silent message Deleted r = refl
hear_silent message PushBased r = refl
hear_silent message Limit r = refl
hear_silent message Gone r = refl
hear_silent message Bad r = refl
hear_silent message (Ledger messages bytes) r = refl

arrival_silent : (p : RowInput) (arrival : Option Message) (r : Reader) → Silent (rows.check_arrival p arrival r)
arrival_silent p None r = refl
arrival_silent p (Some message) r = hear_silent message (pull_kind message) (rows.with_pin message (rows.with_silence p.now r))

answered_silent : (failures : ℕ) (says : InfoReply) (r : Reader) → Silent (rows.answered failures says r)
answered_silent failures (reply.Info info) r = refl
answered_silent failures (reply.Error code) r = if_each Silent (r.source.resilience.recreates_when_gone && rows.is_gone code) _ _ (λ _. refl) (λ _. refl)
answered_silent failures reply.Nothing r = refl

asked_silent : (p : RowInput) (timeout : Option Timer) (failures : ℕ) (reply : Option (Option Message)) (r : Reader) → Silent (rows.check_asked p timeout failures reply r)
asked_silent p timeout failures None r = refl
asked_silent p timeout failures (Some reply) r = refl

inquiry_sends : (p : RowInput) (answer : Option rows.Answer) (inquiry : InfoRequest) (r : Reader) → Sends (rows.awaited inquiry) p (rows.check_inquiry p answer inquiry r)
inquiry_sends p answer NoInfoRequest r = refl
inquiry_sends p answer (Asked request timeout failures) r = asked_silent p timeout failures (rows.reply_to request answer) r
inquiry_sends p answer (Resting wait failures) r = refl

change_silent : (p : RowInput) (change : Option State) (r : Reader) → Silent (rows.begin_change p change r)
change_silent p None r = refl
change_silent p (Some Connected) r = refl
change_silent p (Some Pending) r = refl
change_silent p (Some Disconnected) r = refl

both : {A B : Type 0} (f : A → B) (b : Bool) (x y : A) (u v : B) → f x ≡ u → f y ≡ v → f (if b then x else y) ≡ (if b then u else v)
both f true x y u v hu hv = hu
both f false x y u v hu hv = hv

pub row_sends : (p : RowInput) (answer : Option rows.Answer) (arrival : Option Message) (row : Row) (r : Reader) → Sends (rows.wish row r) p (rows.row p answer arrival row r)
row_sends p answer arrival (Begin change) r = if_each Silent r.ended _ _ (λ _. refl) (λ _. if_each Silent (rows.is_asking r.inquiry) _ _ (λ _. refl) (λ _. change_silent p change r))
row_sends p answer arrival (Ask reason) r = both (λ (passed : rows.Passed). passed.sent) p.up _ _ _ _ refl refl
row_sends p answer arrival Threshold r = if_each Silent (rows.is_low r && not r.waiting) _ _ (λ _. refl) (λ _. refl)
row_sends p answer arrival Arm r = refl
row_sends p answer arrival (Inquire failures) r = both (λ (passed : rows.Passed). passed.sent) p.up _ _ _ _ refl refl
row_sends p answer arrival (FailInfoRequest failures) r = if_each Silent (nat_lt (failures + 1) 6) _ _ (λ _. refl) (λ _. refl)
row_sends p answer arrival CheckInfoRequest r = inquiry_sends p answer r.inquiry r
row_sends p answer arrival (Answered message failures) r = answered_silent failures (rows.info_reply message) r
row_sends p answer arrival CheckExpiry r = refl
row_sends p answer arrival CheckArrival r = arrival_silent p arrival r
row_sends p answer arrival CheckSilence r = if_each Silent (is_any_due r.heartbeat_timer p.now) _ _ (λ _. refl) (λ _. refl)

-- ---- what is asked is all that is told

-- the reply to a request, told again
pub reply_told : (request : ℕ) (o : Option (Option Message)) → rows.reply_to request (rows.answer_of (Awaits request) (got o)) ≡ o
reply_told request None = refl
reply_told request (Some None) = rw (eq-eqb request request refl) refl
reply_told request (Some (Some reply)) = rw (eq-eqb request request refl) refl

pub begin_told : (p q : RowInput) (change : Option State) (r : Reader) → p.now ≡ q.now → rows.begin_row p change r ≡ rows.begin_row q change r
begin_told p q None r same = refl
begin_told p q (Some Connected) r same = refl
begin_told p q (Some Pending) r same = rw same refl
begin_told p q (Some Disconnected) r same = rw same refl

-- a row at its inbox, with the answer to any request
abbrev pub ReaderOutput : Offer → Option rows.Answer → Row → Reader → Type 0
ReaderOutput x answer row r =
    rows.row x.passing answer (x.arrivals r.source.inbox) row r
    ≡ rows.row (row_input x.passing.now (given x (rows.wish row r))) (rows.answer_of (rows.wish row r) (given x (rows.wish row r))) (message_of (given x (rows.wish row r))) row r

by_up : (now : ℕ) (up : Bool) (request inbox : ℕ) (subject : List ℕ) (x : Offer) → x.passing ≡ record { now = now; up = up; request = request; inbox = inbox; subject = subject }
    → (reason : Reason) (r : Reader) → rows.ask x.passing reason r ≡ rows.ask (row_input x.passing.now (given x (rows.wish (Ask reason) r))) reason r
by_up now true request inbox subject x is reason r = rw is refl
by_up now false request inbox subject x is reason r = rw is refl

inquire_told : (now : ℕ) (up : Bool) (request inbox : ℕ) (subject : List ℕ) (x : Offer) → x.passing ≡ record { now = now; up = up; request = request; inbox = inbox; subject = subject }
    → (failures : ℕ) (r : Reader) → rows.inquire x.passing failures r ≡ rows.inquire (row_input x.passing.now (given x (rows.wish (Inquire failures) r))) failures r
inquire_told now true request inbox subject x is failures r = rw is refl
inquire_told now false request inbox subject x is failures r = rw is refl

asked_told : (p q : RowInput) (timeout : Option Timer) (failures : ℕ) (o o' : Option (Option Message)) (r : Reader) → p.now ≡ q.now → o ≡ o' → rows.check_asked p timeout failures o r ≡ rows.check_asked q timeout failures o' r
asked_told p q timeout failures None o' r same is = rw (sym is) (rw same refl)
asked_told p q timeout failures (Some reply) o' r same is = rw (sym is) refl

pub now_kept : (now : ℕ) (o : Option (Option Message)) → (row_input now (got o)).now ≡ now
now_kept now None = refl
now_kept now (Some None) = refl
now_kept now (Some (Some reply)) = refl

inquiry_told : (x : Offer) (answer : Option rows.Answer) → ((request : ℕ) → x.answers request ≡ rows.reply_to request answer) → (inquiry : InfoRequest) (r : Reader)
    → rows.check_inquiry x.passing answer inquiry r
    ≡ rows.check_inquiry (row_input x.passing.now (given x (rows.awaited inquiry))) (rows.answer_of (rows.awaited inquiry) (given x (rows.awaited inquiry))) inquiry r
inquiry_told x answer answers NoInfoRequest r = refl
inquiry_told x answer answers (Asked request timeout failures) r =
    asked_told x.passing (row_input x.passing.now (got (x.answers request))) timeout failures (rows.reply_to request answer)
    (rows.reply_to request (rows.answer_of (Awaits request) (got (x.answers request)))) r
    (sym (now_kept x.passing.now (x.answers request))) (sym (answers request) ∙ sym (reply_told request (x.answers request)))
inquiry_told x answer answers (Resting wait failures) r = refl

arrival_told : (p : RowInput) (arrival : Option Message) (r : Reader) → rows.check_arrival p arrival r ≡ rows.check_arrival (row_input p.now (took arrival)) (message_of (took arrival)) r
arrival_told p None r = refl
arrival_told p (Some message) r = refl

-- each row takes from its link no more than what it asks for
pub row_told : (x : Offer) (answer : Option rows.Answer) → ((request : ℕ) → x.answers request ≡ rows.reply_to request answer) → (row : Row) (r : Reader) → ReaderOutput x answer row r
row_told x answer answers (Begin change) r = begin_told x.passing (row_input x.passing.now (given x (rows.wish (Begin change) r))) change r refl
row_told x answer answers (Ask reason) r = by_up x.passing.now x.passing.up x.passing.request x.passing.inbox x.passing.subject x refl reason r
row_told x answer answers Threshold r = refl
row_told x answer answers Arm r = refl
row_told x answer answers (Inquire failures) r = inquire_told x.passing.now x.passing.up x.passing.request x.passing.inbox x.passing.subject x refl failures r
row_told x answer answers (FailInfoRequest failures) r = refl
row_told x answer answers CheckInfoRequest r = inquiry_told x answer answers r.inquiry r
row_told x answer answers (Answered reply failures) r = refl
row_told x answer answers CheckExpiry r = refl
row_told x answer answers CheckArrival r = arrival_told x.passing (x.arrivals r.source.inbox) r
row_told x answer answers CheckSilence r = refl
