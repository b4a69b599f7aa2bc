-- What a queue has done before it is pending.
use Rattle.std.proofs.Common.{◌≡◌, ◌≢◌, ℕ, ◌+◌, ◌<◌, ◌≤◌, ◌⊎◌, false, Option, Some, None, List, [], ◌∷◌, ◌++◌, length, inl, inr, refl, sym, ap, ◌∙◌, subst, arith, length-append}
use Rattle.std.proofs.lemmas.List.Elements.{All-nil, All-weaker}
use Rattle.std.specs.Prelude.{All}
use Rattle.js_base.specs.Clock.{is_over}
use Rattle.js_base.specs.declared.message.Message.{Message}
use Rattle.js_base.specs.declared.turn.Next.{Next}
use Rattle.js_base.specs.declared.turn.Next.TheVariants as next
use Rattle.js_base.specs.declared.turn.Turn.TheVariants.{Pending, Ready}
use Rattle.js_link.specs.LinkView.{LinkView}
use Rattle.js_link.specs.Calls.{FailsToSend}
use Rattle.js_call.specs.declared.open_request.OpenRequest.{OpenRequest}
use Rattle.js_call.specs.declared.open_request.Shown.{Shown}
use Rattle.js_call.specs.declared.open_request.Shown.TheVariants.{Came, Gone, Due, Still}
use Rattle.js_call.specs.RawCall.{Shows}
use Rattle.js_call.specs.Wakes.{IsLeftAlone, IsSent}
use Rattle.js_window.specs.History.{entry}
use Rattle.js_window.specs.declared.history.Call.TheVariants.{Full, Give, Got}
use Rattle.js_context.specs.declared.ack_future.Clock.{Clock}
use Rattle.js_context.specs.declared.ack_future.PublishAckFuture.{PublishAckFuture}
use Rattle.js_context.specs.AckClock.{timed}
use Rattle.js_context.specs.AckFuture.{Acked, AckPolled, AckTurn, AckTurns, clock_at}
use Rattle.js_context.specs.Context.{ContextView, Takes}
use Rattle.js_context.specs.Sending.{TakesAndGives}
use Rattle.js_context.specs.AckTimers.{ack_waits_for, unless_kept}
use Rattle.js_context_queue.specs.declared.in_flight.InFlight.{InFlight}
use Rattle.js_context_queue.specs.declared.published.Published.{Published}
use Rattle.js_context_queue.specs.declared.step_result.StepResult.{StepResult}
use Rattle.js_context_queue.specs.declared.step_result.StepResult.TheVariants as steps
use Rattle.js_context_queue.specs.declared.unsent.Unsent.{Unsent}
use Rattle.js_context_queue.specs.InFlight.{tags_of, waits_of}
use Rattle.js_context_queue.specs.Pending.{AcksWait, FindsNone, FirstWasTried, LooksAtEach, LooksOnInVain, PendsInVain, SendsInTurn, StaysInVain, TriesInOrder, WasTried}
use Rattle.js_context_queue.specs.Queue.{Keeps, QueueView, open_tags, waiting_tags}
use Rattle.js_context_queue.specs.QueuePoll.{Place}
use Rattle.js_context_queue.specs.SendAttempt.{IsTriedInVain}
use Rattle.js_context_queue.specs.Steps.{Looks, SendsFirst, TriesFirst}
use Rattle.js_context_queue.proofs.Rounds.{LastAre, last_all, last_more, last_none}

-- ---- what is left

not_nil : {A : Type 0} → (x : A) (xs : List A) → x ∷ xs ≡ [] → ⊥
not_nil x xs e = cc

some_push : {A : Type 0} → (xs ys : List A) (y : A) → ys ≡ xs ++ y ∷ [] → ys ≢ []
some_push [] ys y is none = not_nil y [] (sym is ∙ none)
some_push (x ∷ xs) ys y is none = not_nil x (xs ++ y ∷ []) (sym is ∙ none)

some_front : {A : Type 0} → (x : A) (xs ys : List A) → ys ≡ x ∷ xs → ys ≢ []
some_front x xs ys is none = not_nil x xs (sym is ∙ none)

pub nothing_left : {A : Type 0} → (xs : List A) (k n : ℕ) → length xs + k ≡ n → k ≡ n → xs ≡ []
nothing_left [] k n count all = refl
nothing_left (x ∷ xs) k n count all = absurd (omega (arith, count, all))

one_left : {A : Type 0} → (xs : List A) (k n : ℕ) → length xs + k ≡ n → k < n → (x : A) × (more : List A) × (xs ≡ x ∷ more)
one_left [] k n count below = absurd (omega (arith, count, below))
one_left (x ∷ xs) k n count below = (x, xs, refl)

unsent_open : (in_flight : List InFlight) (unsent : List Unsent) → unsent ≢ [] → tags_of in_flight ++ waiting_tags unsent ≢ []
unsent_open (f ∷ in_flight) unsent some = λ none. not_nil f.tag.0 (tags_of in_flight ++ waiting_tags unsent) none
unsent_open [] [] some = λ none. some refl
unsent_open [] (u ∷ unsent) some = λ none. not_nil u.tag.0 (waiting_tags unsent) none

flight_open : (in_flight : List InFlight) (unsent : List Unsent) → in_flight ≢ [] → tags_of in_flight ++ waiting_tags unsent ≢ []
flight_open [] unsent some = λ none. some refl
flight_open (f ∷ in_flight) unsent some = λ none. not_nil f.tag.0 (tags_of in_flight ++ waiting_tags unsent) none

-- a message that is not sent is left, and so is one in flight
pub unsent_left : (q : QueueView) → q.unsent ≢ [] → open_tags q ≢ []
unsent_left q some = unsent_open q.in_flight q.unsent some

pub flight_left : (q : QueueView) → q.in_flight ≢ [] → open_tags q ≢ []
flight_left q some = flight_open q.in_flight q.unsent some

no_tags : (in_flight : List InFlight) (unsent : List Unsent) → length in_flight ≡ 0 → length unsent ≡ 0 → tags_of in_flight ++ waiting_tags unsent ≡ []
no_tags [] [] none_sent none_unsent = refl
no_tags (f ∷ in_flight) unsent none_sent none_unsent = absurd (omega (arith, none_sent))
no_tags [] (u ∷ unsent) none_sent none_unsent = absurd (omega (arith, none_unsent))

-- nothing is left
pub none_left : (q : QueueView) → length q.in_flight ≡ 0 → length q.unsent ≡ 0 → open_tags q ≡ []
none_left q none_sent none_unsent = no_tags q.in_flight q.unsent none_sent none_unsent

-- ---- one ack

pending_is : (x y : PublishAckFuture) (s t : AckTurn) → s ≡ Pending x → t ≡ Pending y → s ≡ t → x ≡ y
pending_is x y s t is other same = cc

never_ready : (x : PublishAckFuture) (y : Acked) → Pending x ≡ Ready y → ⊥
never_ready x y e = cc

-- an ack that is pending waits, and of the context and the link nothing has changed
by_shown : (f next : PublishAckFuture) (clock : Clock) (shown : Shown) (now : ℕ) (c d : ContextView) (v w : LinkView) → f.reply ≡ None → Shows (timed f.request clock) now shown v w
    → AckTurns (record f { clock = Some clock }) shown (Pending next) c d → (d ≡ c) × (w ≡ v) × IsLeftAlone (ack_waits_for next) now w
by_shown f next clock (Came message) now c d v w none shows turns = absurd turns
by_shown f next clock Gone now c d v w none shows turns = absurd (never_ready next _ turns.ready)
by_shown f next clock Due now c d v w none shows turns = absurd (never_ready next _ turns.ready)
by_shown f next clock Still now c d v w none (same, waits, early) (is, stays) = (
  stays,
  same,
  subst (λ (x : LinkView). IsLeftAlone (ack_waits_for next) now x) (sym same)
      (subst (λ (n : PublishAckFuture). IsLeftAlone (ack_waits_for n) now v) (sym (pending_is next (record f { clock = Some clock }) _ _ refl refl is))
      (subst (λ (r : Option Message). IsLeftAlone (unless_kept r (Some clock) f.request) now v) (sym none) (waits, early))),
)

waits_on : (f next : PublishAckFuture) (now : ℕ) (c d : ContextView) (v w : LinkView) (reply : Option Message) → f.reply ≡ reply → AckPolled reply f now (Pending next) c d v w
    → (d ≡ c) × (w ≡ v) × IsLeftAlone (ack_waits_for next) now w
waits_on f next now c d v w (Some message) is (same, reads) = absurd reads
waits_on f next now c d v w None is (shown, shows, turns) = by_shown f next (clock_at f now c) shown now c d v w is shows turns

-- ---- looks, one after another

-- so many acks were looked at, and wait
pub record Looked (k now : ℕ) (old new : QueueView) (before after : LinkView) : Type 0 where
  pub unsent : new.unsent ≡ old.unsent
  pub context : new.context ≡ old.context
  pub link : after ≡ before
  pub last : LastAre (λ sent. IsLeftAlone sent now after) k (length old.in_flight) (waits_of new.in_flight)

pub looked_none : (now : ℕ) (q : QueueView) (v : LinkView) → Looked 0 now q q v v
looked_none now q v = record { unsent = refl; context = refl; link = refl; last = last_none (λ sent. IsLeftAlone sent now v) q.in_flight }

pub looked_more : (k now : ℕ) (old mid new : QueueView) (before between after : LinkView) → Looked k now old mid before between → k < length old.in_flight → Looks now steps.Made mid new between after
    → Looked (k + 1) now old new before after
looked_more k now old mid new before between after l below goes =
    let (context, link, alone) = waits_on goes.first.future goes.next.future now mid.context new.context between after goes.first.future.reply refl goes.polled in
    record {
      unsent = goes.unsent ∙ l.unsent;
      context = context ∙ l.context;
      link = link ∙ l.link;
      last = last_more (λ sent. IsLeftAlone sent now after) k (length old.in_flight) mid.in_flight new.in_flight goes.rest goes.first goes.next
          (subst (λ (v : LinkView). LastAre (λ sent. IsLeftAlone sent now v) k (length old.in_flight) (waits_of mid.in_flight)) (sym link) l.last) below goes.was goes.is alone;
    }

pub looked_all : (k now : ℕ) (old new : QueueView) (before after : LinkView) → Looked k now old new before after → k ≡ length old.in_flight → FindsNone now old new before after
looked_all k now old new before after l all = record {
  unsent = l.unsent;
  context = l.context;
  link = l.link;
  acks = last_all (λ sent. IsLeftAlone sent now after) k (length old.in_flight) (waits_of new.in_flight) l.last all;
}

alone_sent : (sent : Option OpenRequest) (now : ℕ) (v : LinkView) → IsLeftAlone sent now v → IsSent sent
alone_sent None now v alone = alone
alone_sent (Some sent) now v alone = tt

-- acks that wait have their clocks
pub have_clocks : (now : ℕ) (in_flight : List InFlight) (v : LinkView) → AcksWait now in_flight v → All IsSent (waits_of in_flight)
have_clocks now in_flight v wait = All-weaker (λ sent. IsLeftAlone sent now v) IsSent (λ sent alone. alone_sent sent now v alone) (waits_of in_flight) wait

-- the step that ends the looks
pub looked_at : (k now : ℕ) (step : StepResult) (old mid new : QueueView) (before between after : LinkView) → Looked k now old mid before between → (step ≡ steps.Made → ⊥) → Looks now step mid new between after
    → LooksAtEach now step old new before after
looked_at k now steps.Made old mid new before between after l not looks = absurd (not refl)
looked_at k now steps.NoMemory old mid new before between after l not goes = some_push goes.rest new.in_flight goes.next goes.is
looked_at k now (steps.Over published) old mid new before between after l not settles = tt
looked_at k now steps.Stays old mid new before between after l not none = record {
  unsent = ap (λ (q : QueueView). q.unsent) none.same ∙ l.unsent;
  context = ap (λ (q : QueueView). q.context) none.same ∙ l.context;
  link = none.link ∙ l.link;
  acks =
      subst (λ (f : List InFlight). All (λ sent. IsLeftAlone sent now after) (waits_of f)) (sym (ap (λ (q : QueueView). q.in_flight) none.same ∙ none.none))
      (All-nil (λ sent. IsLeftAlone sent now after));
}

-- ---- sends, one after another

-- so many messages were sent, and the others are left
pub record Sent (k now : ℕ) (p q : Place) : Type 0 where
  pub through : List Place
  pub sends : SendsInTurn p through q
  pub left : length q.queue.unsent + k ≡ length p.queue.unsent

pub sent_none : (now : ℕ) (p : Place) → Sent 0 now p p
sent_none now p = record { through = []; sends = refl; left = omega arith }

in_turn : (p : Place) (through : List Place) (q r : Place) → SendsInTurn p through q → SendsFirst q.queue r.queue q.link r.link → SendsInTurn p (through ++ r ∷ []) r
in_turn p [] q r is sends = (subst (λ (x : Place). SendsFirst x.queue r.queue x.link r.link) (sym is) sends, refl)
in_turn p (x ∷ through) q r (first, more) sends = (first, in_turn x through q r more sends)

pub sent_more : (k now : ℕ) (p q r : Place) → Sent k now p q → SendsFirst q.queue r.queue q.link r.link → Sent (k + 1) now p r
sent_more k now p q r s sends = record {
  through = s.through ++ r ∷ [];
  sends = in_turn p s.through q r s.sends sends;
  left = omega (arith, s.left, ap length sends.was);
}

pub all_sent : (k now : ℕ) (p q : Place) → Sent k now p q → k ≡ length p.queue.unsent → q.queue.unsent ≡ []
all_sent k now p q s all = nothing_left q.queue.unsent k (length p.queue.unsent) s.left all

was_tried : (k now : ℕ) (p q r : Place) (first : Unsent) → Sent k now p q → Keeps p.queue q.queue → r.queue.unsent ≡ q.queue.unsent → IsTriedInVain first.message q.queue.context r.queue.context q.link r.link
    → is_over first.since q.queue.send_timeout now ≡ false → WasTried now first p r
was_tried k now p q r first s keeps stands tried early = record {
  through = s.through;
  at = q;
  sends = s.sends;
  left = sym stands;
  tried = tried;
  early = subst (λ (wait : ℕ). is_over first.since wait now ≡ false) keeps.send_timeout early;
}

first_tried : (now : ℕ) (first : Unsent) (more unsent : List Unsent) (p q : Place) → unsent ≡ first ∷ more → WasTried now first p q → FirstWasTried now unsent p q
first_tried now first more unsent p q is tried = subst (λ (u : List Unsent). FirstWasTried now u p q) (sym is) tried

heads : {A : Type 0} → (x y : A) (xs ys : List A) → x ∷ xs ≡ y ∷ ys → x ≡ y
heads x y xs ys e = cc

-- the first message was tried in vain, which is the first of that list
pub first_stays : (now wait : ℕ) (unsent rest : List Unsent) (first : Unsent) (c d : ContextView) (v w : LinkView) → unsent ≡ first ∷ rest → IsTriedInVain first.message c d v w
    → is_over first.since wait now ≡ false → (u : Unsent) (more : List Unsent) → unsent ≡ u ∷ more → IsTriedInVain u.message c d v w × (is_over u.since wait now ≡ false)
first_stays now wait unsent rest first c d v w was tried early u more is =
    subst (λ (x : Unsent). IsTriedInVain x.message c d v w × (is_over x.since wait now ≡ false)) (heads first u rest more (sym was ∙ is)) (tried, early)

-- there is no first message
pub none_stays : (now wait : ℕ) (unsent : List Unsent) (c d : ContextView) (v w : LinkView) → unsent ≡ [] → (u : Unsent) (more : List Unsent) → unsent ≡ u ∷ more
    → IsTriedInVain u.message c d v w × (is_over u.since wait now ≡ false)
none_stays now wait unsent c d v w none u more is = absurd (not_nil u more (sym is ∙ none))

-- the step that ends the sends
pub tried_at : (k now : ℕ) (step : StepResult) (p q r : Place) → Sent k now p q → k < length p.queue.unsent → Keeps p.queue q.queue → (step ≡ steps.Made → ⊥) → TriesFirst now step q.queue r.queue q.link r.link
    → StaysInVain now step q.queue r.queue q.link r.link → TriesInOrder now step p r
tried_at k now steps.Made p q r s below keeps not tries stays = absurd (not refl)
tried_at k now (steps.Over published) p q r s below keeps not tries stays = tt
tried_at k now steps.NoMemory p q r s below keeps not tries stays =
    let (first, more, is) = one_left q.queue.unsent k (length p.queue.unsent) s.left below in
    some_front first more r.queue.unsent (tries.stands.unsent ∙ is)
tried_at k now steps.Stays p q r s below keeps not tries stays =
    let (first, more, is) = one_left q.queue.unsent k (length p.queue.unsent) s.left below in
    let (tried, early) = stays first more is in
    first_tried now first more r.queue.unsent p r (tries.stands.unsent ∙ is) (was_tried k now p q r first s keeps tries.stands.unsent tried early)

-- ---- a poll

-- what was tried is so still, where nothing has changed since but clocks
still_tried : (now : ℕ) (first : Unsent) (p mid q : Place) → q.queue.unsent ≡ mid.queue.unsent → q.queue.context ≡ mid.queue.context → q.link ≡ mid.link → WasTried now first p mid → WasTried now first p q
still_tried now first p mid q unsent context link w = record {
  through = w.through;
  at = w.at;
  sends = w.sends;
  left = w.left ∙ sym unsent;
  tried =
      subst (λ (x : LinkView). IsTriedInVain first.message w.at.queue.context q.queue.context w.at.link x) (sym link)
      (subst (λ (d : ContextView). IsTriedInVain first.message w.at.queue.context d w.at.link mid.link) (sym context) w.tried);
  early = w.early;
}

still_first : (now : ℕ) (unsent : List Unsent) (p mid q : Place) → q.queue.unsent ≡ mid.queue.unsent → q.queue.context ≡ mid.queue.context → q.link ≡ mid.link → FirstWasTried now unsent p mid
    → FirstWasTried now unsent p q
still_first now [] p mid q same context link first = tt
still_first now (u ∷ unsent) p mid q same context link first = still_tried now u p mid q same context link first

-- no message is left unsent after all were sent
none_tried : (now : ℕ) (unsent : List Unsent) (p q : Place) → unsent ≡ [] → FirstWasTried now unsent p q
none_tried now unsent p q none = subst (λ (u : List Unsent). FirstWasTried now u p q) (sym none) tt

pub all_tried : (now : ℕ) (p q : Place) → q.queue.unsent ≡ [] → FirstWasTried now q.queue.unsent p q
all_tried now p q none = none_tried now q.queue.unsent p q none

-- what the looks find, by what is handed out after them
pub rests_in_vain : (now : ℕ) (result : Next Published) (old new : QueueView) (before after : LinkView) → FindsNone now old new before after → LooksOnInVain now result old new before after
rests_in_vain now next.Pending old new before after found = found
rests_in_vain now next.End old new before after found = tt
rests_in_vain now next.OutOfMemory old new before after found = tt
rests_in_vain now (next.Item published) old new before after found = tt

-- what the poll finds
pub pends_in_vain : (now : ℕ) (result : Next Published) (p mid q : Place) → FirstWasTried now mid.queue.unsent p mid → LooksOnInVain now result mid.queue q.queue mid.link q.link → PendsInVain now result p q
pends_in_vain now next.Pending p mid q first found = record {
  acks = found.acks;
  first = subst (λ (u : List Unsent). FirstWasTried now u p q) (sym found.unsent) (still_first now mid.queue.unsent p mid q found.unsent found.context found.link first);
}
pends_in_vain now next.End p mid q first found = tt
pends_in_vain now next.OutOfMemory p mid q first found = tt
pends_in_vain now (next.Item published) p mid q first found = tt

-- ---- worked: a poll that does nothing has tried nothing

sends_ask : (p : Place) (through : List Place) (q : Place) → SendsInTurn p through q → length p.queue.context.pass.mine ≤ length q.queue.context.pass.mine
sends_ask p [] q is = omega (arith, ap (λ (x : Place). length x.queue.context.pass.mine) is)
sends_ask p (x ∷ more) q (sends, rest) =
    omega (arith, ap length sends.sends.takes.mine, length-append p.queue.context.pass.mine (entry p.queue.context.pass.number Got ∷ []), sends_ask x more q rest)

asks_by : (n : ℕ) (c d : ContextView) (v w : LinkView) → n ≤ length c.pass.mine → (Takes None c d × (w ≡ v)) ⊎ (TakesAndGives c d × FailsToSend v w) → n < length d.pass.mine
asks_by n c d v w before (inl full) = omega (arith, before, ap length full.0.0.mine, length-append c.pass.mine (entry c.pass.number Full ∷ []))
asks_by n c d v w before (inr failed) =
    omega (arith, before, ap length failed.0.takes.mine, length-append c.pass.mine (entry c.pass.number Got ∷ []), ap length failed.0.gives.mine, length-append failed.0.between.mine (entry failed.0.between.number Give ∷ []))

-- a poll that has tried a message has asked for a permit: its pass has made more calls than before
pub tried_asks : (now : ℕ) (first : Unsent) (p q : Place) → WasTried now first p q → length p.queue.context.pass.mine < length q.queue.context.pass.mine
tried_asks now first p q was =
    asks_by (length p.queue.context.pass.mine) was.at.queue.context q.queue.context was.at.link q.link (sends_ask p was.through was.at was.sends) was.tried.found
