-- Steps of a queue, one after another, and what comes of its messages by them.
use Rattle.std.proofs.Common.{◌≡◌, ℕ, Option, Some, None, List, [], ◌∷◌, ◌++◌, inl, inr, refl, sym, ap, ◌∙◌, subst, arith, append_assoc, ⊎_elim}
use Rattle.std.proofs.lemmas.List.Elements.{All-contains_itself, All-weaker, Contains-append_right, Contains-push_cases}
use Rattle.std.specs.List.{Contains}
use Rattle.js_base.specs.declared.message.Message.{Message}
use Rattle.js_base.specs.declared.turn.Turn.TheVariants.{OutOfMemory, Pending, Ready}
use Rattle.js_link.specs.LinkView.{LinkView}
use Rattle.js_call.specs.declared.open_request.Shown.{Shown}
use Rattle.js_call.specs.declared.open_request.Shown.TheVariants.{Came, Gone, Due, Still}
use Rattle.js_context.specs.declared.ack_future.Clock.{Clock}
use Rattle.js_context.specs.declared.ack_future.PublishAckFuture.{PublishAckFuture}
use Rattle.js_context.specs.AckFuture.{Acked, AckPolled, AckTurn, AckTurns, clock_at}
use Rattle.js_context.specs.Context.{ContextView}
use Rattle.js_context_queue.specs.declared.in_flight.InFlight.{InFlight}
use Rattle.js_context_queue.specs.declared.published.Published.{Published}
use Rattle.js_context_queue.specs.declared.unsent.Unsent.{Unsent}
use Rattle.js_context_queue.specs.declared.step_result.StepResult.{StepResult}
use Rattle.js_context_queue.specs.declared.step_result.StepResult.TheVariants as steps
use Rattle.js_context_queue.specs.Queue.{QueueView, Keeps}
use Rattle.js_context_queue.specs.Steps.{GivesUp, GoesBehind, Looks, TriesFirst, SendsFirst, Settles, brought}
use Rattle.js_context_queue.specs.QueuePoll.{Ends, IsAckOf, IsLeftOf, IsOwn, IsSentFrom, IsStillOneOf, Leads, Passes, Place, Polls, Runs, Tells, place}

-- ---- steps one after another

leads_then : (now : ℕ) (p : Place) (xs : List Place) (q : Place) (ys : List Place) (r : Place) → Leads now p xs q → Leads now q ys r → Leads now p (xs ++ ys) r
leads_then now p [] q ys r is b = subst (λ (x : Place). Leads now x ys r) (sym is) b
leads_then now p (x ∷ xs) q ys r (first, more) b = (first, leads_then now x xs q ys r more b)

pub runs_none : (now : ℕ) (p : Place) → Runs now None p p
runs_none now p = record { through = []; at = p; leads = refl; ends = refl }

pub runs_then : (now : ℕ) (given : Option Published) (p q r : Place) → Runs now None p q → Runs now given q r → Runs now given p r
runs_then now given p q r a b = record {
  through = a.through ++ b.through;
  at = b.at;
  leads = leads_then now p a.through q b.through b.at (subst (λ (x : Place). Leads now p a.through x) a.ends a.leads) b.leads;
  ends = b.ends;
}

-- one step
passed : (now : ℕ) (p q : Place) → Passes now p q → Runs now None p q
passed now p q one = record { through = q ∷ []; at = q; leads = (one, refl); ends = refl }

told : (now : ℕ) (published : Published) (p q : Place) → Tells now published p q → Runs now (Some published) p q
told now published p q one = record { through = []; at = p; leads = refl; ends = one }

sends_runs : (now : ℕ) (step : StepResult) (p q : Place) → Keeps p.queue q.queue → TriesFirst now step p.queue q.queue p.link q.link → Runs now (brought step) p q
sends_runs now steps.Made p q keeps s = passed now p q (record { keeps = keeps; does = inl (inl s) })
sends_runs now (steps.Over published) p q keeps s = told now published p q (record { keeps = keeps; does = inr s })
sends_runs now steps.Stays p q keeps s = passed now p q (record { keeps = keeps; does = inl (inr s) })
sends_runs now steps.NoMemory p q keeps s = passed now p q (record { keeps = keeps; does = inl (inr s) })

looks_runs : (now : ℕ) (step : StepResult) (p q : Place) → Keeps p.queue q.queue → Looks now step p.queue q.queue p.link q.link → Runs now (brought step) p q
looks_runs now steps.Made p q keeps l = passed now p q (record { keeps = keeps; does = inr (inl l) })
looks_runs now (steps.Over published) p q keeps l = told now published p q (record { keeps = keeps; does = inl l })
looks_runs now steps.Stays p q keeps l = record { through = []; at = p; leads = refl; ends = λ i. place (sym l.same i) (sym l.link i) }
looks_runs now steps.NoMemory p q keeps l = passed now p q (record { keeps = keeps; does = inr (inr l) })

pub runs_sends : (now : ℕ) (step : StepResult) (p q r : Place) → Runs now None p q → Keeps q.queue r.queue → TriesFirst now step q.queue r.queue q.link r.link → Runs now (brought step) p r
runs_sends now step p q r before keeps sends = runs_then now (brought step) p q r before (sends_runs now step q r keeps sends)

pub runs_looks : (now : ℕ) (step : StepResult) (p q r : Place) → Runs now None p q → Keeps q.queue r.queue → Looks now step q.queue r.queue q.link r.link → Runs now (brought step) p r
runs_looks now step p q r before keeps looks = runs_then now (brought step) p q r before (looks_runs now step q r keeps looks)

-- ---- one look

same_next : (x y : PublishAckFuture) (s t : AckTurn) → s ≡ Pending x → t ≡ Pending y → s ≡ t → x ≡ y
same_next x y s t is other same = cc

pending_or_ready : (x : PublishAckFuture) (y : Acked) (t : AckTurn) → t ≡ Pending x → t ≡ Ready y → ⊥
pending_or_ready x y t is other = cc

no_memory_or_ready : (x : PublishAckFuture) (y : Acked) (t : AckTurn) → t ≡ OutOfMemory x → t ≡ Ready y → ⊥
no_memory_or_ready x y t is other = cc

no_memory_or_pending : (x y : PublishAckFuture) (t : AckTurn) → t ≡ OutOfMemory x → t ≡ Pending y → ⊥
no_memory_or_pending x y t is other = cc

-- the ack is that of the same request after a look
pending_request : (f next : PublishAckFuture) (clock : Clock) (shown : Shown) (c d : ContextView) → AckTurns (record f { clock = Some clock }) shown (Pending next) c d → next.request ≡ f.request
pending_request f next clock (Came message) c d turns = absurd turns
pending_request f next clock Gone c d turns = absurd (pending_or_ready next _ _ refl turns.ready)
pending_request f next clock Due c d turns = absurd (pending_or_ready next _ _ refl turns.ready)
pending_request f next clock Still c d turns = ap (λ (n : PublishAckFuture). n.request) (same_next next (record f { clock = Some clock }) _ _ refl refl turns.0)

kept_request : (f next : PublishAckFuture) (clock : Clock) (shown : Shown) (c d : ContextView) → AckTurns (record f { clock = Some clock }) shown (OutOfMemory next) c d → next.request ≡ f.request
kept_request f next clock (Came message) c d turns = ap (λ (n : PublishAckFuture). n.request) turns.0
kept_request f next clock Gone c d turns = absurd (no_memory_or_ready next _ _ refl turns.ready)
kept_request f next clock Due c d turns = absurd (no_memory_or_ready next _ _ refl turns.ready)
kept_request f next clock Still c d turns = absurd (no_memory_or_pending next _ _ refl turns.0)

after_pending : (reply : Option Message) (f next : PublishAckFuture) (now : ℕ) (c d : ContextView) (v w : LinkView) → AckPolled reply f now (Pending next) c d v w → next.request ≡ f.request
after_pending (Some message) f next now c d v w (link, reads) = absurd reads
after_pending None f next now c d v w (shown, shows, turns) = pending_request f next (clock_at f now c) shown c d turns

after_no_memory : (reply : Option Message) (f next : PublishAckFuture) (now : ℕ) (c d : ContextView) (v w : LinkView) → AckPolled reply f now (OutOfMemory next) c d v w → next.request ≡ f.request
after_no_memory (Some message) f next now c d v w reads = ap (λ (n : PublishAckFuture). n.request) reads.1.0
after_no_memory None f next now c d v w (shown, shows, turns) = kept_request f next (clock_at f now c) shown c d turns

-- ---- the messages that are left

left_same : (before left : List Unsent) → left ≡ before → IsLeftOf before left
left_same before left is = record { gone = []; is = sym is }

left_first : (first : Unsent) (before left : List Unsent) → before ≡ first ∷ left → IsLeftOf before left
left_first first before left is = record { gone = first ∷ []; is = is }

left_then : (before mid left : List Unsent) → IsLeftOf before mid → IsLeftOf mid left → IsLeftOf before left
left_then before mid left a b = record { gone = a.gone ++ b.gone; is = a.is ∙ ap (λ rest. a.gone ++ rest) b.is ∙ sym (append_assoc a.gone b.gone left) }

passes_left : (now : ℕ) (p q : Place) → Passes now p q → IsLeftOf p.queue.unsent q.queue.unsent
passes_left now p q one =
    ⊎_elim (λ sends. ⊎_elim (λ s. left_first s.first p.queue.unsent q.queue.unsent s.was) (λ s. left_same p.queue.unsent q.queue.unsent s.stands.unsent) sends)
    (λ looks. ⊎_elim (λ l. left_same p.queue.unsent q.queue.unsent l.unsent) (λ l. left_same p.queue.unsent q.queue.unsent l.unsent) looks) one.does

tells_left : (now : ℕ) (published : Published) (p q : Place) → Tells now published p q → IsLeftOf p.queue.unsent q.queue.unsent
tells_left now published p q one =
    ⊎_elim (λ l. left_same p.queue.unsent q.queue.unsent l.unsent) (λ g. left_first g.first p.queue.unsent q.queue.unsent g.was) one.does

leads_left : (now : ℕ) (p : Place) (xs : List Place) (q : Place) → Leads now p xs q → IsLeftOf p.queue.unsent q.queue.unsent
leads_left now p [] q is = left_same p.queue.unsent q.queue.unsent (ap (λ (x : Place). x.queue.unsent) (sym is))
leads_left now p (x ∷ xs) q (first, more) = left_then p.queue.unsent x.queue.unsent q.queue.unsent (passes_left now p x first) (leads_left now x xs q more)

ends_left : (now : ℕ) (given : Option Published) (at q : Place) → Ends now given at q → IsLeftOf at.queue.unsent q.queue.unsent
ends_left now None at q is = left_same at.queue.unsent q.queue.unsent (ap (λ (x : Place). x.queue.unsent) (sym is))
ends_left now (Some published) at q one = tells_left now published at q one

pub runs_left : (now : ℕ) (given : Option Published) (p q : Place) → Runs now given p q → IsLeftOf p.queue.unsent q.queue.unsent
runs_left now given p q runs =
    left_then p.queue.unsent runs.at.queue.unsent q.queue.unsent (leads_left now p runs.through runs.at runs.leads) (ends_left now given runs.at q runs.ends)

-- ---- the acks that are in flight

-- each of these is one of those, and each ack is that of one of those messages
record Follows (p q : QueueView) : Type 0 where
  unsent : (u : Unsent) → Contains q.unsent u → Contains p.unsent u
  in_flight : (ack : InFlight) → Contains q.in_flight ack → IsAckOf p ack

here : {A : Type 0} → (x : A) (xs : List A) → Contains (x ∷ xs) x
here x xs = (0, omega arith, refl)

later : {A : Type 0} → (x y : A) (xs ys : List A) → ys ≡ x ∷ xs → Contains xs y → Contains ys y
later x y xs ys is one = rw is (Contains-append_right (x ∷ []) xs y one)

itself : (q : QueueView) (ack : InFlight) → Contains q.in_flight ack → IsAckOf q ack
itself q ack one = inl (record { was = ack; flew = one; tag = refl; request = refl })

follows_same : (p q : QueueView) → q.unsent ≡ p.unsent → q.in_flight ≡ p.in_flight → Follows p q
follows_same p q unsent in_flight = record {
  unsent = λ u one. subst (λ (xs : List Unsent). Contains xs u) unsent one;
  in_flight = λ ack one. itself p ack (subst (λ (xs : List InFlight). Contains xs ack) in_flight one);
}

-- the same message has sent an ack of the same request and tag
still_sent : (unsent : List Unsent) (was ack : InFlight) → ack.tag ≡ was.tag → ack.future.request ≡ was.future.request → IsSentFrom unsent was → IsSentFrom unsent ack
still_sent unsent was ack tag request sent = record {
  message = sent.message;
  pushed = sent.pushed;
  tag = tag ∙ sent.tag;
  before = sent.before;
  after = sent.after;
  asks = rw request sent.asks;
}

still_one : (in_flight : List InFlight) (was ack : InFlight) → ack.tag ≡ was.tag → ack.future.request ≡ was.future.request → IsStillOneOf in_flight was → IsStillOneOf in_flight ack
still_one in_flight was ack tag request one = record { was = one.was; flew = one.flew; tag = tag ∙ one.tag; request = request ∙ one.request }

still_of : (p : QueueView) (was ack : InFlight) → ack.tag ≡ was.tag → ack.future.request ≡ was.future.request → IsAckOf p was → IsAckOf p ack
still_of p was ack tag request of =
    ⊎_elim (λ one. inl (still_one p.in_flight was ack tag request one)) (λ sent. inr (still_sent p.unsent was ack tag request sent)) of

sent_before : (p q : QueueView) (ack : InFlight) → Follows p q → IsSentFrom q.unsent ack → IsSentFrom p.unsent ack
sent_before p q ack a sent = record {
  message = sent.message;
  pushed = a.unsent sent.message sent.pushed;
  tag = sent.tag;
  before = sent.before;
  after = sent.after;
  asks = sent.asks;
}

ack_before : (p q : QueueView) (ack : InFlight) → Follows p q → IsAckOf q ack → IsAckOf p ack
ack_before p q ack a of =
    ⊎_elim (λ one. still_of p one.was ack one.tag one.request (a.in_flight one.was one.flew)) (λ sent. inr (sent_before p q ack a sent)) of

follows_then : (p q r : QueueView) → Follows p q → Follows q r → Follows p r
follows_then p q r a b = record {
  unsent = λ u one. a.unsent u (b.unsent u one);
  in_flight = λ ack one. ack_before p q ack a (b.in_flight ack one);
}

sends_first : (p q : QueueView) (v w : LinkView) → SendsFirst p q v w → Follows p q
sends_first p q v w s = record {
  unsent = λ u one. later s.first u q.unsent p.unsent s.was one;
  in_flight = λ ack one.
      ⊎_elim (λ old. itself p ack old)
      (λ is. inr (still_sent p.unsent s.ack ack (ap (λ (f : InFlight). f.tag) (sym is)) (ap (λ (f : InFlight). f.future.request) (sym is))
      (record { message = s.first; pushed = rw s.was (here s.first q.unsent); tag = s.tag; before = v; after = w; asks = s.sends.asks })))
      (Contains-push_cases p.in_flight s.ack ack (subst (λ (xs : List InFlight). Contains xs ack) s.is one));
}

gives_up : (now : ℕ) (published : Published) (p q : QueueView) (v w : LinkView) → GivesUp now published p q v w → Follows p q
gives_up now published p q v w g = record {
  unsent = λ u one. later g.first u q.unsent p.unsent g.was one;
  in_flight = λ ack one. itself p ack (subst (λ (xs : List InFlight). Contains xs ack) g.in_flight one);
}

settles : (now : ℕ) (published : Published) (p q : QueueView) (v w : LinkView) → Settles now published p q v w → Follows p q
settles now published p q v w l = record {
  unsent = λ u one. subst (λ (xs : List Unsent). Contains xs u) l.unsent one;
  in_flight = λ ack one. itself p ack (later l.ack ack q.in_flight p.in_flight l.was one);
}

-- the first ack went behind the others
goes_behind : (p q : QueueView) (first next : InFlight) (rest : List InFlight) → q.unsent ≡ p.unsent → p.in_flight ≡ first ∷ rest → q.in_flight ≡ rest ++ next ∷ [] → next.tag ≡ first.tag → next.future.request ≡ first.future.request → Follows p q
goes_behind p q first next rest unsent was is tag request = record {
  unsent = λ u one. subst (λ (xs : List Unsent). Contains xs u) unsent one;
  in_flight = λ ack one.
      ⊎_elim (λ old. itself p ack (later first ack rest p.in_flight was old))
      (λ same. still_of p first ack (ap (λ (f : InFlight). f.tag) (sym same) ∙ tag) (ap (λ (f : InFlight). f.future.request) (sym same) ∙ request) (itself p first (rw was (here first rest))))
      (Contains-push_cases rest next ack (subst (λ (xs : List InFlight). Contains xs ack) is one));
}

pends : (now : ℕ) (p q : QueueView) (v w : LinkView) → GoesBehind now (λ next. Pending next) p q v w → Follows p q
pends now p q v w l = goes_behind p q l.first l.next l.rest l.unsent l.was l.is l.tag (after_pending l.first.future.reply l.first.future l.next.future now p.context q.context v w l.polled)

lacks_memory : (now : ℕ) (p q : QueueView) (v w : LinkView) → GoesBehind now (λ next. OutOfMemory next) p q v w → Follows p q
lacks_memory now p q v w l = goes_behind p q l.first l.next l.rest l.unsent l.was l.is l.tag (after_no_memory l.first.future.reply l.first.future l.next.future now p.context q.context v w l.polled)

passes_follows : (now : ℕ) (p q : Place) → Passes now p q → Follows p.queue q.queue
passes_follows now p q one =
    ⊎_elim (λ sends. ⊎_elim (λ s. sends_first p.queue q.queue p.link q.link s) (λ s. follows_same p.queue q.queue s.stands.unsent s.stands.in_flight) sends)
    (λ looks. ⊎_elim (λ l. pends now p.queue q.queue p.link q.link l) (λ l. lacks_memory now p.queue q.queue p.link q.link l) looks) one.does

tells_follows : (now : ℕ) (published : Published) (p q : Place) → Tells now published p q → Follows p.queue q.queue
tells_follows now published p q one =
    ⊎_elim (λ l. settles now published p.queue q.queue p.link q.link l) (λ g. gives_up now published p.queue q.queue p.link q.link g) one.does

leads_follows : (now : ℕ) (p : Place) (xs : List Place) (q : Place) → Leads now p xs q → Follows p.queue q.queue
leads_follows now p [] q is = follows_same p.queue q.queue (ap (λ (x : Place). x.queue.unsent) (sym is)) (ap (λ (x : Place). x.queue.in_flight) (sym is))
leads_follows now p (x ∷ xs) q (first, more) = follows_then p.queue x.queue q.queue (passes_follows now p x first) (leads_follows now x xs q more)

ends_follows : (now : ℕ) (given : Option Published) (at q : Place) → Ends now given at q → Follows at.queue q.queue
ends_follows now None at q is = follows_same at.queue q.queue (ap (λ (x : Place). x.queue.unsent) (sym is)) (ap (λ (x : Place). x.queue.in_flight) (sym is))
ends_follows now (Some published) at q one = tells_follows now published at q one

-- ---- the outcome

settled_own : (now : ℕ) (published : Published) (p at q : Place) → Follows p.queue at.queue → Settles now published at.queue q.queue at.link q.link → IsOwn now (Some published) p at q
settled_own now published p at q a s = inl (record { settles = s; own = a.in_flight s.ack (rw s.was (here s.ack q.queue.in_flight)) })

given_up_own : (now : ℕ) (published : Published) (p at q : Place) → Follows p.queue at.queue → GivesUp now published at.queue q.queue at.link q.link → IsOwn now (Some published) p at q
given_up_own now published p at q a g = inr (record { gives_up = g; own = a.unsent g.first (rw g.was (here g.first q.queue.unsent)) })

ends_own : (now : ℕ) (given : Option Published) (p at q : Place) → Follows p.queue at.queue → Ends now given at q → IsOwn now given p at q
ends_own now None p at q a is = tt
ends_own now (Some published) p at q a one = ⊎_elim (λ s. settled_own now published p at q a s) (λ g. given_up_own now published p at q a g) one.does

pub polls_of : (now : ℕ) (given : Option Published) (p q : Place) → Runs now given p q → Polls now given p q
polls_of now given p q runs =
    let a : Follows p.queue runs.at.queue = leads_follows now p runs.through runs.at runs.leads in
    let b : Follows runs.at.queue q.queue = ends_follows now given runs.at q runs.ends in
    let all : Follows p.queue q.queue = follows_then p.queue runs.at.queue q.queue a b in
    record {
      runs = runs;
      own = ends_own now given p runs.at q a runs.ends;
      in_flight = All-weaker (Contains q.queue.in_flight) (IsAckOf p.queue) all.in_flight q.queue.in_flight (All-contains_itself q.queue.in_flight);
    }
