-- A poll of a subscription that was left alone does nothing.
use Rattle.std.proofs.Common.{◌≡◌, ℕ, ◌+◌, Bool, true, false, not, ◌&&◌, ◌||◌, List, [], ◌∷◌, Option, Some, None, if◌then◌else◌, Result, Ok, Err, refl, sym, ◌∙◌, ap, subst, inl, inr, ◌⊎◌, ⊎_elim, arith, ◌==◌}
use Rattle.js_base.specs.Error.{kind_of}
use Rattle.js_base.specs.declared.error.Error.{Error}
use Rattle.js_base.specs.declared.message.Message as base
use Rattle.js_base.specs.declared.turn.Next.{Next}
use Rattle.js_base.specs.declared.turn.Next.TheVariants as next
use Rattle.js_link.specs.LinkView.{LinkView, put}
use Rattle.js_link.specs.Meets.{Meets}
use Rattle.js_link.proofs.Updates.{put_here}
use Rattle.js_message.specs.declared.message.Message.{Message}
use Rattle.js_ordered_stream.specs.Ordered as streams
use Rattle.js_ordered_stream.specs.Ordered.{something_due}
use Rattle.js_ordered_stream.specs.Rows.{is_left}
use Rattle.js_ordered_stream.specs.declared.error.OrderedErrorKind.{OrderedErrorKind}
use Rattle.js_ordered_stream.specs.declared.error.OrderedErrorKind.TheVariants as error
use Rattle.js_ordered_table.specs.Fold.{is_over}
use Rattle.js_ordered_table.specs.Poll as ordered
use Rattle.js_ordered_table.specs.Timers as ordered_timers
use Rattle.js_ordered_table.specs.Walk as walks
use Rattle.js_ordered_table.specs.declared.consumer.Phase.{Phase}
use Rattle.js_ordered_table.specs.declared.consumer.Phase.TheVariants.{Pulls, Pushes, Recreates, Idle, Ended, Exhausted}
use Rattle.js_ordered_table.specs.declared.consumer.ReplayInput.{ReplayInput}
use Rattle.js_ordered_table.specs.declared.row.Row.{Row}
use Rattle.js_pull.specs.HeldMessage.{put_back, seen, seen_open}
use Rattle.js_pull.specs.Poll as pull
use Rattle.js_pull.specs.Stream.{position_of, rows_empty, seen_by}
use Rattle.js_pull.specs.Timers as pull_timers
use Rattle.js_pull.specs.declared.reader.MessagesErrorKind.{MessagesErrorKind}
use Rattle.js_pull.specs.declared.reader.Row as pull_row
use Rattle.js_readers.specs.Batch as batches
use Rattle.js_readers.specs.OrderedConsumers.{IsOrderedQuiet}
use Rattle.js_readers.specs.OrderedPolls as orders
use Rattle.js_readers.specs.PushMessages as pushes
use Rattle.js_readers.specs.Rising.{IsRisingQuiet, PollsReader, ReaderPolls, Told, breach_told, due_unless, last_after, rising_due, told_of}
use Rattle.js_readers.specs.Stream.{given_answer}
use Rattle.js_readers.specs.Subscription.{Idles, IdlesIfQuiet}
use Rattle.js_readers.specs.Subscriptions.{IsBatchQuiet, IsPushQuiet, IsRestingAt, IsStreamQuiet, stream_due}
use Rattle.js_readers.specs.declared.ordered.breach.Breach.{Breach}
use Rattle.js_readers.specs.declared.ordered.breach.RisingError.{RisingError}
use Rattle.js_readers.specs.declared.ordered.rising.Rising.{Rising}
use Rattle.js_readers.specs.declared.pull.batch.Batch.{Batch}
use Rattle.js_readers.specs.declared.pull.batch_item.BatchItemError.{BatchItemError}
use Rattle.js_readers.specs.declared.pull.stream.Stream.{Stream}
use Rattle.js_readers.specs.declared.push.messages.Messages.{Messages}
use Rattle.js_readers.specs.declared.push.row.Row.TheVariants.{CheckArrival}

pub false_true : false ≡ true → ⊥
false_true e = cc

-- it waits
abbrev pub is_pending : {T : Type 0} → Next T → Bool
is_pending next.Pending = true
is_pending (next.Item item) = false
is_pending next.End = false
is_pending next.OutOfMemory = false

-- it waits, or lacks memory
abbrev pub is_idle : {T : Type 0} → Next T → Bool
is_idle next.Pending = true
is_idle (next.Item item) = false
is_idle next.End = false
is_idle next.OutOfMemory = true

pub idle_true : {T : Type 0} (answer : Next T) → (answer ≡ next.Pending) ⊎ (answer ≡ next.OutOfMemory) → is_idle answer ≡ true
idle_true answer is = ⊎_elim (λ e. ap is_idle e) (λ e. ap is_idle e) is

pub pending_true : {T : Type 0} (answer : Next T) → answer ≡ next.Pending → is_pending answer ≡ true
pending_true answer is = ap is_pending is

-- ---- one that does nothing but wait, and stays what it was

pub stays_idle : {S A : Type 0} (due : ℕ → S → Bool) (quiet : S → LinkView → Type 0) (old new : S) (v u : LinkView) (answer : Next A) → answer ≡ next.Pending → new ≡ old → u ≡ v → quiet old v
    → Idles due quiet old new v u answer
stays_idle {S = S} due quiet old new v u answer waits stays same left = record {
  answers = inl waits;
  silent = ap (λ (w : LinkView). w.sent) same;
  same = λ e. same;
  still_quiet = λ e. subst (λ (s : S). quiet s u) (sym stays) (subst (λ (w : LinkView). quiet old w) (sym same) left);
  still_due = λ e moment. ap (due moment) stays;
}

pub batch_idles : (now : ℕ) (old new : Batch) (v u : LinkView) (answer : batches.BatchAnswer) → batches.SleepsIfQuiet now old answer new v u
    → IdlesIfQuiet batches.batch_due IsBatchQuiet now old new v u answer
batch_idles now old new v u answer sleeps early left =
    let s = sleeps left early in
    stays_idle batches.batch_due IsBatchQuiet old new v u answer s.waits s.stays s.same left

pub push_idles : (now : ℕ) (old new : Messages) (v u : LinkView) (answer : pushes.PollAnswer) → pushes.SleepsIfLeftAlone now old answer new v u
    → IdlesIfQuiet pushes.something_due IsPushQuiet now old new v u answer
push_idles now old new v u answer sleeps early left =
    let s = sleeps (record { rests = left.rests; early = early; is_open = left.is_open; empty = left.empty }) in
    stays_idle pushes.something_due IsPushQuiet old new v u answer s.waits s.stays s.same left

-- ---- a stream

-- a link on which nothing is seen in an open inbox is what is seen of it
unseen : (held : Option base.Message) (inbox : ℕ) (v x : LinkView) → seen held inbox v ≡ x → x.count inbox ≡ 0 → v ≡ x
unseen None inbox v x is empty = is
unseen (Some message) inbox v x is empty = by_open (v.is_open inbox) is
  where
    by_open : (b : Bool) → seen_open b message inbox v ≡ x → v ≡ x
    by_open false e = e
    by_open true e =
        let one : v.count inbox + 1 ≡ 0 = sym (put_here v.count inbox (v.count inbox + 1)) ∙ ap (λ (w : LinkView). w.count inbox) e ∙ empty in
        absurd (omega (arith, one))

seen_sent : (held : Option base.Message) (inbox : ℕ) (v : LinkView) → (seen held inbox v).sent ≡ v.sent
seen_sent None inbox v = refl
seen_sent (Some message) inbox v = by_open (v.is_open inbox)
  where
    by_open : (b : Bool) → (seen_open b message inbox v).sent ≡ v.sent
    by_open true = refl
    by_open false = refl

-- which answers wait, or lack memory
abbrev waits_or_lacks : pull.PollAnswer → Bool
waits_or_lacks pull.Waits = true
waits_or_lacks pull.Lacks = true
waits_or_lacks _ = false

waits_true : (told : pull.PollAnswer) → (told ≡ pull.Waits) ⊎ (told ≡ pull.Lacks) → waits_or_lacks told ≡ true
waits_true told is = ⊎_elim (λ e. ap waits_or_lacks e) (λ e. ap waits_or_lacks e) is

waited : (answer : Next (Result Message (Error MessagesErrorKind))) → waits_or_lacks (given_answer answer) ≡ true → (answer ≡ next.Pending) ⊎ (answer ≡ next.OutOfMemory)
waited next.Pending told = inl refl
waited next.OutOfMemory told = inr refl
waited next.End told = absurd (false_true told)
waited (next.Item (Ok m)) told = absurd (false_true told)
waited (next.Item (Err f)) told = absurd (false_true told)

-- at rest only a timer is due
at_rest : (now : ℕ) (at : pull.Position) → at.todo ≡ [] → pull_timers.something_due now at ≡ pull_timers.timer_due now at.reader
at_rest now at e = ap (λ (rows : List pull_row.Row). if rows_empty rows then pull_timers.timer_due now at.reader else true) e

pub stream_idles : (now : ℕ) (old new : Stream) (v u : LinkView) (answer : Next (Result Message (Error MessagesErrorKind)))
    → pull_timers.SleepsIfLeftAlone now (position_of old.reader) (position_of new.reader) (seen_by old.reader v) (seen_by new.reader u) (given_answer answer)
    → IdlesIfQuiet stream_due IsStreamQuiet now old new v u answer
stream_idles now old new v u answer sleeps early left =
    let s = sleeps (record {
      rests = left.rests;
      alive = left.alive;
      early = sym (at_rest now (position_of old.reader) left.rests) ∙ early;
      connection = left.connection;
      is_open = left.is_open;
      empty = left.empty;
      unanswered = left.unanswered;
    }) in
    let seen_old = seen_by old.reader v in
    let before : v ≡ seen_old = unseen old.reader.held old.reader.reader.source.inbox v seen_old refl left.empty in
    let place : answer ≡ next.Pending → position_of new.reader ≡ position_of old.reader = λ e. s.stays (ap given_answer e) in
    let link : answer ≡ next.Pending → u ≡ v = λ e.
    unseen new.reader.held new.reader.reader.source.inbox u seen_old s.same
    (ap (λ (p : pull.Position). seen_old.count p.reader.source.inbox) (place e) ∙ left.empty)
    ∙ sym before in
    record {
      answers = waited answer (waits_true (given_answer answer) s.answers);
      silent = sym (seen_sent new.reader.held new.reader.reader.source.inbox u) ∙ ap (λ (w : LinkView). w.sent) s.same ∙ seen_sent old.reader.held old.reader.reader.source.inbox v;
      same = link;
      still_quiet = λ e. subst (λ (p : pull.Position). IsRestingAt p (seen_by new.reader u)) (sym (place e)) (subst (λ (w : LinkView). IsRestingAt (position_of old.reader) w) (sym s.same) left);
      still_due = λ e moment. ap (λ (p : pull.Position). pull_timers.something_due moment p) (place e);
    }

-- ---- an ordered consumer

neither : (todo : List Row) (b : Bool) → is_left todo || b ≡ false → (todo ≡ []) × (b ≡ false)
neither [] b e = (refl, e)
neither (row ∷ rows) b e = absurd (false_true (sym e))

not_due : (now : ℕ) (phase : Phase) (todo : List Row) (v : LinkView) → not (is_over phase) && (is_left todo || ordered_timers.phase_due now phase) ≡ false → ordered_timers.IsUnread phase v
    → (todo ≡ []) × (ordered_timers.phase_due now phase ≡ false)
not_due now (Pulls reader) todo v e unread = neither todo (ordered_timers.phase_due now (Pulls reader)) e
not_due now (Pushes inbox timer) todo v e unread = neither todo (ordered_timers.phase_due now (Pushes inbox timer)) e
not_due now (Recreates r) todo v e unread = neither todo (ordered_timers.phase_due now (Recreates r)) e
not_due now phase todo v e unread = absurd unread

-- which answers wait, or lack memory
abbrev order_idle : ordered.Answer → Bool
order_idle ordered.Waits = true
order_idle ordered.Lacks = true
order_idle _ = false

order_true : (told : ordered.Answer) → (told ≡ ordered.Waits) ⊎ (told ≡ ordered.Lacks) → order_idle told ≡ true
order_true told is = ⊎_elim (λ e. ap order_idle e) (λ e. ap order_idle e) is

-- no error does
errors_tell : (kind : OrderedErrorKind) → order_idle (streams.told_of kind) ≡ false
errors_tell error.MissingHeartbeat = refl
errors_tell error.Pull = refl
errors_tell error.Other = refl
errors_tell error.Recreate = refl
errors_tell error.RequestLimitExceeded = refl
errors_tell error.PushBasedConsumer = refl
errors_tell error.SequenceEnd = refl
errors_tell error.ConsumerDeleted = refl
errors_tell error.StreamNotFound = refl
errors_tell error.NoResponders = refl
errors_tell error.PullBasedConsumer = refl

order_waited : (answer : Next (Result Message (Error OrderedErrorKind))) → order_idle (orders.given_answer answer) ≡ true → (answer ≡ next.Pending) ⊎ (answer ≡ next.OutOfMemory)
order_waited next.Pending told = inl refl
order_waited next.OutOfMemory told = inr refl
order_waited next.End told = absurd (false_true told)
order_waited (next.Item (Ok m)) told = absurd (false_true told)
order_waited (next.Item (Err f)) told = absurd (false_true (sym (errors_tell (kind_of f)) ∙ told))

pub ordered_idles : {S : Type 0} (input : S → ReplayInput) (place : S → walks.Position) (now : ℕ) (old new : S) (v u : LinkView) (answer : Next (Result Message (Error OrderedErrorKind)))
    → input new ≡ input old → ordered_timers.SleepsIfLeftAlone (input old) now (place old) (place new) v u (orders.given_answer answer)
    → IdlesIfQuiet (λ moment s. something_due moment (place s)) (λ s w. IsOrderedQuiet (input s) (place s) w) now old new v u answer
ordered_idles input place now old new v u answer given sleeps early left =
    let none = not_due now (place old).consumer.phase (place old).todo v early left.unread in
    let s = sleeps (record { rests = none.0; early = none.1; connection = left.connection; unread = left.unread }) in
    let stays : answer ≡ next.Pending → place new ≡ place old = λ e. s.stays (ap orders.given_answer e) in
    record {
      answers = order_waited answer (order_true (orders.given_answer answer) s.answers);
      silent = ap (λ (w : LinkView). w.sent) s.same;
      same = λ e. s.same;
      still_quiet = λ e.
          subst (λ (w : LinkView). IsOrderedQuiet (input new) (place new) w) (sym s.same)
          (subst (λ (p : walks.Position). IsOrderedQuiet (input new) p v) (sym (stays e))
          (subst (λ (g : ReplayInput). IsOrderedQuiet g (place old) v) (sym given) left));
      still_due = λ e moment. ap (something_due moment) (stays e);
    }

-- ---- a rising reader

-- a rising reader waits exactly where the reader below does
told_below : {E : Type 0} (last : Option ℕ) (answer : Next (Result Message E)) → is_idle answer ≡ true → ((told_of last answer) ≡ next.Pending) ⊎ ((told_of last answer) ≡ next.OutOfMemory)
told_below last next.Pending is = inl refl
told_below last next.OutOfMemory is = inr refl
told_below last next.End is = absurd (false_true is)
told_below last (next.Item item) is = absurd (false_true is)

waits_below : {E : Type 0} (last : Option ℕ) (answer : Next (Result Message E)) → is_idle answer ≡ true → is_pending (told_of last answer) ≡ true → answer ≡ next.Pending
waits_below last next.Pending is e = refl
waits_below last next.OutOfMemory is e = absurd (false_true e)
waits_below last next.End is e = absurd (false_true is)
waits_below last (next.Item item) is e = absurd (false_true is)

-- what the reader below answered was told
pub rising_polls : {R E : Type 0} (polls : ReaderPolls R E) (now : ℕ) (old new : Rising R) (reader : R) (v u : LinkView) (answer : Next (Result Message E)) (told : Told E)
    → polls now old.reader reader v u answer → new.reader ≡ reader → told ≡ told_of old.last answer → new.last ≡ last_after old.last told → new.breach ≡ breach_told told
    → PollsReader polls now old new v u told
rising_polls {R = R} polls now old new reader v u answer told polled is handed last breach = record {
  answer = answer;
  polled = subst (λ (r : R). polls now old.reader r v u answer) (sym is) polled;
  handed = handed;
  last = last;
  breach = breach;
}

pub rising_idles : {R E : Type 0} (due : ℕ → R → Bool) (quiet : R → LinkView → Type 0) (now : ℕ) (old new : Rising R) (reader : R) (v u : LinkView) (answer : Next (Result Message E)) (told : Told E)
    → IdlesIfQuiet due quiet now old.reader reader v u answer → new.reader ≡ reader → told ≡ told_of old.last answer → new.breach ≡ breach_told told
    → IdlesIfQuiet (rising_due due) (IsRisingQuiet quiet) now old new v u told
rising_idles {R = R} {E = E} due quiet now old new reader v u answer told idles is handed breach early left =
    let early_below : due now old.reader ≡ false = sym (ap (λ (b : Option Breach). due_unless b (due now old.reader)) left.none) ∙ early in
    let below = idles early_below left.below in
    let idle : is_idle answer ≡ true = idle_true answer below.answers in
    let waits : told ≡ next.Pending → answer ≡ next.Pending = λ e. waits_below old.last answer idle (pending_true (told_of old.last answer) (sym handed ∙ e)) in
    let whole : told ≡ next.Pending → new.breach ≡ None = λ e. breach ∙ ap (breach_told {E = E}) e in
    record {
      answers = subst (λ (t : Told E). (t ≡ next.Pending) ⊎ (t ≡ next.OutOfMemory)) (sym handed) (told_below old.last answer idle);
      silent = below.silent;
      same = λ e. below.same (waits e);
      still_quiet = λ e. record { none = whole e; below = subst (λ (r : R). quiet r u) (sym is) (below.still_quiet (waits e)) };
      still_due = λ e moment.
          ap (λ (b : Option Breach). due_unless b (due moment new.reader)) (whole e)
          ∙ ap (due moment) is ∙ below.still_due (waits e) moment
          ∙ sym (ap (λ (b : Option Breach). due_unless b (due moment old.reader)) left.none);
    }

-- after a breach it is not quiet
pub breached_idles : {R E : Type 0} (due : ℕ → R → Bool) (quiet : R → LinkView → Type 0) (now : ℕ) (old new : Rising R) (v u : LinkView) (breach : Breach) (told : Told E)
    → old.breach ≡ Some breach → IdlesIfQuiet (rising_due due) (IsRisingQuiet quiet) now old new v u told
breached_idles due quiet now old new v u breach told is early left = absurd (let no : Some breach ≡ None = sym is ∙ left.none in cc)
