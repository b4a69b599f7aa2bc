-- A queue that is left alone is what it was.
use Rattle.std.proofs.Common.{◌≡◌, ℕ, false, Option, Some, None, List, [], ◌∷◌, length, inl, inr, refl, sym, ap, ◌∙◌, subst, arith}
use Rattle.std.specs.Prelude.{All}
use Rattle.js_base.specs.declared.message.Message.{Message}
use Rattle.js_base.specs.declared.turn.Next.{Next}
use Rattle.js_base.specs.declared.turn.Turn.TheVariants.{Pending, Ready}
use Rattle.js_link.specs.LinkView.{LinkView}
use Rattle.js_call.specs.declared.open_request.OpenRequest.{OpenRequest}
use Rattle.js_call.specs.declared.open_request.Shown.{Shown}
use Rattle.js_call.specs.declared.open_request.Shown.TheVariants.{Came, Gone, Due, Still}
use Rattle.js_call.specs.Wakes.{IsLeftAlone, IsSent}
use Rattle.js_context.specs.declared.ack_future.Clock.{Clock}
use Rattle.js_context.specs.declared.ack_future.PublishAckFuture.{PublishAckFuture}
use Rattle.js_context.specs.AckFuture.{Acked, AckPolled, AckTurn, AckTurns, clock_at}
use Rattle.js_context.specs.Context.{ContextView}
use Rattle.js_context.specs.AckTimers.{ack_waits_for, unless_kept}
use Rattle.js_context_queue.specs.declared.published.Published.{Published}
use Rattle.js_context_queue.specs.declared.step_result.StepResult.{StepResult}
use Rattle.js_context_queue.specs.declared.step_result.StepResult.TheVariants as steps
use Rattle.js_context_queue.specs.declared.unsent.Unsent.{Unsent}
use Rattle.js_context_queue.specs.InFlight.{waits_of}
use Rattle.js_context_queue.specs.Queue.{QueueView}
use Rattle.js_context_queue.specs.LeftAlone.{CanSendNone, IsAsItWas, IsQueueLeftAlone, LooksOnAtNothing, QueueSleeps, SendsNothing}
use Rattle.js_context_queue.specs.Steps.{TriesFirst}
use Rattle.js_context_queue.specs.Wakes.{is_first_over, is_one_due}
use Rattle.js_context_queue.proofs.Rounds.{alone_all, either_false}

-- ---- one ack

pending_is : (x y : PublishAckFuture) (s t : AckTurn) → s ≡ Pending x → t ≡ Pending y → s ≡ t → x ≡ y
pending_is x y s t is other same = cc

-- an ack that is pending after a poll has its clock
by_shown : (f next : PublishAckFuture) (clock : Clock) (shown : Shown) (c d : ContextView) → f.reply ≡ None → AckTurns (record f { clock = Some clock }) shown (Pending next) c d → IsSent (ack_waits_for next)
by_shown f next clock (Came message) c d none turns = absurd turns
by_shown f next clock Gone c d none turns = absurd (never turns.ready)
  where
    never : {x : PublishAckFuture} {y : Acked} → Pending x ≡ Ready y → ⊥
    never e = cc
by_shown f next clock Due c d none turns = absurd (never turns.ready)
  where
    never : {x : PublishAckFuture} {y : Acked} → Pending x ≡ Ready y → ⊥
    never e = cc
by_shown f next clock Still c d none turns =
    subst (λ (n : PublishAckFuture). IsSent (ack_waits_for n)) (sym (pending_is next (record f { clock = Some clock }) _ _ refl refl turns.0))
    (subst (λ (r : Option Message). IsSent (unless_kept r (Some clock) f.request)) (sym none) tt)

pub pending_is_sent : (f next : PublishAckFuture) (now : ℕ) (c d : ContextView) (old new : LinkView) (reply : Option Message) → f.reply ≡ reply → AckPolled reply f now (Pending next) c d old new
    → IsSent (ack_waits_for next)
pending_is_sent f next now c d old new (Some message) is (same, reads) = absurd reads
pending_is_sent f next now c d old new None is (shown, shows, turns) = by_shown f next (clock_at f now c) shown c d is turns

-- ---- a step that sends nothing

-- nothing was done
pub untouched : (unsent : List Unsent) (p q : QueueView) → q ≡ p → IsAsItWas unsent p q
untouched [] p q same = same
untouched (first ∷ more) p q same = inl same

-- what such a step leaves
pub left_as_it_was : (unsent : List Unsent) (p q : QueueView) → IsAsItWas unsent p q → (q.unsent ≡ p.unsent) × (waits_of q.in_flight ≡ waits_of p.in_flight)
left_as_it_was [] p q same = (ap (λ (z : QueueView). z.unsent) same, ap (λ (z : QueueView). waits_of z.in_flight) same)
left_as_it_was (first ∷ more) p q (inl same) = (ap (λ (z : QueueView). z.unsent) same, ap (λ (z : QueueView). waits_of z.in_flight) same)
left_as_it_was (first ∷ more) p q (inr asked) = (ap (λ (z : QueueView). z.unsent) asked.same, ap (λ (z : QueueView). waits_of z.in_flight) asked.same)

-- the same, of a step after which nothing had changed before
pub steps_on : (now : ℕ) (step : StepResult) (old mid new : QueueView) (before between after : LinkView) → mid ≡ old → between ≡ before → SendsNothing now step mid new between after
    → SendsNothing now step old new before after
steps_on now step old mid new before between after same link sends = subst (λ (z : QueueView × LinkView). SendsNothing now step z.0 new z.1 after) (λ i. (same i, link i)) sends

-- so that it is no step that sends the first message
pub goes_not_on : (now : ℕ) (old mid new : QueueView) (before between after : LinkView) → mid ≡ old → between ≡ before → TriesFirst now steps.Made mid new between after → SendsNothing now steps.Made mid new between after
    → CanSendNone old.unsent old.context before → is_first_over old.send_timeout old.unsent now ≡ false → ⊥
goes_not_on now old mid new before between after same link sent sends none early =
    let first = subst (λ (q : QueueView). TriesFirst now steps.Made q new between after) same sent in
    let (quiet, still, stays) = steps_on now steps.Made old mid new before between after same link sends none early in
    omega (arith, ap length first.was, ap length (left_as_it_was old.unsent old new stays).0)

-- ---- a poll

pub first_early : (now : ℕ) (q : QueueView) (v : LinkView) → IsQueueLeftAlone now q v → is_first_over q.send_timeout q.unsent now ≡ false
first_early now q v alone = (either_false (is_first_over q.send_timeout q.unsent now) (is_one_due (waits_of q.in_flight) now) alone.early).0

pub sleeps_on : (now : ℕ) (step : StepResult) (result : Next Published) (old mid new : QueueView) (before between after : LinkView) → IsQueueLeftAlone now old before → SendsNothing now step old mid before between
    → LooksOnAtNothing now result mid new between after → QueueSleeps old new before after result
sleeps_on now step result old mid new before between after alone sends looks =
    let (first, acks) = either_false (is_first_over old.send_timeout old.unsent now) (is_one_due (waits_of old.in_flight) now) alone.early in
    let (none, link, stays) = sends alone.sends_none first in
    let here = subst (λ (v : LinkView). All (λ sent. IsLeftAlone sent now v) (waits_of mid.in_flight)) (sym link)
    (subst (λ (w : List (Option OpenRequest)). All (λ sent. IsLeftAlone sent now before) w) (sym (left_as_it_was old.unsent old mid stays).1) (alone_all now before (waits_of old.in_flight) acks alone.unanswered)) in
    let (quiet, still, same) = looks here in
    record { quiet = quiet; link = still ∙ link; same = subst (λ (q : QueueView). IsAsItWas old.unsent old q) (sym same) stays }
