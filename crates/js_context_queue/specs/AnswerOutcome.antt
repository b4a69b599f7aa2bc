-- What a server answered to a message is what is told of it.
use Rattle.std.specs.Prelude.{ℕ, ◌≡◌, Option, Some, None, IfSome, [], ◌∷◌, refl}
use Rattle.std.proofs.Common.{sym, ap, ◌∙◌, subst}
use Rattle.js_base.specs.declared.message.Message.{Message}
use Rattle.js_base.specs.declared.turn.Turn.TheVariants.{Ready}
use Rattle.js_link.specs.LinkView.{LinkView, Status, Waits, Answered, Ended}
use Rattle.js_call.specs.RawCall.{Shows}
use Rattle.js_call.specs.declared.open_request.Shown.{Shown}
use Rattle.js_call.specs.declared.open_request.Shown.TheVariants.{Came, Gone, Due, Still}
use Rattle.js_context.specs.AckFuture.{Acked, AckPolled, AckTurns, ack_of, clock_at}
use Rattle.js_context.specs.AckClock.{timed}
use Rattle.js_context.specs.Context.{ContextView}
use Rattle.js_context.specs.declared.ack_future.Clock.{Clock}
use Rattle.js_context.specs.declared.ack_future.PublishAckFuture.{PublishAckFuture}
use Rattle.js_context_queue.specs.declared.published.Published.{Published}
use Rattle.js_context_queue.specs.declared.unsent.Unsent.{Unsent}
use Rattle.js_context_queue.specs.QueuePoll.{IsLeftOf}
use Rattle.js_context_queue.specs.Queue.{QueueView}
use Rattle.js_context_queue.specs.Steps.{Settles}

-- of three messages two have gone
two_are_gone : (a b c : Unsent) → IsLeftOf (a ∷ b ∷ c ∷ []) (c ∷ [])
two_are_gone a b c = record { gone = a ∷ b ∷ []; is = refl }

not_ended : (status : Status) → status ≡ Answered → status ≡ Ended → ⊥
not_ended status is other = cc

not_waiting : (status : Status) → status ≡ Answered → status ≡ Waits → ⊥
not_waiting status is other = cc

not_kept : (reply : Message) → Some reply ≡ None → ⊥
not_kept reply is = cc

told_at : (f : PublishAckFuture) (clock : Clock) (now : ℕ) (shown : Shown) (outcome : Acked) (c d : ContextView) (v w : LinkView) (answer : Message) → v.status f.request.0 ≡ Answered
    → v.reply f.request.0 ≡ Some answer → Shows (timed f.request clock) now shown v w → AckTurns (record f { clock = Some clock }) shown (Ready outcome) c d → outcome ≡ ack_of answer
told_at f clock now (Came message) outcome c d v w answer came tells shows turns =
    turns.0 ∙ ap ack_of (sym (subst (λ (told : Option Message). IfSome told (λ m. m ≡ message)) tells shows.told))
told_at f clock now Gone outcome c d v w answer came tells shows turns = absurd (not_ended _ came shows.1)
told_at f clock now Due outcome c d v w answer came tells shows turns = absurd (not_waiting _ came shows.1)
told_at f clock now Still outcome c d v w answer came tells shows turns = absurd (not_waiting _ came shows.1)

told_by : (reply : Option Message) (f : PublishAckFuture) (now : ℕ) (outcome : Acked) (c d : ContextView) (v w : LinkView) (answer : Message) → reply ≡ None → v.status f.request.0 ≡ Answered
    → v.reply f.request.0 ≡ Some answer → AckPolled reply f now (Ready outcome) c d v w → outcome ≡ ack_of answer
told_by (Some kept) f now outcome c d v w answer none came tells polled = absurd (not_kept kept none)
told_by None f now outcome c d v w answer none came tells (shown, shows, turns) = told_at f (clock_at f now c) now shown outcome c d v w answer came tells shows turns

-- Where the answer to a message has come, and the link tells it, the outcome is what the answer means: of a stored message where it is stored, and never that it failed.
pub answer_is_told : (now : ℕ) (published : Published) (old new : QueueView) (before after : LinkView) (answer : Message) (s : Settles now published old new before after) → s.ack.future.reply ≡ None
    → before.status s.ack.future.request.0 ≡ Answered → before.reply s.ack.future.request.0 ≡ Some answer → published.outcome ≡ ack_of answer
answer_is_told now published old new before after answer s none came tells =
    told_by s.ack.future.reply s.ack.future now published.outcome old.context new.context before after answer none came tells s.polled
