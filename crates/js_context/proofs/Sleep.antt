-- An ack that is left alone is what it was.
use Rattle.std.proofs.Common.{◌≡◌, ℕ, Option, Some, None, refl, sym, ◌∙◌, ap, subst}
use Rattle.js_base.specs.declared.message.Message.{Message}
use Rattle.js_base.specs.declared.turn.Turn.TheVariants.{Pending}
use Rattle.js_link.specs.LinkView.{LinkView}
use Rattle.js_call.specs.RawCall.{Shows}
use Rattle.js_call.specs.Wakes.{Sleeps}
use Rattle.js_call.specs.declared.open_request.Shown.{Shown}
use Rattle.js_call.proofs.Sleeps.{still}
use Rattle.js_context.specs.declared.ack_future.Clock.{Clock}
use Rattle.js_context.specs.declared.ack_future.PublishAckFuture.{PublishAckFuture}
use Rattle.js_context.specs.AckFuture.{AckTurn, AckTurns}
use Rattle.js_context.specs.AckClock.{started, timed}
use Rattle.js_context.specs.Context.{ContextView}
use Rattle.js_context.specs.AckTimers.{ack_waits_for, unless_kept}

by_clock : (f : PublishAckFuture) (now wait : ℕ) (left : Option Message) (began : Clock) (shown : Shown) (turn : AckTurn) (c d : ContextView) (old new : LinkView) (clock : Option Clock)
    → left ≡ f.reply → f.clock ≡ clock → began ≡ started clock now wait → Shows (timed f.request began) now shown old new
    → AckTurns (record f { reply = left; clock = Some began }) shown turn c d → Sleeps (unless_kept None clock f.request) now f turn old new
by_clock f now wait left began shown turn c d old new None same_reply is begins shows turns = λ alone. absurd alone
by_clock f now wait left began shown turn c d old new (Some clock) same_reply is begins shows turns = λ alone.
    let (waits, same) = still (timed f.request clock) now shown old new (subst (λ (k : Clock). Shows (timed f.request k) now shown old new) begins shows) alone in
    let (pends, context) = subst (λ (s : Shown). AckTurns (record f { reply = left; clock = Some began }) s turn c d) waits turns in (
      pends ∙ ap (λ (k : Option Clock). Pending (record f { reply = left; clock = k })) (ap Some begins ∙ sym is)
          ∙ ap (λ (r : Option Message). Pending (record f { reply = r })) same_reply,
      same,
    )

-- a look at an ack whose reply was not kept
pub sleeps : (f : PublishAckFuture) (now wait : ℕ) (left : Option Message) (began : Clock) (shown : Shown) (turn : AckTurn) (c d : ContextView) (old new : LinkView)
    → f.reply ≡ None → left ≡ None → began ≡ started f.clock now wait → Shows (timed f.request began) now shown old new
    → AckTurns (record f { reply = left; clock = Some began }) shown turn c d → Sleeps (ack_waits_for f) now f turn old new
sleeps f now wait left began shown turn c d old new none taken begins shows turns =
    subst (λ (r : Option Message). Sleeps (unless_kept r f.clock f.request) now f turn old new) (sym none)
    (by_clock f now wait left began shown turn c d old new f.clock (taken ∙ sym none) refl begins shows turns)
