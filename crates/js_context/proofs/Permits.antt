-- A caller that holds all permits of its window gets none.
use Rattle.std.proofs.Common.{◌≡◌, ℕ, zero, suc, ◌+◌, ◌≤◌, ◌<◌, Bool, true, false, List, [], ◌∷◌, ◌++◌, refl, sym, ap, ◌∙◌, subst, arith}
use Rattle.js_link.specs.LinkView.{LinkView}
use Rattle.js_message.specs.declared.publish_message.OutboundMessage.{OutboundMessage}
use Rattle.js_window.specs.Caller.{Caller, Makes, WindowId, held}
use Rattle.js_window.specs.History.{IsLegal, calls_by, entry, given_in, got_in, out_after}
use Rattle.js_window.specs.declared.history.Call.TheVariants.{Give, Got}
use Rattle.js_window.specs.declared.history.Entry.{Entry}
use Rattle.js_window.proofs.Histories.{calls_by-push-own, given_in-append, got_in-append, legal-prefix, legal-push, out_after-push-give, out_after-push-got}
use Rattle.js_context.specs.declared.publish_error.PublishErrorKind.{PublishErrorKind}
use Rattle.js_context.specs.declared.publish_error.PublishErrorKind.TheVariants as kind
use Rattle.js_context.specs.declared.sending.Attempt.{Attempt}
use Rattle.js_context.specs.declared.sending.Attempt.TheVariants.{Barred, NoRoom, Full, Unsent, Went}
use Rattle.js_context.specs.declared.sending.Sending.{Sending}
use Rattle.js_context.specs.Context.{ContextView}
use Rattle.js_context.specs.Sending.{Attempts, GetsNone, GetsNoneIfFull, IsBarred, IsSendable, LacksPermit, SendTurn, answer_to}

-- a caller holds no more than are out: it could give all of them back
held_within : (out capacity n : ℕ) (h : List Entry) → IsLegal capacity h → out_after (calls_by n h) ≡ out → out ≤ out_after h
held_within zero capacity n h legal is = omega arith
held_within (suc out) capacity n h legal is =
    let has_one : 0 < out_after (calls_by n h) = omega (arith, is) in
    let mine : calls_by n (h ++ entry n Give ∷ []) ≡ calls_by n h ++ entry n Give ∷ [] = calls_by-push-own n Give h in
    let one_less : out_after (calls_by n (h ++ entry n Give ∷ [])) ≡ out =
    omega (arith, is, ap got_in mine, ap given_in mine, got_in-append (calls_by n h) (entry n Give ∷ []), given_in-append (calls_by n h) (entry n Give ∷ [])) in
    omega (arith, held_within out capacity n (h ++ entry n Give ∷ []) (legal-push capacity h n Give legal has_one) one_less, out_after-push-give capacity h n legal has_one)

gets_none : (p q : Caller) → p.window.capacity ≤ held p → Makes Got p q → ⊥
gets_none p q all m =
    let legal : IsLegal p.window.capacity q.seen = subst (λ (w : WindowId). IsLegal w.capacity q.seen) m.goes_on.window m.goes_on.legal in
    let before = legal-prefix p.window.capacity m.before q.seen (entry p.number Got ∷ [], sym m.last) legal in
    let out : out_after q.seen ≡ out_after m.before + 1 = ap out_after m.last ∙ out_after-push-got p.window.capacity m.before p.number before in
    let mine : held q ≤ out_after q.seen = held_within (held q) p.window.capacity q.number q.seen legal (ap out_after m.goes_on.own) in
    omega (arith, all, m.holds, out, mine, m.cause)

not_barred : (why : PublishErrorKind) (m : OutboundMessage) (v : LinkView) → IsSendable m v → IsBarred why m v → ⊥
not_barred kind.Other m v ok barred = never (sym ok.subject ∙ barred)
  where
    never : true ≡ false → ⊥
    never e = cc
not_barred kind.MaxPayloadExceeded m v ok (valid, long) = omega (arith, ok.short, long)
not_barred kind.StreamNotFound m v ok barred = barred
not_barred kind.TimedOut m v ok barred = barred
not_barred kind.BrokenPipe m v ok barred = barred
not_barred kind.WrongLastMessageId m v ok barred = barred
not_barred kind.WrongLastSequence m v ok barred = barred
not_barred kind.MaxAckPending m v ok barred = barred

by_try : (s : Sending) (met : Attempt) (backpressure : Bool) (c d : ContextView) (old new : LinkView) → c.settings.backpressure ≡ backpressure → LacksPermit s.message c old
    → Attempts s.message met c d old new → GetsNone s (answer_to s backpressure met) c d × (new ≡ old)
by_try s (Barred why) backpressure c d old new is lacks (same, link, barred) = absurd (not_barred why s.message old lacks.sendable barred)
by_try s NoRoom backpressure c d old new is lacks (same, link, sendable) = ((refl, same), link)
by_try s Full true c d old new is lacks (makes, same, link, sendable) = ((refl, is, (makes, same)), link)
by_try s Full false c d old new is lacks (makes, same, link, sendable) = ((refl, is, (makes, same)), link)
by_try s (Unsent error) backpressure c d old new is lacks (gives, refused, sendable) = absurd (gets_none c.pass gives.between lacks.holds_all gives.takes)
by_try s (Went future) backpressure c d old new is lacks (sends, sendable) = absurd (gets_none c.pass d.pass lacks.holds_all sends.takes)

-- the answer to what a try came to
pub gets_none_if_full : (s : Sending) (met : Attempt) (backpressure : Bool) (turn : SendTurn) (c d : ContextView) (old new : LinkView) → backpressure ≡ c.settings.backpressure
    → Attempts s.message met c d old new → turn ≡ answer_to s backpressure met → GetsNoneIfFull s turn c d old new
gets_none_if_full s met backpressure turn c d old new is tries answers = λ lacks.
    subst (λ (t : SendTurn). GetsNone s t c d × (new ≡ old)) (sym answers) (by_try s met backpressure c d old new (sym is) lacks tries)
