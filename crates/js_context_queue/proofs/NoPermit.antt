-- A try of a message that lacks a permit gets none, whatever the context does with one that waits.
use Rattle.std.proofs.Common.{◌≡◌, Bool, true, false, inl, inr, refl, ap, subst}
use Rattle.js_base.specs.Error.{plain}
use Rattle.js_base.specs.declared.error.Error.{Error}
use Rattle.js_link.specs.LinkView.{LinkView}
use Rattle.js_link.specs.Calls.{RefusedSend}
use Rattle.js_link.specs.declared.link.LinkError.{LinkError}
use Rattle.js_link.specs.declared.link.LinkError.TheVariants as link
use Rattle.js_message.specs.declared.publish_message.OutboundMessage.{OutboundMessage}
use Rattle.js_context.proofs.Permits.{gets_none_if_full}
use Rattle.js_context.specs.Context.{ContextView}
use Rattle.js_context.specs.Publish.{sending}
use Rattle.js_context.specs.Sending.{Attempts, GetsNone as PollGetsNone, IsBarred, answer_to}
use Rattle.js_context.specs.declared.publish_error.PublishErrorKind.{PublishErrorKind}
use Rattle.js_context.specs.declared.publish_error.PublishErrorKind.TheVariants as kind
use Rattle.js_context.specs.declared.sending.Attempt.{Attempt}
use Rattle.js_context.specs.declared.sending.Attempt.TheVariants.{Barred, NoRoom, Full, Unsent, Went}
use Rattle.js_context_queue.specs.SendAttempt.{GetsNone, GetsNoneIfFull, IsTriedInVain}
use Rattle.js_context_queue.specs.declared.send_attempt.SendResult.{SendResult}
use Rattle.js_context_queue.specs.declared.send_attempt.SendResult.TheVariants as tried

-- what a queue makes of what a try came to
abbrev pub tried_of : Attempt → SendResult
tried_of (Went future) = tried.Went future
tried_of Full = tried.Stays kind.MaxAckPending
tried_of (Barred why) = tried.Fails (plain why)
tried_of NoRoom = tried.NoMemory
tried_of (Unsent link.Failed) = tried.Stays kind.Other
tried_of (Unsent link.OutOfMemory) = tried.NoMemory

never_full : kind.Other ≡ kind.MaxAckPending → ⊥
never_full e = cc

by_answer : (m : OutboundMessage) (met : Attempt) (backpressure : Bool) (c d : ContextView) (old new : LinkView) → Attempts m met c d old new
    → PollGetsNone (sending m) (answer_to (sending m) backpressure met) c d × (new ≡ old) → GetsNone (tried_of met) c d × (new ≡ old)
by_answer m (Went future) backpressure c d old new tries (none, stays) = absurd none
by_answer m Full true c d old new tries ((is, on, takes), stays) = (takes, stays)
by_answer m Full false c d old new tries ((is, off, takes), stays) = (takes, stays)
by_answer m (Barred why) backpressure c d old new (same, stays, barred) ((is, off, takes), link) =
    absurd (subst (λ (k : PublishErrorKind). IsBarred k m old) (ap (λ (e : Error PublishErrorKind). e.kind) is) barred)
by_answer m NoRoom backpressure c d old new tries ((is, same), stays) = (same, stays)
by_answer m (Unsent link.Failed) backpressure c d old new tries ((is, off, takes), stays) = absurd (never_full (ap (λ (e : Error PublishErrorKind). e.kind) is))
by_answer m (Unsent link.OutOfMemory) backpressure c d old new tries ((is, same), stays) = (same, stays)

pub has_none : (m : OutboundMessage) (met : Attempt) (c d : ContextView) (old new : LinkView) → Attempts m met c d old new → GetsNoneIfFull m (tried_of met) c d old new
has_none m met c d old new tries = λ lacks.
    by_answer m met c.settings.backpressure c d old new tries
    (gets_none_if_full (sending m) met c.settings.backpressure (answer_to (sending m) c.settings.backpressure met) c d old new refl tries refl lacks)

-- the same of one that the link did not send
pub unsent_has_none : (m : OutboundMessage) (error is : LinkError) (c d : ContextView) (old new : LinkView) → error ≡ is → Attempts m (Unsent error) c d old new → GetsNoneIfFull m (tried_of (Unsent is)) c d old new
unsent_has_none m error is c d old new same tries =
    has_none m (Unsent is) c d old new (subst (λ (e : LinkError). Attempts m (Unsent e) c d old new) same tries)

-- a message that found no permit, or a link that failed, was tried in vain
pub full_in_vain : (m : OutboundMessage) (c d : ContextView) (old new : LinkView) → Attempts m Full c d old new → IsTriedInVain m c d old new
full_in_vain m c d old new (makes, same, link, sendable) = record { sendable = sendable; found = inl ((makes, same), link) }

pub unsent_in_vain : (m : OutboundMessage) (error : LinkError) (c d : ContextView) (old new : LinkView) → error ≡ link.Failed → Attempts m (Unsent error) c d old new → IsTriedInVain m c d old new
unsent_in_vain m error c d old new is (gives, refused, sendable) = record {
  sendable = sendable;
  found = inr (gives, subst (λ (e : LinkError). RefusedSend e old new) is refused);
}
