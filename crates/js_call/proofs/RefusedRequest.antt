-- What a request that was not sent leaves of the link.
use Rattle.std.proofs.Common.{◌≡◌, ℕ, List, Option, Some, None, Result, Ok, Err, sym, ap, subst, ◌∙◌, inl, inr}
use Rattle.js_link.specs.LinkView.{LinkView, HasRisen}
use Rattle.js_link.specs.Calls.{RefusedSend}
use Rattle.js_link.specs.declared.link.LinkError.{LinkError}
use Rattle.js_link.specs.declared.link.LinkError.TheVariants.{Failed, OutOfMemory}
use Rattle.js_call.specs.declared.error.SendError.{SendError}
use Rattle.js_call.specs.SendRequest.{sent_error, RepliesOf, NamesAtMostOne, RefusesRequest}

-- no subject was named
pub named_none : (inbox : Option (List ℕ)) (old new : LinkView) → new ≡ old → NamesAtMostOne inbox old new
named_none None old new same = inl same
named_none (Some inbox) old new same = same

-- one was named, where the request has no inbox
named_one : (inbox : Option (List ℕ)) (reply : List ℕ) (old new : LinkView) → RepliesOf (Ok reply) inbox old new → NamesAtMostOne inbox old new
named_one None reply old new named = inr named.same
named_one (Some inbox) reply old new named = named.1

replies_none : (inbox : Option (List ℕ)) (e : LinkError) (old new : LinkView) → RepliesOf (Err e) inbox old new → RefusesRequest (sent_error e) inbox old new
replies_none None Failed old new named = record { risen = named.fails.risen; same = inl named.fails.same }
replies_none None OutOfMemory old new named = inl named
replies_none (Some inbox) e old new named = absurd named

-- no subject was found to which the answer goes
pub no_reply : (inbox : Option (List ℕ)) (e : LinkError) (told : SendError) (old new : LinkView)
    → told ≡ sent_error e → RepliesOf (Err e) inbox old new → RefusesRequest told inbox old new
no_reply inbox e told old new is named =
    subst (λ (t : SendError). RefusesRequest t inbox old new) (sym is) (replies_none inbox e old new named)

publishes_none : (inbox : Option (List ℕ)) (reply : List ℕ) (e : LinkError) (old between new : LinkView)
    → RepliesOf (Ok reply) inbox old between → RefusedSend e between new → RefusesRequest (sent_error e) inbox old new
publishes_none None reply Failed old between new named refused = record {
  risen = subst (λ (v : LinkView). HasRisen v.faults new.faults) named.same refused.fails.risen;
  same = inr (refused.fails.same ∙ ap (λ (v : LinkView). record v { faults = new.faults }) named.same);
}
publishes_none (Some inbox) reply Failed old between new named refused = record {
  risen = subst (λ (v : LinkView). HasRisen v.faults new.faults) named.1 refused.fails.risen;
  same = refused.fails.same ∙ ap (λ (v : LinkView). record v { faults = new.faults }) named.1;
}
publishes_none None reply OutOfMemory old between new named refused =
    subst (λ (v : LinkView). NamesAtMostOne None old v) (sym refused) (named_one None reply old between named)
publishes_none (Some inbox) reply OutOfMemory old between new named refused = refused ∙ named.1

-- the link did not publish
pub not_published : (inbox : Option (List ℕ)) (reply : List ℕ) (e : LinkError) (told : SendError) (old between new : LinkView)
    → told ≡ sent_error e → RepliesOf (Ok reply) inbox old between → RefusedSend e between new → RefusesRequest told inbox old new
not_published inbox reply e told old between new is named refused =
    subst (λ (t : SendError). RefusesRequest t inbox old new) (sym is) (publishes_none inbox reply e old between new named refused)
