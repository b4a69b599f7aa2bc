-- How often a tag stands among the tags of a queue, before and after a step.
use Rattle.std.proofs.Common.{◌≡◌, ℕ, ◌+◌, ◌<◌, List, [], ◌∷◌, ◌++◌, refl, sym, ap, ◌∙◌, arith, cond, append_assoc, ⊎_elim}
use Rattle.std.proofs.lemmas.Bool.Decides.{eqb_tells}
use Rattle.std.proofs.lemmas.List.Elements.{All-append, All-head, All-map, All-tail}
use Rattle.std.proofs.lemmas.List.Sums.{sum_by-append, sum_by-cons}
use Rattle.std.specs.Prelude.{All, ◌==◌}
use Rattle.js_link.specs.LinkView.{LinkView}
use Rattle.js_context.specs.Context.{ContextView}
use Rattle.js_context_queue.specs.declared.in_flight.InFlight.{InFlight}
use Rattle.js_context_queue.specs.declared.unsent.Unsent.{Unsent}
use Rattle.js_context_queue.specs.declared.step_result.StepResult.{StepResult}
use Rattle.js_context_queue.specs.declared.step_result.StepResult.TheVariants.{Made, Stays, Over, NoMemory}
use Rattle.js_context_queue.specs.Queue.{QueueView, IsQueue, EachHasOne, Keeps, times, waiting_tags}
use Rattle.js_context_queue.specs.Steps.{Looks, TriesFirst, outcome_of}
use Rattle.js_context_queue.specs.InFlight.{tags_of}

pub times-append : (tag : ℕ) (xs ys : List ℕ) → times tag (xs ++ ys) ≡ times tag xs + times tag ys
times-append tag xs ys = sum_by-append (λ t. cond (t == tag) 1 0) xs ys

-- one tag in front, and the same behind
times-front : (tag t : ℕ) (xs : List ℕ) → times tag (t ∷ xs) ≡ times tag (t ∷ []) + times tag xs
times-front tag t xs = times-append tag (t ∷ []) xs

-- a tag that is not below a bound stands not among those that are
not_here : (tag x n : ℕ) → x < tag → n ≡ 0 → cond (x == tag) 1 0 + n ≡ 0
not_here tag x n below none = ⊎_elim (λ h. absurd (omega (arith, h.1))) (λ h. rw (h.0, none) refl) (eqb_tells x tag)

pub times-none : (tag : ℕ) (xs : List ℕ) → All (λ t. t < tag) xs → times tag xs ≡ 0
times-none tag [] below = refl
times-none tag (x ∷ xs) below =
    let h : x < tag = All-head (λ t. t < tag) x xs below in
    let rest : times tag xs ≡ 0 = times-none tag xs (All-tail (λ t. t < tag) x xs below) in
    sum_by-cons (λ t. cond (t == tag) 1 0) x xs ∙ not_here tag x _ h rest

-- nothing has gone on, or one thing after the other
pub each_same : (p q : QueueView) → q.unsent ≡ p.unsent → q.in_flight ≡ p.in_flight → EachHasOne [] p q
each_same p q u f = λ tag. rw (u, f) refl

pub each_then : (outcomes : List ℕ) (p q r : QueueView) → EachHasOne [] p q → EachHasOne outcomes q r → EachHasOne outcomes p r
each_then outcomes p q r a b = λ tag. a tag ∙ b tag

-- the first that waits has gone in flight
went : (tag t : ℕ) (flight waiting : List ℕ) → times tag (flight ++ t ∷ waiting) ≡ times tag ((flight ++ t ∷ []) ++ waiting)
went tag t flight waiting = ap (times tag) (sym (append_assoc flight (t ∷ []) waiting))

-- the first that waits is over
over : (tag t : ℕ) (flight waiting : List ℕ) → times tag (flight ++ t ∷ waiting) ≡ times tag (t ∷ (flight ++ waiting))
over tag t flight waiting = omega (arith, times-append tag flight (t ∷ waiting), times-append tag flight waiting, times-front tag t waiting, times-front tag t (flight ++ waiting))

-- the first in flight went behind the others
behind : (tag t : ℕ) (rest waiting : List ℕ) → times tag ((t ∷ rest) ++ waiting) ≡ times tag ((rest ++ t ∷ []) ++ waiting)
behind tag t rest waiting = omega (arith, times-append tag (t ∷ rest) waiting, times-append tag (rest ++ t ∷ []) waiting, times-append tag rest (t ∷ []), times-front tag t rest)

-- one more in flight
tags-push : (in_flight : List InFlight) (f : InFlight) → tags_of (in_flight ++ f ∷ []) ≡ tags_of in_flight ++ f.tag.0 ∷ []
tags-push [] f = refl
tags-push (x ∷ in_flight) f = ap (λ tags. x.tag.0 ∷ tags) (tags-push in_flight f)

pub sends_each : (now : ℕ) (step : StepResult) (p q : QueueView) (v w : LinkView) → TriesFirst now step p q v w → EachHasOne (outcome_of step) p q
sends_each now Made p q v w h = λ tag. rw (h.was, h.is, tags-push p.in_flight h.ack, h.tag) (went tag h.first.tag.0 (tags_of p.in_flight) (waiting_tags q.unsent))
sends_each now (Over published) p q v w h = λ tag. rw (h.was, h.in_flight, h.tag) (over tag h.first.tag.0 (tags_of p.in_flight) (waiting_tags q.unsent))
sends_each now Stays p q v w h = each_same p q h.stands.unsent h.stands.in_flight
sends_each now NoMemory p q v w h = each_same p q h.stands.unsent h.stands.in_flight

pub looks_each : (now : ℕ) (step : StepResult) (p q : QueueView) (v w : LinkView) → Looks now step p q v w → EachHasOne (outcome_of step) p q
looks_each now (Over published) p q v w h = λ tag. rw (h.unsent, h.was, h.tag) refl
looks_each now Made p q v w b = λ tag. rw (b.unsent, b.was, b.is, tags-push b.rest b.next, b.tag) (behind tag b.first.tag.0 (tags_of b.rest) (waiting_tags p.unsent))
looks_each now NoMemory p q v w b = λ tag. rw (b.unsent, b.was, b.is, tags-push b.rest b.next, b.tag) (behind tag b.first.tag.0 (tags_of b.rest) (waiting_tags p.unsent))
looks_each now Stays p q v w h = each_same p q (ap (λ (x : QueueView). x.unsent) h.same) (ap (λ (x : QueueView). x.in_flight) h.same)

-- what steps one after the other leave as it is
pub keeps_then : (p q r : QueueView) → Keeps p q → Keeps q r → Keeps p r
keeps_then p q r a b = record {
  caller = record {
    window = b.caller.window ∙ a.caller.window;
    number = b.caller.number ∙ a.caller.number;
    scope = b.caller.scope ∙ a.caller.scope;
    settings = b.caller.settings ∙ a.caller.settings;
    detached = b.caller.detached ∙ a.caller.detached;
  };
  next = b.next ∙ a.next;
  send_timeout = b.send_timeout ∙ a.send_timeout;
}

pub keeps_same : (p : QueueView) → Keeps p p
keeps_same p = record {
  caller = record { window = refl; number = refl; scope = refl; settings = refl; detached = refl };
  next = refl;
  send_timeout = refl;
}

-- the tag that is given next stands nowhere
pub next_is_fresh : (c : ContextView) (unsent : List Unsent) (in_flight : List InFlight) (next : ℕ) → IsQueue c unsent in_flight next → times next (tags_of in_flight ++ waiting_tags unsent) ≡ 0
next_is_fresh c unsent in_flight next q = times-none next (tags_of in_flight ++ waiting_tags unsent) (All-append (λ t. t < next) (tags_of in_flight) (waiting_tags unsent) (All-map (λ t. t < next) (λ f. f.tag.0) in_flight q.sent_below) (All-map (λ t. t < next) (λ u. u.tag.0) unsent q.unsent_below))
