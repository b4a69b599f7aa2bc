-- One more arrival.
use Rattle.std.proofs.Common.{◌≡◌, ℕ, suc, ◌+◌, ◌^◌, ◌<◌, ◌≤◌, List, [], ◌∷◌, ◌++◌, length, get_or, take, drop, drop-cons, add-one, sym, ap, ◌∙◌, subst, append_assoc, append-nil, drop_of_length-le}
use Rattle.std.specs.List.{AllByRecursion}
use Rattle.std.proofs.lemmas.List.{take_more, take_all}
use Rattle.js_base.specs.declared.message.Entry as base
use Rattle.js_ordered_table.specs.declared.event.Event.{Event}
use Rattle.js_event_log.specs.Events.{arrival, relayed, AllFit}

at_place : (es : List base.Entry) (i : ℕ) (e : base.Entry) → e ≡ get_or es i e → i < length es → drop i es ≡ e ∷ drop (i + 1) es
at_place es i e is within = rw add-one (drop-cons es i e within ∙ ap (λ (x : base.Entry). x ∷ drop (suc i) es) (sym is))

pub arrives : (stream name : List ℕ) (number number_now i : ℕ) (es : List base.Entry) (e : base.Entry) (all done done_now : List Event)
    → all ≡ done ++ relayed stream name (number + 1) (drop i es) → e ≡ get_or es i e → i < length es → number_now ≡ number + 1 → done_now ≡ done ++ arrival stream name number_now e ∷ []
    → all ≡ done_now ++ relayed stream name (number_now + 1) (drop (i + 1) es)
arrives stream name number number_now i es e all done done_now h is within next pushed =
    let rest : List Event = relayed stream name (number + 1 + 1) (drop (i + 1) es) in
    h ∙ ap (λ (left : List base.Entry). done ++ relayed stream name (number + 1) left) (at_place es i e is within)
    ∙ sym (append_assoc done (arrival stream name (number + 1) e ∷ []) rest)
    ∙ ap (λ (n : ℕ). (done ++ arrival stream name n e ∷ []) ++ relayed stream name (n + 1) (drop (i + 1) es)) (sym next)
    ∙ ap (λ (d : List Event). d ++ relayed stream name (number_now + 1) (drop (i + 1) es)) (sym pushed)

fit_push : (es : List base.Entry) (e : base.Entry) → AllByRecursion (λ (e : base.Entry). e.sequence < 2 ^ 64) es → e.sequence < 2 ^ 64 → AllByRecursion (λ (e : base.Entry). e.sequence < 2 ^ 64) (es ++ e ∷ [])
fit_push [] e fit one = (one, tt)
fit_push (x ∷ es) e fit one = (fit.0, fit_push es e fit.1 one)

pub fits_more : (es : List base.Entry) (i : ℕ) (e : base.Entry) → AllByRecursion (λ (e : base.Entry). e.sequence < 2 ^ 64) (take i es) → e ≡ get_or es i e → i < length es → e.sequence < 2 ^ 64
    → AllByRecursion (λ (e : base.Entry). e.sequence < 2 ^ 64) (take (i + 1) es)
fits_more es i e fit is within one =
    let all : take i es ++ e ∷ [] ≡ take (i + 1) es = ap (λ (x : base.Entry). take i es ++ x ∷ []) is ∙ sym (take_more es i e within) in
    subst (λ (xs : List base.Entry). AllByRecursion (λ (e : base.Entry). e.sequence < 2 ^ 64) xs) all (fit_push (take i es) e fit one)

pub all_arrived : (stream name : List ℕ) (number i : ℕ) (es : List base.Entry) (all done : List Event) → all ≡ done ++ relayed stream name (number + 1) (drop i es) → drop i es ≡ [] → done ≡ all
all_arrived stream name number i es all done h none = sym (h ∙ ap (λ (left : List base.Entry). done ++ relayed stream name (number + 1) left) none ∙ append-nil done)

pub all_fit : (es : List base.Entry) (i : ℕ) → AllByRecursion (λ (e : base.Entry). e.sequence < 2 ^ 64) (take i es) → length es ≤ i → length es < 2 ^ 64 → AllFit es
all_fit es i fit past small = record {
  sequences = subst (λ (xs : List base.Entry). AllByRecursion (λ (e : base.Entry). e.sequence < 2 ^ 64) xs) (take_all i es past) fit;
  number = small;
}

pub at_end : (es : List base.Entry) (i : ℕ) → length es ≤ i → drop i es ≡ []
at_end es i past = drop_of_length-le es past
