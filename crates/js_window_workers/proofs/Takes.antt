-- One take more of a worker, and the permit given back.
use Rattle.std.proofs.Common.{◌≡◌, ◌⊎◌, inl, inr, ℕ, ◌+◌, Bool, true, false, List, [], ◌∷◌, ◌++◌, Option, Some, None, refl, sym, subst, ap, ◌∙◌, arith, add-zero, append-nil, append_assoc}
use Rattle.js_window.specs.declared.history.Entry.{Entry}
use Rattle.js_window.specs.declared.history.Call.TheVariants.{Got, Full, Give}
use Rattle.js_window.specs.declared.window.Take.{Take}
use Rattle.js_window.specs.declared.window.Take.TheVariants as take
use Rattle.js_window.specs.Take.{call_of}
use Rattle.js_window.specs.History.{entry, got_in, out_after, IsLegal}
use Rattle.js_window.specs.Caller.{WindowId, Caller, Makes}
use Rattle.js_window.proofs.Histories.{count_by-append, got_in-append}
use Rattle.js_window.proofs.Prefixes.{prefix-refl, prefix-trans}
use Rattle.js_window_workers.specs.Worker.{is_full, full_in, calls_of_take, calls_of_takes, TookCalls, MakesTake, PassedGate, IsReady, HasEnded}
use Rattle.js_window_workers.specs.declared.worker.Job.{Job}

-- one take more stands after those before it
calls_of_takes-push : (n : ℕ) (takes : List Bool) (got : Bool) → calls_of_takes n (takes ++ got ∷ []) ≡ calls_of_takes n takes ++ calls_of_take n got
calls_of_takes-push n [] got = append-nil (calls_of_take n got)
calls_of_takes-push n (t ∷ takes) got =
    ap (λ l. calls_of_take n t ++ l) (calls_of_takes-push n takes got) ∙ sym (append_assoc (calls_of_take n t) (calls_of_takes n takes) (calls_of_take n got))

take_more : (n : ℕ) (takes : List Bool) (got : Bool) (before now later : List Entry) → now ≡ before ++ calls_of_takes n takes → later ≡ now ++ calls_of_take n got → later ≡ before ++ calls_of_takes n (takes ++ got ∷ [])
take_more n takes got before now later was made =
    made ∙ ap (λ l. l ++ calls_of_take n got) was ∙ append_assoc before (calls_of_takes n takes) (calls_of_take n got) ∙ ap (λ l. before ++ l) (sym (calls_of_takes-push n takes got))

full_in-append : (xs ys : List Entry) → full_in (xs ++ ys) ≡ full_in xs + full_in ys
full_in-append xs ys = count_by-append (λ e. is_full e.call) xs ys

-- no take was made yet
pub took_none : (p : Caller) → TookCalls 0 0 p p
took_none p = record {
  window = refl;
  number = refl;
  grows = prefix-refl p.seen;
  got_more = sym (add-zero (got_in p.mine));
  full_more = sym (add-zero (full_in p.mine));
  takes = [];
  in_turn = sym (append-nil p.mine);
  held = refl;
  legal = λ legal. legal;
  own = λ own. own;
}

pub took_got : (got full : ℕ) (p q r s : Caller) → TookCalls got full p q → Makes Got q r → Makes Give r s → TookCalls (got + 1) full p s
took_got got full p q r s t a b = record {
  window = b.goes_on.window ∙ a.goes_on.window ∙ t.window;
  number = b.goes_on.number ∙ a.goes_on.number ∙ t.number;
  grows = prefix-trans p.seen q.seen s.seen t.grows (prefix-trans q.seen r.seen s.seen a.goes_on.grows b.goes_on.grows);
  got_more = omega (arith, t.got_more, ap got_in a.mine, ap got_in b.mine, got_in-append q.mine (entry q.number Got ∷ []), got_in-append r.mine (entry r.number Give ∷ []));
  full_more = omega (arith, t.full_more, ap full_in a.mine, ap full_in b.mine, full_in-append q.mine (entry q.number Got ∷ []), full_in-append r.mine (entry r.number Give ∷ []));
  takes = t.takes ++ true ∷ [];
  in_turn = take_more p.number t.takes true p.mine q.mine s.mine t.in_turn
      (b.mine ∙ ap (λ l. l ++ entry r.number Give ∷ []) a.mine ∙ append_assoc q.mine (entry q.number Got ∷ []) (entry r.number Give ∷ [])
      ∙ (λ k. q.mine ++ (entry (t.number k) Got ∷ entry ((a.goes_on.number ∙ t.number) k) Give ∷ [])));
  held = omega (arith, t.held, a.holds, b.holds);
  legal = λ _. b.goes_on.legal;
  own = λ _. b.goes_on.own;
}

pub took_full : (got full : ℕ) (p q r : Caller) → TookCalls got full p q → Makes Full q r → TookCalls got (full + 1) p r
took_full got full p q r t a = record {
  window = a.goes_on.window ∙ t.window;
  number = a.goes_on.number ∙ t.number;
  grows = prefix-trans p.seen q.seen r.seen t.grows a.goes_on.grows;
  got_more = omega (arith, t.got_more, ap got_in a.mine, got_in-append q.mine (entry q.number Full ∷ []));
  full_more = omega (arith, t.full_more, ap full_in a.mine, full_in-append q.mine (entry q.number Full ∷ []));
  takes = t.takes ++ false ∷ [];
  in_turn = take_more p.number t.takes false p.mine q.mine r.mine t.in_turn (a.mine ∙ ap (λ n. q.mine ++ entry n Full ∷ []) t.number);
  held = omega (arith, t.held, a.holds);
  legal = λ _. a.goes_on.legal;
  own = λ _. a.goes_on.own;
}

one_take : (first q : Caller) (taken : Take) → Makes (call_of taken) first q → MakesTake first q
one_take first q (take.Got permit) makes = inl makes
one_take first q take.Full makes = inr makes

-- the caller after its first take
pub first_take : (first p q : Caller) (taken : Take) → p ≡ first → Makes (call_of taken) p q → MakesTake first q
first_take first p q taken same makes = one_take first q taken (subst (λ (x : Caller). Makes (call_of taken) x q) same makes)

-- the gate is passed after the first take
pub passed_first : (calls : ℕ) (first p q : Caller) (taken : Take) (passed : Option Caller) → p ≡ first → Makes (call_of taken) p q → passed ≡ Some q → PassedGate (calls + 1) first passed
passed_first calls first p q taken passed same makes is =
    subst (PassedGate (calls + 1) first) (sym is) (omega arith, first_take first p q taken same makes)

-- and at no later one
pub passed_before : (calls : ℕ) (first : Caller) (passed : Option Caller) → (calls ≡ 0 → ⊥) → PassedGate calls first passed → PassedGate (calls + 1) first passed
passed_before calls first None later gate = absurd (later gate)
passed_before calls first (Some q) later gate = (omega arith, gate.1)

-- a worker that was ready has ended
pub ended_of : (window : WindowId) (calls got full : ℕ) (job : Job) (q : Caller) → IsReady window job → TookCalls got full job.pass q → got + full ≡ calls → HasEnded window calls (record { pass = q; got = got; full = full })
ended_of window calls got full job q r t sum = record {
  own = t.window ∙ r.own;
  takes = t.takes;
  in_turn = t.in_turn ∙ (λ k. r.none_made k ++ calls_of_takes (sym t.number k) t.takes);
  legal = subst (λ (w : WindowId). IsLegal w.capacity q.seen) (t.window ∙ r.own) (t.legal (subst (λ (w : WindowId). IsLegal w.capacity job.pass.seen) (sym r.own) r.legal));
  own_calls = t.own (r.fresh ∙ sym r.none_made);
  holds_none = t.held ∙ ap out_after r.none_made;
  got = omega (arith, t.got_more, ap got_in r.none_made);
  full = omega (arith, t.full_more, ap full_in r.none_made);
  sum = sum;
}
