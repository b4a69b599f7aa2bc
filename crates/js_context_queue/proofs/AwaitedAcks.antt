-- Which acks a caller awaits after each step of a queue.
use Rattle.std.proofs.Common.{◌≡◌, ℕ, ◌+◌, ◌<◌, List, [], ◌∷◌, ◌++◌, sym, ap, subst, ◌∙◌, arith, length-append}
use Rattle.std.proofs.lemmas.List.Elements.{All-head, All-push, All-tail, All-weaker}
use Rattle.std.specs.Prelude.{All}
use Rattle.js_window.specs.Caller.{Caller, WindowId}
use Rattle.js_context.specs.Context.{ContextView, GivesBack}
use Rattle.js_context.specs.AckFuture.{BearsThatOf, IsAwaitedBy}
use Rattle.js_context_queue.specs.declared.in_flight.InFlight.{InFlight}
use Rattle.js_context_queue.specs.declared.unsent.Unsent.{Unsent}
use Rattle.js_context_queue.specs.InFlight.{AreAwaited}
use Rattle.js_context_queue.specs.Queue.{IsQueue}
use Rattle.js_context_queue.specs.SendAttempt.{IsSameCaller}

abbrev Bears : ℕ → InFlight → Type 0
Bears number f = f.future.permit ≡ number

abbrev IsOf : WindowId → InFlight → Type 0
IsOf window f = f.future.window.value ≡ window

abbrev IsSentBelow : ℕ → InFlight → Type 0
IsSentBelow next f = f.tag.0 < next

abbrev IsUnsentBelow : ℕ → Unsent → Type 0
IsUnsentBelow next u = u.tag.0 < next

-- the same acks, by the same caller
same : (in_flight : List InFlight) (c d : ContextView) → IsSameCaller c d → d.awaited ≡ c.awaited → AreAwaited in_flight c → AreAwaited in_flight d
same in_flight c d s n a = record { counted = omega (arith, n, a.counted); bear = rw s.number a.bear; given = rw s.window a.given }

-- one more
more : (in_flight : List InFlight) (f : InFlight) (c d : ContextView) → IsSameCaller c d → d.awaited ≡ c.awaited + 1 → IsAwaitedBy f.future d → AreAwaited in_flight c → AreAwaited (in_flight ++ f ∷ []) d
more in_flight f c d s n by a = record {
  counted = omega (arith, length-append in_flight (f ∷ []), n, a.counted);
  bear = All-push (Bears d.pass.number) in_flight f (rw s.number a.bear) by.permit;
  given = All-push (IsOf d.pass.window) in_flight f (rw s.window a.given) by.window;
}

-- the first gave its permit back
pub rest_awaited : (f : InFlight) (rest : List InFlight) (c d : ContextView) → GivesBack c d → AreAwaited (f ∷ rest) c → AreAwaited rest d
rest_awaited f rest c d g a = record {
  counted = omega (arith, g.one_less, a.counted);
  bear = rw g.makes.goes_on.number (All-tail (Bears c.pass.number) f rest a.bear);
  given = rw g.makes.goes_on.window (All-tail (IsOf c.pass.window) f rest a.given);
}

-- the first went behind the others, with its permit
pub behind_awaited : (f g : InFlight) (rest : List InFlight) (c d : ContextView) → BearsThatOf f.future g.future → d ≡ c → AreAwaited (f ∷ rest) c → AreAwaited (rest ++ g ∷ []) d
behind_awaited f g rest c d b e a = record {
  counted = omega (arith, length-append rest (g ∷ []), ap (λ x. x.awaited) e, a.counted);
  bear = All-push (Bears d.pass.number) rest g (rw e (All-tail (Bears c.pass.number) f rest a.bear)) (b.permit ∙ All-head (Bears c.pass.number) f rest a.bear ∙ ap (λ x. x.pass.number) (sym e));
  given = All-push (IsOf d.pass.window) rest g (rw e (All-tail (IsOf c.pass.window) f rest a.given)) (ap (λ w. w.value) b.window ∙ All-head (IsOf c.pass.window) f rest a.given ∙ ap (λ x. x.pass.window) (sym e));
}

-- the first was detached
pub detached_rest : (f : InFlight) (rest : List InFlight) (c d : ContextView) → d.awaited + 1 ≡ c.awaited → d.pass ≡ c.pass → AreAwaited (f ∷ rest) c → AreAwaited rest d
detached_rest f rest c d n e a = record {
  counted = omega (arith, n, a.counted);
  bear = subst (λ (p : Caller). All (Bears p.number) rest) (sym e) (All-tail (Bears c.pass.number) f rest a.bear);
  given = subst (λ (p : Caller). All (IsOf p.window) rest) (sym e) (All-tail (IsOf c.pass.window) f rest a.given);
}

-- ---- the queue after a step

-- the first ack is known
pub landed : (c d : ContextView) (unsent : List Unsent) (in_flight : List InFlight) (f : InFlight) (rest : List InFlight) (next : ℕ) → in_flight ≡ f ∷ rest → GivesBack c d → IsQueue c unsent in_flight next → IsQueue d unsent rest next
landed c d unsent in_flight f rest next e g q = record {
  awaited = rest_awaited f rest c d g (rw e at q.awaited);
  sent_below = All-tail (IsSentBelow next) f rest (rw e at q.sent_below);
  unsent_below = q.unsent_below;
}

-- the first ack went behind the others
pub behind : (c d : ContextView) (unsent : List Unsent) (in_flight after : List InFlight) (f g : InFlight) (rest : List InFlight) (next : ℕ) → in_flight ≡ f ∷ rest → after ≡ rest ++ g ∷ [] → g.tag ≡ f.tag → BearsThatOf f.future g.future → d ≡ c → IsQueue c unsent in_flight next → IsQueue d unsent after next
behind c d unsent in_flight after f g rest next e a t b same q = rw a (record {
  awaited = behind_awaited f g rest c d b same (rw e at q.awaited);
  sent_below = All-push (IsSentBelow next) rest g (All-tail (IsSentBelow next) f rest (rw e at q.sent_below)) (rw t (All-head (IsSentBelow next) f rest (rw e at q.sent_below)));
  unsent_below = q.unsent_below;
})

-- the first message was sent
pub went : (c d : ContextView) (unsent : List Unsent) (u : Unsent) (left : List Unsent) (in_flight before after : List InFlight) (f : InFlight) (next : ℕ) → unsent ≡ u ∷ left → before ≡ in_flight → after ≡ before ++ f ∷ [] → f.tag ≡ u.tag → IsSameCaller c d → d.awaited ≡ c.awaited + 1 → IsAwaitedBy f.future d → IsQueue c unsent in_flight next → IsQueue d left after next
went c d unsent u left in_flight before after f next e b a t s n by q = rw (a, b) (record {
  awaited = more in_flight f c d s n by q.awaited;
  sent_below = All-push (IsSentBelow next) in_flight f q.sent_below (rw t (All-head (IsUnsentBelow next) u left (rw e at q.unsent_below)));
  unsent_below = All-tail (IsUnsentBelow next) u left (rw e at q.unsent_below);
})

-- the first message is over
pub over : (c d : ContextView) (unsent : List Unsent) (u : Unsent) (left : List Unsent) (in_flight after : List InFlight) (next : ℕ) → unsent ≡ u ∷ left → after ≡ in_flight → IsSameCaller c d → d.awaited ≡ c.awaited → IsQueue c unsent in_flight next → IsQueue d left after next
over c d unsent u left in_flight after next e a s n q = rw a (record {
  awaited = same in_flight c d s n q.awaited;
  sent_below = q.sent_below;
  unsent_below = All-tail (IsUnsentBelow next) u left (rw e at q.unsent_below);
})

-- a message was pushed
pub pushed : (c : ContextView) (unsent after : List Unsent) (u : Unsent) (in_flight : List InFlight) (next more : ℕ) → after ≡ unsent ++ u ∷ [] → u.tag.0 ≡ next → more ≡ next + 1 → IsQueue c unsent in_flight next → IsQueue c after in_flight more
pushed c unsent after u in_flight next more e t m q = rw e (record {
  awaited = q.awaited;
  sent_below = All-weaker (IsSentBelow next) (IsSentBelow more) (λ f h. omega (arith, h, m)) in_flight q.sent_below;
  unsent_below = All-push (IsUnsentBelow more) unsent u (All-weaker (IsUnsentBelow next) (IsUnsentBelow more) (λ x h. omega (arith, h, m)) unsent q.unsent_below) (omega (arith, t, m));
})
