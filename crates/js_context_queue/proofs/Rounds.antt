-- Looks at the acks of a queue, one after another, each of which goes behind the others.
use Rattle.std.proofs.Common.{◌≡◌, ℕ, ◌+◌, ◌<◌, Bool, true, false, Option, Some, None, List, [], ◌∷◌, ◌++◌, length, refl, sym, ◌∙◌, ap, subst, arith, append_assoc, length-append}
use Rattle.std.proofs.lemmas.List.{append-nil}
use Rattle.std.proofs.lemmas.List.Elements.{All-cons, All-head, All-nil, All-push, All-tail}
use Rattle.std.specs.Prelude.{All, ◌||◌}
use Rattle.js_link.specs.LinkView.{LinkView}
use Rattle.js_call.specs.declared.open_request.OpenRequest.{OpenRequest}
use Rattle.js_call.specs.Wakes.{IsLeftAlone, IsSent, is_due}
use Rattle.js_context.specs.AckTimers.{ack_waits_for}
use Rattle.js_context_queue.specs.declared.in_flight.InFlight.{InFlight}
use Rattle.js_context_queue.specs.declared.step_result.StepResult.{StepResult}
use Rattle.js_context_queue.specs.declared.step_result.StepResult.TheVariants.{Made, Stays, Over, NoMemory}
use Rattle.js_context_queue.specs.InFlight.{waits_of}
use Rattle.js_context_queue.specs.Queue.{QueueView}
use Rattle.js_context_queue.specs.LeftAlone.{GoesOn, HaveClocks, IsUnanswered, LooksInVain}
use Rattle.js_context_queue.specs.Wakes.{is_one_due}

heads : {A : Type 0} → (x y : A) (xs ys : List A) → x ∷ xs ≡ y ∷ ys → x ≡ y
heads x y xs ys e = cc

tails : {A : Type 0} → (x y : A) (xs ys : List A) → x ∷ xs ≡ y ∷ ys → xs ≡ ys
tails x y xs ys e = cc

-- ---- a list of which so many elements went behind the others

pub record Round {A : Type 0} (k : ℕ) (xs ys : List A) : Type 0 where
  pub left : List A
  pub looked : List A
  pub was : xs ≡ looked ++ left
  pub is : ys ≡ left ++ looked
  pub count : length looked ≡ k

round_none : {A : Type 0} → (xs : List A) → Round 0 xs xs
round_none xs = record { left = xs; looked = []; was = refl; is = sym (append-nil xs); count = refl }

long_enough : {A : Type 0} → (k : ℕ) (xs looked : List A) → xs ≡ looked ++ [] → length looked ≡ k → k < length xs → ⊥
long_enough k xs looked was count below = omega (arith, below, ap length was, length-append looked [], count)

-- another one goes behind
goes_by : {A : Type 0} → (k : ℕ) (xs ys : List A) (y : A) (rest zs left looked : List A) → xs ≡ looked ++ left → ys ≡ left ++ looked → length looked ≡ k → k < length xs → ys ≡ y ∷ rest
    → zs ≡ rest ++ y ∷ [] → Round (k + 1) xs zs
goes_by k xs ys y rest zs [] looked was is count below first goes = absurd (long_enough k xs looked was count below)
goes_by k xs ys y rest zs (l ∷ left) looked was is count below first goes =
    let both : y ∷ rest ≡ l ∷ (left ++ looked) = sym first ∙ is in
    record {
      left = left;
      looked = looked ++ l ∷ [];
      was = was ∙ sym (append_assoc looked (l ∷ []) left);
      is = goes ∙ ap (λ x. rest ++ x ∷ []) (heads y l rest (left ++ looked) both) ∙ ap (λ r. r ++ l ∷ []) (tails y l rest (left ++ looked) both) ∙ append_assoc left looked (l ∷ []);
      count = omega (arith, length-append looked (l ∷ []), count);
    }

round_more : {A : Type 0} → (k : ℕ) (xs ys : List A) (y : A) (rest zs : List A) → Round k xs ys → k < length xs → ys ≡ y ∷ rest → zs ≡ rest ++ y ∷ [] → Round (k + 1) xs zs
round_more k xs ys y rest zs r below first goes = goes_by k xs ys y rest zs r.left r.looked r.was r.is r.count below first goes

-- one is left to go
first_by : {A : Type 0} → (k : ℕ) (xs ys left looked : List A) → xs ≡ looked ++ left → ys ≡ left ++ looked → length looked ≡ k → k < length xs → (y : A) × (rest : List A) × (ys ≡ y ∷ rest)
first_by k xs ys [] looked was is count below = absurd (long_enough k xs looked was count below)
first_by k xs ys (l ∷ left) looked was is count below = (l, left ++ looked, is)

round_first : {A : Type 0} → (k : ℕ) (xs ys : List A) → Round k xs ys → k < length xs → (y : A) × (rest : List A) × (ys ≡ y ∷ rest)
round_first k xs ys r below = first_by k xs ys r.left r.looked r.was r.is r.count below

-- all went behind each other
all_by : {A : Type 0} → (k : ℕ) (xs ys left looked : List A) → xs ≡ looked ++ left → ys ≡ left ++ looked → length looked ≡ k → k ≡ length xs → ys ≡ xs
all_by k xs ys [] looked was is count all = is ∙ sym (was ∙ append-nil looked)
all_by k xs ys (l ∷ left) looked was is count all = absurd (omega (arith, all, ap length was, length-append looked (l ∷ left), count))

round_all : {A : Type 0} → (k : ℕ) (xs ys : List A) → Round k xs ys → k ≡ length xs → ys ≡ xs
round_all k xs ys r all = all_by k xs ys r.left r.looked r.was r.is r.count all

-- ---- acks that are left alone

abbrev IsAlone : ℕ → LinkView → Option OpenRequest → Type 0
IsAlone now v sent = IsLeftAlone sent now v

abbrev pub AreLeftAlone : ℕ → LinkView → List (Option OpenRequest) → Type 0
AreLeftAlone now v waits = All (λ sent. IsLeftAlone sent now v) waits

-- the waits of acks of which one went behind the others
waits-push : (in_flight : List InFlight) (f : InFlight) → waits_of (in_flight ++ f ∷ []) ≡ waits_of in_flight ++ ack_waits_for f.future ∷ []
waits-push [] f = refl
waits-push (x ∷ in_flight) f = ap (λ waits. ack_waits_for x.future ∷ waits) (waits-push in_flight f)

-- so many were looked at, and are what they were
pub record Rests (k now : ℕ) (old new : QueueView) (before after : LinkView) : Type 0 where
  pub in_flight : Round k old.in_flight new.in_flight
  pub same : new ≡ record old { in_flight = new.in_flight }
  pub link : after ≡ before
  pub alone : AreLeftAlone now after (waits_of new.in_flight)

pub rests_none : (now : ℕ) (q : QueueView) (v : LinkView) → AreLeftAlone now v (waits_of q.in_flight) → Rests 0 now q q v v
rests_none now q v alone = record { in_flight = round_none q.in_flight; same = refl; link = refl; alone = alone }

-- a look at one that is left alone
pub looks_made : (k now : ℕ) (old mid new : QueueView) (before between after : LinkView) (step : StepResult) → Rests k now old mid before between → k < length old.in_flight → LooksInVain now step mid new between after
    → step ≡ Made
looks_made k now old mid new before between after step r below vain =
    let (first, more, is) = round_first k old.in_flight mid.in_flight r.in_flight below in
    let alone = subst (λ (f : List InFlight). AreLeftAlone now between (waits_of f)) is r.alone in
    let (made, link, same) = vain first more is (All-head (IsAlone now between) (ack_waits_for first.future) (waits_of more) alone) in
    made

pub rests_more : (k now : ℕ) (old mid new : QueueView) (before between after : LinkView) (step : StepResult) → Rests k now old mid before between → k < length old.in_flight → LooksInVain now step mid new between after
    → Rests (k + 1) now old new before after
rests_more k now old mid new before between after step r below vain =
    let (first, more, is) = round_first k old.in_flight mid.in_flight r.in_flight below in
    let alone = subst (λ (f : List InFlight). AreLeftAlone now between (waits_of f)) is r.alone in
    let head = All-head (IsAlone now between) (ack_waits_for first.future) (waits_of more) alone in
    let (made, link, same) = vain first more is head in
    let goes : new.in_flight ≡ more ++ first ∷ [] = ap (λ (q : QueueView). q.in_flight) same in
    let round = round_more k old.in_flight mid.in_flight first more new.in_flight r.in_flight below is goes in
    record {
      in_flight = round;
      same = same ∙ ap (λ (q : QueueView). record q { in_flight = more ++ first ∷ [] }) r.same ∙ ap (λ (f : List InFlight). record old { in_flight = f }) (sym goes);
      link = link ∙ r.link;
      alone =
          subst (λ (v : LinkView). AreLeftAlone now v (waits_of new.in_flight)) (sym link)
          (subst (λ (f : List InFlight). AreLeftAlone now between (waits_of f)) (sym goes)
          (subst (λ (w : List (Option OpenRequest)). AreLeftAlone now between w) (sym (waits-push more first))
          (All-push (IsAlone now between) (waits_of more) (ack_waits_for first.future) (All-tail (IsAlone now between) (ack_waits_for first.future) (waits_of more) alone) head)));
    }

pub rests_all : (k now : ℕ) (old new : QueueView) (before after : LinkView) → Rests k now old new before after → k ≡ length old.in_flight → (after ≡ before) × (new ≡ old)
rests_all k now old new before after r all = (
  r.link,
  r.same ∙ ap (λ (f : List InFlight). record old { in_flight = f }) (round_all k old.in_flight new.in_flight r.in_flight all),
)

-- ---- acks that were looked at

-- the last so many of these requests are so
pub record LastAre (P : Option OpenRequest → Type 0) (k n : ℕ) (waits : List (Option OpenRequest)) : Type 0 where
  pub front : List (Option OpenRequest)
  pub back : List (Option OpenRequest)
  pub is : waits ≡ front ++ back
  pub count : length front + k ≡ n
  pub are : All P back

waits-length : (in_flight : List InFlight) → length (waits_of in_flight) ≡ length in_flight
waits-length [] = refl
waits-length (x ∷ in_flight) = omega (arith, waits-length in_flight)

pub last_none : (P : Option OpenRequest → Type 0) (in_flight : List InFlight) → LastAre P 0 (length in_flight) (waits_of in_flight)
last_none P in_flight = record { front = waits_of in_flight; back = []; is = sym (append-nil (waits_of in_flight)); count = omega (arith, waits-length in_flight); are = All-nil P }

last_by : (P : Option OpenRequest → Type 0) (k n : ℕ) (waits then front back more : List (Option OpenRequest)) (first known : Option OpenRequest) → waits ≡ front ++ back → length front + k ≡ n → All P back → k < n
    → waits ≡ first ∷ more → then ≡ more ++ known ∷ [] → P known → LastAre P (k + 1) n then
last_by P k n waits then [] back more first known is count are below was after one = absurd (omega (arith, count, below))
last_by P k n waits then (f ∷ front) back more first known is count are below was after one = record {
  front = front;
  back = back ++ known ∷ [];
  is = after ∙ ap (λ (w : List (Option OpenRequest)). w ++ known ∷ []) (tails first f more (front ++ back) (sym was ∙ is)) ∙ append_assoc front back (known ∷ []);
  count = omega (arith, count);
  are = All-push P back known are one;
}

pub last_more : (P : Option OpenRequest → Type 0) (k n : ℕ) (in_flight then more : List InFlight) (first next : InFlight) → LastAre P k n (waits_of in_flight) → k < n → in_flight ≡ first ∷ more → then ≡ more ++ next ∷ []
    → P (ack_waits_for next.future) → LastAre P (k + 1) n (waits_of then)
last_more P k n in_flight then more first next l below was after one =
    last_by P k n (waits_of in_flight) (waits_of then) l.front l.back (waits_of more) (ack_waits_for first.future) (ack_waits_for next.future) l.is l.count l.are below (ap waits_of was) (ap waits_of after ∙ waits-push more next) one

last_in : (P : Option OpenRequest → Type 0) (k n : ℕ) (waits front back : List (Option OpenRequest)) → waits ≡ front ++ back → length front + k ≡ n → All P back → k ≡ n → All P waits
last_in P k n waits [] back is count are all = subst (λ (w : List (Option OpenRequest)). All P w) (sym is) are
last_in P k n waits (f ∷ front) back is count are all = absurd (omega (arith, count, all))

pub last_all : (P : Option OpenRequest → Type 0) (k n : ℕ) (waits : List (Option OpenRequest)) → LastAre P k n waits → k ≡ n → All P waits
last_all P k n waits l all = last_in P k n waits l.front l.back l.is l.count l.are all

-- the step that ends the looks
pub clocks_at : (step : StepResult) (q r : QueueView) → (step ≡ Made → ⊥) → GoesOn step q r → HaveClocks step r
clocks_at Made q r not on = absurd (not refl)
clocks_at Stays q r not on = subst (λ (f : List InFlight). All IsSent (waits_of f)) (sym on) (All-nil IsSent)
clocks_at NoMemory q r not on = tt
clocks_at (Over published) q r not on = tt

-- ---- acks of which none is answered or due

pub either_false : (a b : Bool) → (a || b) ≡ false → (a ≡ false) × (b ≡ false)
either_false true b e = absurd (never e)
  where
    never : true ≡ false → ⊥
    never e = cc
either_false false b e = (refl, e)

pub alone_all : (now : ℕ) (v : LinkView) (waits : List (Option OpenRequest)) → is_one_due waits now ≡ false → All (IsUnanswered v) waits → AreLeftAlone now v waits
alone_all now v [] early unanswered = All-nil (IsAlone now v)
alone_all now v (None ∷ more) early unanswered = absurd (All-head (IsUnanswered v) None more unanswered)
alone_all now v (Some sent ∷ more) early unanswered =
    let (first, later) = either_false (is_due (Some sent) now) (is_one_due more now) early in
    All-cons (IsAlone now v) (Some sent) more (All-head (IsUnanswered v) (Some sent) more unanswered, first)
    (alone_all now v more later (All-tail (IsUnanswered v) (Some sent) more unanswered))
