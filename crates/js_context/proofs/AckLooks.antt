-- Looks at detached acks, one after another.
use Rattle.std.proofs.Common.{◌≡◌, ℕ, zero, suc, ◌+◌, ◌<◌, ◌≤◌, Bool, true, false, Option, Some, None, List, [], ◌∷◌, ◌++◌, length, take, drop, refl, sym, ◌∙◌, ap, subst, arith, append_assoc, length-append, length-drop, rules}
use Rattle.std.proofs.lemmas.List.{map-append, append-nil, take_at, drop_at}
use Rattle.std.proofs.lemmas.Grind.{common_steps}
use Rattle.js_link.specs.LinkView.{LinkView}
use Rattle.js_call.specs.RawCall.{Shows}
use Rattle.js_context.specs.declared.context.Detached.{Detached}
use Rattle.js_call.specs.declared.open_request.OpenRequest.{OpenRequest}
use Rattle.js_call.specs.declared.open_request.Shown.{Shown}
use Rattle.js_context.specs.AckClock.{begun}
use Rattle.js_context.specs.Context.{ContextView}
use Rattle.js_context.specs.DetachedAcks.{LooksFirst, GoesRound, Reaps, Look, Looks, Between, Passes, LooksAt, GivesIf, clocked_ack, kept, stays, settled, one_if, is_settled, looked_at}

pub some_is : {A : Type 0} (x y : A) → Some x ≡ Some y → x ≡ y
some_is x y is = cc

-- a look, by what it asks and by what becomes of the ack
pub looks_at : (now : ℕ) (ack : Detached) (after : List Detached) (shown : Shown) (gone : Bool) (sent : OpenRequest) (c d : ContextView) (old new : LinkView) → sent ≡ clocked_ack ack now c.settings.ack_timeout → Shows sent now shown old new → gone ≡ is_settled shown → GivesIf gone c.pass d.pass → d ≡ record c { pass = d.pass; detached = after ++ stays gone sent.since ack } → LooksAt now ack after shown c d old new
looks_at now ack after shown gone sent c d old new is_sent shows is gives same = record {
  shows = subst (λ (s : OpenRequest). Shows s now shown old new) is_sent shows;
  gives = subst (λ b. GivesIf b c.pass d.pass) is gives;
  same =
      subst (λ (s : OpenRequest). d ≡ record c { pass = d.pass; detached = after ++ stays (is_settled shown) s.since ack }) is_sent
      (subst (λ b. d ≡ record c { pass = d.pass; detached = after ++ stays b sent.since ack }) is same);
}

-- looks go on by one
passes_more : (now wait : ℕ) (s t u : Between) (looks : List Look) (look : Look) → Passes now wait s looks t → Looks now wait t look u → Passes now wait s (looks ++ look ∷ []) u
passes_more now wait s t u [] look same one = (u, subst (λ x. Looks now wait x look u) (sym same) one, refl)
passes_more now wait s t u (l ∷ ls) look (mid, first, rest) one = (mid, first, passes_more now wait mid t u ls look rest one)

nothing_more : {A : Type 0} (xs : List A) → xs ≡ drop 0 xs ++ []
nothing_more [] = refl
nothing_more (x ∷ xs) = search (rules, common_steps)

-- so many acks were looked at, and no more of them were settled
pub record Going (n now : ℕ) (c d : ContextView) (old new : LinkView) (gone : ℕ) : Type 0 where
  pub round : GoesRound n now c d old new gone
  pub within : gone ≤ n

-- before the first look
pub none_looked : (now : ℕ) (c : ContextView) (old : LinkView) → Going 0 now c c old old 0
none_looked now c old = record {
  round = record { looks = []; looked = refl; passes = refl; same = λ i. record { scope = c.scope; pass = c.pass; awaited = c.awaited; detached = nothing_more c.detached i; settings = c.settings }; number = refl };
  within = omega arith;
}

-- an element of a list, and what is before and after it
pub seam : {A : Type 0} (xs : List A) (n : ℕ) → n < length xs → (x : A) × (drop n xs ≡ x ∷ drop (suc n) xs) × (take (suc n) xs ≡ take n xs ++ x ∷ [])
seam [] n h = absurd (omega (arith, h))
seam (x ∷ xs) zero h = (x, search (rules, common_steps), search (rules, common_steps))
seam (x ∷ xs) (suc n) h = let (y, rest, first) = seam xs n (omega (arith, h)) in (y, rest, ap (λ ys. x ∷ ys) first)

-- what one more look keeps
pub kept_more : (now : ℕ) (looks : List Look) (look : Look) → kept now looks ++ stays (is_settled look.shown) (begun look.ack.since now) look.ack ≡ kept now (looks ++ look ∷ [])
kept_more now [] look = simp append-nil
kept_more now (l ∷ ls) look = append_assoc (stays (is_settled l.shown) (begun l.ack.since now) l.ack) (kept now ls) (stays (is_settled look.shown) (begun look.ack.since now) look.ack) ∙ ap (λ ys. stays (is_settled l.shown) (begun l.ack.since now) l.ack ++ ys) (kept_more now ls look)

-- how many one more look settles
pub settled_more : (looks : List Look) (look : Look) → settled (looks ++ look ∷ []) ≡ settled looks + one_if (is_settled look.shown)
settled_more [] look = omega arith
settled_more (l ∷ ls) look = omega (arith, settled_more ls look)

at_most_one : (b : Bool) → one_if b ≤ 1
at_most_one true = omega arith
at_most_one false = omega arith

-- what is left in front of those that stay
pub some_left : (n now : ℕ) (c d : ContextView) (old new : LinkView) (gone : ℕ) → Going n now c d old new gone → n < length c.detached → 0 < length d.detached
some_left n now c d old new gone r below =
    let (x, rest, first) = seam c.detached n below in
    let whole : d.detached ≡ (x ∷ drop (suc n) c.detached) ++ kept now r.round.looks = ap (λ (z : ContextView). z.detached) r.round.same ∙ ap (λ ys. ys ++ kept now r.round.looks) rest in
    let long : length d.detached ≡ suc (length (drop (suc n) c.detached ++ kept now r.round.looks)) = ap length whole in
    omega (arith, long)

-- one more look
pub one_more : (n now : ℕ) (c d e : ContextView) (old mid new : LinkView) (gone gone' : ℕ) (result : Bool) → Going n now c d old mid gone → n < length c.detached → LooksFirst now result d e mid new → gone' ≡ gone + one_if result → Going (suc n) now c e old new gone'
one_more n now c d e old mid new gone gone' result r below looked more =
    let (x, rest, first) = seam c.detached n below in
    let looks = r.round.looks in
    let others = drop (suc n) c.detached in
    let whole : d.detached ≡ x ∷ (others ++ kept now looks) = ap (λ (z : ContextView). z.detached) r.round.same ∙ ap (λ ys. ys ++ kept now looks) rest in
    let (shown, is, at) = looked x (others ++ kept now looks) whole in
    let look : Look = record { ack = x; shown = shown } in
    let wait : d.settings.ack_timeout ≡ c.settings.ack_timeout = ap (λ (z : ContextView). z.settings.ack_timeout) r.round.same in
    let step : Looks now c.settings.ack_timeout (record { pass = d.pass; link = mid }) look (record { pass = e.pass; link = new }) =
    record { shows = subst (λ w. Shows (clocked_ack x now w) now shown mid new) wait at.shows; gives = at.gives } in
    let list : (others ++ kept now looks) ++ stays (is_settled shown) (begun x.since now) x ≡ others ++ kept now (looks ++ look ∷ []) =
    append_assoc others (kept now looks) (stays (is_settled shown) (begun x.since now) x) ∙ ap (λ ys. others ++ ys) (kept_more now looks look) in
    record {
      round = record {
        looks = looks ++ look ∷ [];
        looked = map-append (λ (l : Look). l.ack) looks (look ∷ []) ∙ ap (λ ys. ys ++ x ∷ []) r.round.looked ∙ sym first;
        passes = passes_more now c.settings.ack_timeout _ _ _ looks look r.round.passes step;
        same = at.same ∙ (λ i. record { scope = (r.round.same i).scope; pass = e.pass; awaited = (r.round.same i).awaited; detached = list i; settings = (r.round.same i).settings });
        number = omega (arith, more, r.round.number, settled_more looks look, ap one_if is);
      };
      within = omega (arith, more, r.within, at_most_one result);
    }

-- one more look, as the loop counts
pub next_look : (n now : ℕ) (c d e : ContextView) (old mid new : LinkView) (gone gone' : ℕ) (result : Bool) → Going n now c d old mid gone → n < length c.detached → LooksFirst now result d e mid new → gone' ≡ gone + one_if result → Going (n + 1) now c e old new gone'
next_look n now c d e old mid new gone gone' result r below looked more =
    let same : suc n ≡ n + 1 = omega arith in
    subst (λ k. Going k now c e old new gone') same (one_more n now c d e old mid new gone gone' result r below looked more)

-- no more are looked at than there are
pub looked_within : (limit : Option ℕ) (all : ℕ) → looked_at limit all ≤ all
looked_within None all = omega arith
looked_within (Some limit) all = grind (arith, common_steps)

-- those that were not looked at go behind those that stay
pub turned : {A : Type 0} (others stay : List A) (n : ℕ) → n ≡ length others → drop n (others ++ stay) ++ take n (others ++ stay) ≡ stay ++ others
turned others stay n is =
    ap (λ xs. xs ++ take n (others ++ stay)) (drop_at others stay n (sym is)) ∙ ap (λ ys. stay ++ ys) (take_at others stay n (sym is))

-- those that stay come back to the front, once all that are looked at went round
pub turned_back : (n others now : ℕ) (c d e : ContextView) (old new : LinkView) (gone : ℕ) → GoesRound n now c d old new gone → others + n ≡ length c.detached → e ≡ record d { detached = drop others d.detached ++ take others d.detached } → Reaps n now c e old new gone
turned_back n others now c d e old new gone r all back =
    let rest = drop n c.detached in
    let stay = kept now r.looks in
    let many : others ≡ length rest = omega (arith, all, length-drop n c.detached) in
    let list : drop others d.detached ++ take others d.detached ≡ stay ++ rest =
    ap (λ (z : ContextView). drop others z.detached ++ take others z.detached) r.same ∙ turned rest stay others many in
    let there : Reaps n now c (record d { detached = drop others d.detached ++ take others d.detached }) old new gone = record {
      looks = r.looks;
      looked = r.looked;
      passes = r.passes;
      same = λ i. record { scope = (r.same i).scope; pass = d.pass; awaited = (r.same i).awaited; detached = list i; settings = (r.same i).settings };
      number = r.number;
    } in
    subst (λ z. Reaps n now c z old new gone) (sym back) there

-- the place where the others begin
pub still_there : (n others now : ℕ) (c d : ContextView) (old new : LinkView) (gone : ℕ) → GoesRound n now c d old new gone → others + n ≡ length c.detached → others ≤ length d.detached
still_there n others now c d old new gone r all =
    let whole : length d.detached ≡ length (drop n c.detached) + length (kept now r.looks) = ap (λ (z : ContextView). length z.detached) r.same ∙ length-append (drop n c.detached) (kept now r.looks) in
    omega (arith, whole, all, length-drop n c.detached)
