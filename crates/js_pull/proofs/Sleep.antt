-- A stream at rest that is left alone does nothing before one of its timers is due.
use Rattle.std.proofs.Common.{◌≡◌, ◌⊎◌, ℕ, Bool, true, false, List, [], ◌∷◌, ◌++◌, Option, None, refl, sym, ◌∙◌, ap, subst, inl, inr}
use Rattle.std.specs.Prelude.{unwrap_or}
use Rattle.js_base.specs.declared.message.State.{State}
use Rattle.js_link.specs.LinkView.{LinkView}
use Rattle.js_link.specs.Wish.{IsClosing, watch_met}
use Rattle.js_link.specs.declared.wish.Wish.TheVariants.{Watches}
use Rattle.js_link.specs.declared.wish.Met.{Met}
use Rattle.js_link.specs.declared.wish.Met.TheVariants.{Stands, WatchOver}
use Rattle.js_link.specs.Meets.{Meets}
use Rattle.js_link.specs.declared.link.Watch.{Watch}
use Rattle.js_pull.specs.declared.reader.Reader.{Reader}
use Rattle.js_pull.specs.declared.reader.InfoRequest.{InfoRequest}
use Rattle.js_pull.specs.declared.reader.InfoRequest.TheVariants.{NoInfoRequest, Asked, Resting}
use Rattle.js_pull.specs.declared.reader.Row.{Row}
use Rattle.js_pull.specs.declared.reader.Row.TheVariants.{CheckSilence}
use Rattle.js_pull.specs.declared.reader.ReaderOutput.{ReaderOutput}
use Rattle.js_pull.specs.declared.reader.ReaderOutput.TheVariants.{Nothing}
use Rattle.js_pull.specs.Reader as rows
use Rattle.js_pull.specs.Poll.{Position, Stride, PollAnswer, HandsOut, Fails, Waits, Ends, Lacks, told_by, walk, step, passed_by, told_list, later_rows, connection_after, wish_next, closed_at, change_met, IsStride, IsMet, IsPoll}
use Rattle.js_pull.specs.Timers.{IsLeftAlone, Sleeps}
use Rattle.js_pull.proofs.Idle.{Stage, Rest, Expiry, Info, Arrival, Silence, IsAt, rows_at, early_parts, moment_is, nothing_same, begun_idle, expiry_idle, inquiry_idle, arrival_idle, silence_idle}
use Rattle.js_pull.proofs.Walk.{place, three_parts, append_rows}
use Rattle.js_pull.proofs.Calls.{walk_append}

-- a row leads to the next of them, and does nothing
record Stays (r : Reader) (c : State) (stage : Stage) (s : Stride) (v u : LinkView) : Type 0 where
  next : Stage
  at : IsAt next r
  leads : step s (place r (rows_at stage) c) ≡ place r (rows_at next) c
  told : (passed_by s (place r (rows_at stage) c)).told ≡ Nothing
  same : u ≡ v

stays_by : (r : Reader) (c : State) (stage : Stage) (s : Stride) (v u : LinkView) (next : Stage) (xs : List Row) → IsAt next r
    → passed_by s (place r (rows_at stage) c) ≡ rows.silent_row r xs → xs ++ later_rows (rows_at stage) ≡ rows_at next → connection_after (rows_at stage) s.change c ≡ c → u ≡ v
    → Stays r c stage s v u
stays_by r c stage s v u next xs at e f kept same =
    let passed = passed_by s (place r (rows_at stage) c) in
    record {
      next = next;
      at = at;
      leads = three_parts passed.reader r (passed.next ++ later_rows (rows_at stage)) (rows_at next) (connection_after (rows_at stage) s.change c) c
          (ap (λ (p : rows.Passed). p.reader) e) (ap (λ (p : rows.Passed). p.next ++ later_rows (rows_at stage)) e ∙ f) kept;
      told = ap (λ (p : rows.Passed). p.told) e;
      same = same;
    }

-- ---- rows that do nothing

unchanged : (c : State) (met : Met) (v u : LinkView) → change_met c (watch_met v.watch) ≡ None → Meets Watches met v u → (change_met c met ≡ None) × (u ≡ v)
unchanged c (Stands state) v u same m = (ap (λ (w : Watch). change_met c (watch_met w)) (sym m.1) ∙ same, m.0)
unchanged c WatchOver v u same m = (refl, m.0)
unchanged c met v u same m = absurd m

-- a row of a stream that is left alone
idle_step : (now : ℕ) (r : Reader) (c : State) (v u : LinkView) → IsLeftAlone now (place r [] c) v → (stage : Stage) → IsAt stage r → (s : Stride) (met : Met)
    → IsStride now c (wish_next Watches (place r (rows_at stage) c)) met s → Meets (wish_next Watches (place r (rows_at stage) c)) met v u → Stays r c stage s v u
idle_step now r c v u alone Rest at s met is meets =
    let stands = unchanged c met v u alone.connection meets in
    let none : s.change ≡ None = is.change refl ∙ stands.0 in
    let begun = begun_idle s.passing r (rows.is_asking r.inquiry) refl alone.alive in
    stays_by r c Rest s v u begun.0 (rows_at begun.0) begun.1 (ap (λ (x : Option State). rows.begin_row s.passing x r) none ∙ begun.2) (sym (append_rows (rows_at begun.0)))
    (ap (λ (x : Option State). unwrap_or x c) none) stands.1
idle_step now r c v u alone Expiry at s met is meets =
    let early = early_parts now r alone.alive alone.early in
    stays_by r c Expiry s v u Arrival [] tt (expiry_idle now s.passing r (moment_is now s.passing met is.passing) at early.0) refl refl (nothing_same met v u meets)
idle_step now r c v u alone Info at s met is meets =
    let early = early_parts now r alone.alive alone.early in
    let idle = inquiry_idle now s.passing s.answer r.inquiry r met v u (moment_is now s.passing met is.passing) is.answer meets alone.unanswered early.0 in
    stays_by r c Info s v u Arrival [] tt idle.0 refl refl idle.1
idle_step now r c v u alone Arrival at s met is meets =
    let idle = arrival_idle s.passing s.arrival r met v u is.arrival meets alone.is_open alone.empty in
    stays_by r c Arrival s v u Silence (CheckSilence ∷ []) tt idle.0 refl refl idle.1
idle_step now r c v u alone Silence at s met is meets =
    let early = early_parts now r alone.alive alone.early in
    stays_by r c Silence s v u Rest [] tt (silence_idle now s.passing r (moment_is now s.passing met is.passing) early.1) refl refl (nothing_same met v u meets)

-- ---- row after row

record IdleWalk (r : Reader) (c : State) (strides : List Stride) (at : Position) (v u : LinkView) : Type 0 where
  stage : Stage
  leads : (walk strides at).position ≡ place r (rows_at stage) c
  told : (walk strides at).told ≡ []
  same : u ≡ v

idle_walk : (now : ℕ) (r : Reader) (c : State) (strides : List Stride) (v u : LinkView) → IsLeftAlone now (place r [] c) v → (stage : Stage) → IsAt stage r
    → IsMet now Meets Watches strides (place r (rows_at stage) c) v u → IdleWalk r c strides (place r (rows_at stage) c) v u
idle_walk now r c [] v u alone stage at met = record { stage = stage; leads = refl; told = refl; same = met }
idle_walk now r c (s ∷ strides) v u alone stage at (met, between, is, meets, rest) =
    let one = idle_step now r c v between alone stage at s met is meets in
    let left : IsMet now Meets Watches strides (place r (rows_at one.next) c) between u = subst (λ (p : Position). IsMet now Meets Watches strides p between u) one.leads rest in
    let more = idle_walk now r c strides between u (subst (λ (w : LinkView). IsLeftAlone now (place r [] c) w) (sym one.same) alone) one.next one.at left in
    record {
      stage = more.stage;
      leads = ap (λ (p : Position). (walk strides p).position) one.leads ∙ more.leads;
      told = ap (λ (x : ReaderOutput). told_list x ++ (walk strides (step s (place r (rows_at stage) c))).told) one.told ∙ ap (λ (p : Position). (walk strides p).told) one.leads ∙ more.told;
      same = more.same ∙ one.same;
    }

-- ---- a poll

never_closed : (r : Reader) (c : State) (stage : Stage) (v u : LinkView) → v.is_open r.source.inbox ≡ true → IsClosing Meets (wish_next Watches (place r (rows_at stage) c)) true v u → ⊥
never_closed r c Rest v u is_open closes = closes
never_closed r c Expiry v u is_open closes = closes
never_closed r c Info v u is_open closes = by_inquiry r.inquiry closes
  where
    by_inquiry : (inquiry : InfoRequest) → IsClosing Meets (rows.awaited inquiry) true v u → ⊥
    by_inquiry NoInfoRequest m = m
    by_inquiry (Asked request timeout failures) m = m
    by_inquiry (Resting wait failures) m = m
never_closed r c Arrival v u is_open closes = never (sym closes.1 ∙ is_open)
  where
    never : false ≡ true → ⊥
    never e = cc
never_closed r c Silence v u is_open closes = closes

-- a call that found nothing closed ends where its rows lead
record Left (closed : Bool) (at new : Position) (between after : LinkView) : Type 0 where
  leads : new ≡ at
  same : after ≡ between

left_at : (r : Reader) (c : State) (stage : Stage) (closed : Bool) (at new : Position) (v u : LinkView) → v.is_open r.source.inbox ≡ true → at ≡ place r (rows_at stage) c
    → new ≡ closed_at closed at → IsClosing Meets (wish_next Watches at) closed v u → Left closed at new v u
left_at r c stage false at new v u is_open is leads closes = record { leads = leads; same = closes }
left_at r c stage true at new v u is_open is leads closes =
    absurd (never_closed r c stage v u is_open (subst (λ (p : Position). IsClosing Meets (wish_next Watches p) true v u) is closes))

answers_by : (answer : PollAnswer) → [] ≡ told_by answer → (answer ≡ Ends → ⊥) → (answer ≡ Waits) ⊎ (answer ≡ Lacks)
answers_by (HandsOut message) told ended = absurd (never told)
  where
    never : {t : ReaderOutput} → [] ≡ t ∷ [] → ⊥
    never e = cc
answers_by (Fails kind from) told ended = absurd (never told)
  where
    never : {t : ReaderOutput} → [] ≡ t ∷ [] → ⊥
    never e = cc
answers_by Waits told ended = inl refl
answers_by Ends told ended = absurd (ended refl)
answers_by Lacks told ended = inr refl

sleeps_at : (now : ℕ) (r : Reader) (c : State) (new : Position) (v u : LinkView) (answer : PollAnswer) → IsPoll Meets now (place r [] c) new v u answer → IsLeftAlone now (place r [] c) v
    → Sleeps (place r [] c) new v u answer
sleeps_at now r c new v u answer poll alone =
    let old : Position = place r [] c in
    let call = poll.call in
    let idle = idle_walk now r c poll.strides v call.between alone Rest tt call.met in
    let open_then : call.between.is_open r.source.inbox ≡ true = ap (λ (w : LinkView). w.is_open r.source.inbox) idle.same ∙ alone.is_open in
    let left = left_at r c idle.stage poll.closed (walk poll.strides old).position new call.between u open_then idle.leads call.leads call.closing in
    let new_at : new ≡ place r (rows_at idle.stage) c = left.leads ∙ idle.leads in
    record {
      answers = answers_by answer (sym idle.told ∙ call.told) (λ e. never (sym (ap (λ (p : Position). p.reader.ended) new_at ∙ alone.alive) ∙ poll.ended e));
      same = left.same ∙ idle.same;
      stays = λ e.
          let quiet = poll.waits e in
          let rested : rows_at idle.stage ≡ [] =
          sym (ap (λ (p : Position). p.todo) idle.leads) ∙ ap (λ (xs : List Stride). (walk xs old).position.todo) quiet.2
          ∙ ap (λ (p : Position). p.todo) (walk_append quiet.0 quiet.1 old) ∙ quiet.3.2 in
          new_at ∙ ap (λ (xs : List Row). place r xs c) rested;
    }
  where
    never : false ≡ true → ⊥
    never e = cc

pub poll_sleeps : (now : ℕ) (old new : Position) (v u : LinkView) (answer : PollAnswer) → IsPoll Meets now old new v u answer → IsLeftAlone now old v → Sleeps old new v u answer
poll_sleeps now old new v u answer poll alone =
    let is : old ≡ place old.reader [] old.connection = ap (λ (xs : List Row). place old.reader xs old.connection) alone.rests in
    subst (λ (p : Position). Sleeps p new v u answer) (sym is)
    (sleeps_at now old.reader old.connection new v u answer (subst (λ (p : Position). IsPoll Meets now p new v u answer) is poll) (subst (λ (p : Position). IsLeftAlone now p v) is alone))
