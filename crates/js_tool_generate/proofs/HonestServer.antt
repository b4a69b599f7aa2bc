-- The server of a generated transcript is honest.
use Rattle.std.proofs.Common.{◌≡◌, ℕ, zero, suc, ◌+◌, ◌-◌, ◌*◌, ◌^◌, ◌<◌, ◌≤◌, ◌⊎◌, List, [], ◌∷◌, length, slice_index, Option, Some, decimal, refl, sym, ap, ◌∙◌, subst, inl, inr, arith}
use Rattle.std.specs.Prelude.{IfSome}
use Rattle.std.specs.List.{AllByRecursion}
use Rattle.std.proofs.lemmas.Grind.{get_or_default_zero}
use Rattle.js_message.specs.AckSubject.{Place, readable_as}
use Rattle.js_pull.specs.Reader.{u64_max}
use Rattle.js_ordered_table.specs.declared.event.Event as events
use Rattle.js_ordered_table.specs.declared.event.EventKind.{EventKind}
use Rattle.js_ordered_table.specs.Gapless.{entry_at, IsMatching, IsWhole, IsDelivery, IsHonestEvent, entry_of}
use Rattle.js_ordered_table.specs.Replay.{IsEventBelowEnd}
use Rattle.js_tool_generate.specs.Episode.{delivered, before, reply, plain, delivery, deliveries, answer, recovery, happens, episodes}
use Rattle.js_tool_generate.specs.Transcript.{replay_input, at_places, generated}
use Rattle.js_tool_generate.specs.Server.{upwards, log, server}
use Rattle.js_ordered_table.proofs.Rewritten.{all_append}
use Rattle.js_tool_generate.proofs.Lists.{all_take, length_upwards, index_upwards, map_upwards}
use Rattle.js_tool_generate.proofs.Replies.{reply_reads}
use Rattle.js_tool_generate.proofs.Numbers.{before_rises}

-- ---- the log

logged : (last sequence : ℕ) → 0 < sequence → sequence ≤ last → entry_at (log last) sequence ≡ Some (record { subject = []; payload = decimal sequence })
logged last zero above within = absurd (omega arith)
logged last (suc place) above within =
    map_upwards (λ sequence. record { subject = []; payload = decimal sequence }) 1 last place (omega arith)
    ∙ ap (λ (n : ℕ). Some (record { subject = []; payload = decimal n })) (omega arith)

matching : (last sequence : ℕ) → 0 < sequence → sequence ≤ last → IsMatching replay_input.setup (log last) sequence
matching last sequence above within = (record { subject = []; payload = decimal sequence }, logged last sequence above within, refl)

-- ---- the lists

none_whole : (last start : ℕ) → IsWhole replay_input.setup (log last) [] start []
none_whole last start = record {
  rising = λ k inside. absurd (omega arith);
  past_start = λ k inside. absurd (omega arith);
  matching = λ k inside. absurd (omega arith);
  whole = λ q k match from inside. absurd (omega arith);
}

upwards_whole : (last start n : ℕ) → 0 < start → start + n ≤ last + 1 → IsWhole replay_input.setup (log last) [] start (upwards start n)
upwards_whole last start n above within = record {
  rising = λ k inside.
      let count = length_upwards start n in
      let one : slice_index (upwards start n) k ≡ start + k = index_upwards start n k (omega (arith, inside, count)) in
      let two : slice_index (upwards start n) (k + 1) ≡ start + (k + 1) = index_upwards start n (k + 1) (omega (arith, inside, count)) in
      omega (arith, one, two);
  past_start = λ k inside.
      let count = length_upwards start n in
      let one : slice_index (upwards start n) k ≡ start + k = index_upwards start n k (omega (arith, inside, count)) in
      omega (arith, one);
  matching = λ k inside.
      let count = length_upwards start n in
      let one : slice_index (upwards start n) k ≡ start + k = index_upwards start n k (omega (arith, inside, count)) in
      matching last (slice_index (upwards start n) k) (omega (arith, one, above)) (omega (arith, one, within, inside, count));
  whole = λ q k match from inside below.
      let count = length_upwards start n in
      let one : slice_index (upwards start n) k ≡ start + k = index_upwards start n k (omega (arith, inside, count)) in
      let here : q - start < length (upwards start n) = omega (arith, one, below, from, inside, count) in
      let is : slice_index (upwards start n) (q - start) ≡ start + (q - start) = index_upwards start n (q - start) (omega (arith, here, count)) in
      inl (q - start, here, get_or_default_zero (upwards start n) (q - start) q here ∙ is ∙ omega (arith, from));
}

rest_whole : (last after : ℕ) → IsWhole replay_input.setup (log last) [] (after + 1) (upwards (after + 1) (last - after))
rest_whole last after = by_order (two after last)
  where
    two : (a b : ℕ) → (a ≤ b) ⊎ (b < a)
    two a b = grind arith

    by_order : (after ≤ last) ⊎ (last < after) → IsWhole replay_input.setup (log last) [] (after + 1) (upwards (after + 1) (last - after))
    by_order (inl within) = upwards_whole last (after + 1) (last - after) (omega arith) (omega arith)
    by_order (inr past) = let none : 0 ≡ last - after = omega arith in
        subst (λ (n : ℕ). IsWhole replay_input.setup (log last) [] (after + 1) (upwards (after + 1) n)) none (none_whole last (after + 1))

pub lists_whole : (seed count inbox : ℕ) → IsWhole replay_input.setup (server seed count).log [] ((server seed count).starts inbox) ((server seed count).lists inbox)
lists_whole seed count inbox = rest_whole (before seed count + 2) (before seed inbox)

-- ---- the arrivals

some_same : {A : Type 0} (P : A → Type 0) (x y : A) → Some x ≡ Some y → P x → P y
some_same P x y same px = subst P (injected x y same) px
  where
    injected : {A : Type 0} (x y : A) → Some x ≡ Some y → x ≡ y
    injected x y same = cc

-- an event is honest, and names no last sequence
pub record IsFine (seed count : ℕ) (what : EventKind) : Type 0 where
  pub honest : IsHonestEvent replay_input.setup (server seed count) what
  pub below : IsEventBelowEnd what

module _ (seed count : ℕ) (small : before seed count + 2 < 2 ^ 62) where
  fine_delivery : (inbox number : ℕ) → 0 < number → before seed inbox + number ≤ before seed count + 2 → IsFine seed count (delivery inbox (before seed inbox) number)
  fine_delivery inbox number above within =
      let s : ℕ = before seed inbox in
      let last : ℕ = before seed count + 2 in
      let reads : readable_as (Some (reply (s + number) number)) ≡ Some (record { sequence = s + number; number = number }) = reply_reads (s + number) number (omega arith) (omega arith) in
      record {
        honest = λ place is_message reads_place.
            some_same (λ (place : Place). IsDelivery (server seed count) inbox place.number (entry_of place (record (plain (decimal (s + number))) { reply = Some (reply (s + number) number) })))
            (record { sequence = s + number; number = number }) place (sym reads ∙ reads_place)
            (record {
              above = above;
              within = let n = length_upwards (s + 1) (last - s) in omega (arith, n);
              listed = index_upwards (s + 1) (last - s) (number - 1) (omega arith) ∙ omega arith;
              logged = logged last (s + number) (omega arith) within;
            });
        below = subst (λ (o : Option Place). IfSome o (λ place. place.sequence ≡ u64_max → ⊥)) (sym reads) (λ e. absurd (omega arith));
      }

  fine_answer : (request : ℕ) (payload : List ℕ) → IsFine seed count (answer request payload)
  fine_answer request payload = record { honest = tt; below = tt }

  fine_deliveries : (inbox number left : ℕ) → 0 < number → before seed inbox + (number + left) ≤ before seed count + 2 → AllByRecursion (IsFine seed count) (deliveries inbox (before seed inbox) number left)
  fine_deliveries inbox number zero above within = tt
  fine_deliveries inbox number (suc left) above within =
      (fine_delivery inbox number above (omega arith), fine_deliveries inbox (number + 1) left (omega arith) (omega arith))

  fine_episode : (episode : ℕ) → episode < count → AllByRecursion (IsFine seed count) (happens seed episode)
  fine_episode episode within =
      let s : ℕ = before seed episode in
      let m : ℕ = delivered seed episode in
      let next : before seed (suc episode) ≤ before seed count = before_rises seed (suc episode) count (omega arith) in
      all_append (IsFine seed count) (deliveries episode s 1 m) (recovery episode s m)
      (fine_deliveries episode 1 m (omega arith) (omega (arith, next))) (
        fine_delivery episode (m + 2) (omega arith) (omega (arith, next)),
        (fine_answer (2 * episode + 1) _, (fine_answer (2 * episode + 2) _, (fine_delivery episode (m + 1) (omega arith) (omega (arith, next)), tt))),
      )

  fine_episodes : (left episode : ℕ) → episode + left ≤ count → AllByRecursion (IsFine seed count) (episodes seed episode left)
  fine_episodes zero episode within = tt
  fine_episodes (suc left) episode within =
      all_append (IsFine seed count) (happens seed episode) (episodes seed (episode + 1) left) (fine_episode episode (omega arith)) (fine_episodes left (episode + 1) (omega arith))

  fine_places : (place : ℕ) (whats : List EventKind) → AllByRecursion (IsFine seed count) whats → AllByRecursion (λ (e : events.Event). IsFine seed count e.what) (at_places place whats)
  fine_places place [] fine = tt
  fine_places place (what ∷ whats) fine = (fine.0, fine_places (place + 1) whats fine.1)

  fine_events : AllByRecursion (λ (e : events.Event). IsFine seed count e.what) (generated seed count)
  fine_events = all_take (λ (e : events.Event). IsFine seed count e.what) count (at_places 1 (episodes seed 0 count)) (fine_places 1 (episodes seed 0 count) (fine_episodes count 0 (omega arith)))

all_honest : (seed count : ℕ) (es : List events.Event) → AllByRecursion (λ (e : events.Event). IsFine seed count e.what) es → AllByRecursion (λ (e : events.Event). IsHonestEvent replay_input.setup (server seed count) e.what) es
all_honest seed count [] fine = tt
all_honest seed count (e ∷ es) fine = (fine.0.honest, all_honest seed count es fine.1)

all_below : (seed count : ℕ) (es : List events.Event) → AllByRecursion (λ (e : events.Event). IsFine seed count e.what) es → AllByRecursion (λ (e : events.Event). IsEventBelowEnd e.what) es
all_below seed count [] fine = tt
all_below seed count (e ∷ es) fine = (fine.0.below, all_below seed count es fine.1)

pub arrivals_honest : (seed count : ℕ) → before seed count + 2 < 2 ^ 62 → AllByRecursion (λ (e : events.Event). IsHonestEvent replay_input.setup (server seed count) e.what) (generated seed count)
arrivals_honest seed count small = all_honest seed count (generated seed count) (fine_events seed count small)

pub arrivals_below : (seed count : ℕ) → before seed count + 2 < 2 ^ 62 → AllByRecursion (λ (e : events.Event). IsEventBelowEnd e.what) (generated seed count)
arrivals_below seed count small = all_below seed count (generated seed count) (fine_events seed count small)
