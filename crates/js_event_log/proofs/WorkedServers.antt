-- The worked servers are honest, and the tables are what they are said to be.
use Rattle.std.proofs.Common.{◌≡◌, ℕ, zero, suc, ◌<◌, ◌≤◌, List, [], ◌∷◌, length, slice_index, Some, Contains, ◌⊎◌, inl, inr, refl, sym, ap, ◌∙◌, subst, arith}
use Rattle.std.specs.Prelude.{codes}
use Rattle.std.specs.List.Sorted.{IsStrictlyIncreasing}
use Rattle.std.specs.Global.{Global}
use Rattle.js_base.specs.declared.message.Message.{Message}
use Rattle.js_message.specs.AckSubject.{Place, readable_as}
use Rattle.js_ordered_table.specs.declared.setup.OrderedSetup.{OrderedSetup}
use Rattle.js_ordered_table.specs.Fold.{fold}
use Rattle.js_ordered_table.specs.Gapless.{Logged, Server, entry_at, IsMatching, IsWhole, IsDelivery, IsHonestArrival, IsHonest, entry_of}
use Rattle.js_ordered_table.specs.Worked.{numbered}
use Rattle.js_ordered_table.proofs.OnLiterals.{replays_on_literals}
use Rattle.js_event_log.specs.LogTable.{IsOvertaken, AreOvertaken}
use Rattle.js_event_log.specs.WorkedRuns.{from_one, two_messages, left, server_with, overtaken, left_behind, entry, HasTables, IsTheLogs, IsAnother}

some_inside : {A : Type 0} (x y : A) → Some x ≡ Some y → x ≡ y
some_inside x y same = cc

-- a message whose reply reads to a place is a delivery
delivers : (s : Server) (setup : OrderedSetup) (inbox : ℕ) (message : Message) (place : Place) → readable_as message.reply ≡ Some place
    → IsDelivery s inbox place.number (entry_of place message) → IsHonestArrival setup s (record { inbox = inbox; message = message })
delivers s setup inbox message place reads delivery other is reads_other =
    subst (λ (p : Place). IsDelivery s inbox p.number (entry_of p message)) (some_inside place other (sym reads ∙ reads_other)) delivery

left_whole : (subject : List ℕ) → IsWhole from_one.setup (server_with subject).log (2 ∷ []) 1 left
left_whole subject = record { rising = rising; past_start = past_start; matching = matching; whole = whole }
  where
    rising : IsStrictlyIncreasing left
    rising zero inside = omega arith
    rising (suc k) inside = absurd (omega arith)

    past_start : (k : ℕ) → k < length left → 1 ≤ slice_index left k
    past_start zero inside = omega arith
    past_start (suc zero) inside = omega arith
    past_start (suc (suc k)) inside = absurd (omega arith)

    matching : (k : ℕ) → k < length left → IsMatching from_one.setup (server_with subject).log (slice_index left k)
    matching zero inside = (record { subject = codes "a.x"; payload = codes "1" }, refl, refl)
    matching (suc zero) inside = (record { subject = codes "a.x"; payload = codes "3" }, refl, refl)
    matching (suc (suc k)) inside = absurd (omega arith)

    two : (q : ℕ) → 1 ≤ q → q < 3 → (1 ≡ q) ⊎ (2 ≡ q)
    two q from below = grind arith

    of_two : (q : ℕ) → (1 ≡ q) ⊎ (2 ≡ q) → Contains left q ⊎ Contains (2 ∷ []) q
    of_two q (inl one) = inl (0, omega arith, one)
    of_two q (inr other) = inr (0, omega arith, other)

    whole : (q k : ℕ) → IsMatching from_one.setup (server_with subject).log q → 1 ≤ q → k < length left → q < slice_index left k → Contains left q ⊎ Contains (2 ∷ []) q
    whole q zero match from inside below = absurd (omega arith)
    whole q (suc zero) match from inside below = of_two q (two q from below)
    whole q (suc (suc k)) match from inside below = absurd (omega arith)

honest : (subject : List ℕ) (heap : Global) → IsHonest (server_with subject) from_one.setup (two_messages heap) (fold from_one 0 (two_messages heap))
unfolding replays_on_literals
honest subject heap = record {
  lists = λ inbox. left_whole subject;
  first = refl;
  later = tt;
  arrivals = (
    delivers (server_with subject) from_one.setup 0 (record (numbered 1 1 (codes "1")) { subject = codes "a.x" }) (record { sequence = 1; number = 1 }) refl
        (record { above = omega arith; within = omega arith; listed = refl; logged = refl }),
    (
      delivers (server_with subject) from_one.setup 0 (record (numbered 2 3 (codes "3")) { subject = codes "a.x" }) (record { sequence = 3; number = 2 }) refl
          (record { above = omega arith; within = omega arith; listed = refl; logged = refl }),
      tt,
    ),
  );
}

-- what was removed is sequence 2
removed_two : (q : ℕ) → Contains (2 ∷ []) q → 2 ≡ q
removed_two q (zero, inside, is) = is
removed_two q (suc k, inside, is) = absurd (omega (arith, inside))

was_overtaken : AreOvertaken from_one.setup overtaken 1 3
was_overtaken sequence logged removed from within held matches =
    let is : 2 ≡ sequence = removed_two sequence removed in
    let same : Some (record { subject = codes "a.x"; payload = codes "2" }) ≡ Some logged = ap (entry_at overtaken.log) is ∙ held in
    record {
      later = 3;
      entry = record { subject = codes "a.x"; payload = codes "3" };
      above = omega (arith, is);
      within = omega arith;
      held = refl;
      same = ap (λ (l : Logged). l.subject) (some_inside (record { subject = codes "a.x"; payload = codes "2" }) logged same);
      left = λ gone. let two : 2 ≡ 3 = removed_two 3 gone in omega (arith, two);
    }

-- the one later entry has another subject
was_left_behind : AreOvertaken from_one.setup left_behind 1 3 → ⊥
was_left_behind all =
    let o : IsOvertaken left_behind 3 2 (codes "a.y") =
    all 2 (record { subject = codes "a.y"; payload = codes "2" }) (0, omega arith, refl) (omega arith) (omega arith) refl refl in
    let is : 3 ≡ o.later = omega (arith, o.above, o.within) in
    let same : Some (record { subject = codes "a.x"; payload = codes "3" }) ≡ Some o.entry = ap (entry_at left_behind.log) is ∙ o.held in
    let subjects : codes "a.x" ≡ codes "a.y" =
    ap (λ (l : Logged). l.subject) (some_inside (record { subject = codes "a.x"; payload = codes "3" }) o.entry same) ∙ o.same in
    let letters : 120 ≡ 121 = ap (λ text. slice_index text 2) subjects in
    omega (arith, letters)

tables_overtaken : HasTables overtaken from_one two_messages 1 3 (entry 3 (codes "a.x") (codes "3") ∷ []) (entry 3 (codes "a.x") (codes "3") ∷ [])
unfolding replays_on_literals
tables_overtaken = record { honest = honest (codes "a.x"); starts = refl; ends = λ heap. refl; yields_table = λ heap. refl; logs_table = refl }

tables_left_behind : HasTables left_behind from_one two_messages 1 3 (entry 3 (codes "a.x") (codes "3") ∷ [])
    (entry 3 (codes "a.x") (codes "3") ∷ entry 2 (codes "a.y") (codes "2") ∷ [])
unfolding replays_on_literals
tables_left_behind = record { honest = honest (codes "a.y"); starts = refl; ends = λ heap. refl; yields_table = λ heap. refl; logs_table = refl }

pub is_the_logs : IsTheLogs overtaken from_one two_messages 1 3 (entry 3 (codes "a.x") (codes "3") ∷ [])
is_the_logs = record { tables = tables_overtaken; overtaken = was_overtaken }

pub is_another : IsAnother left_behind from_one two_messages 1 3 (entry 3 (codes "a.x") (codes "3") ∷ [])
    (entry 3 (codes "a.x") (codes "3") ∷ entry 2 (codes "a.y") (codes "2") ∷ [])
is_another = record { tables = tables_left_behind; left_behind = was_left_behind }
