-- The log's entries with their sequences, and those of them that pass a test.
use Rattle.std.proofs.Common.{◌≡◌, ℕ, zero, suc, ◌+◌, ◌<◌, Bool, true, false, cond, List, [], ◌∷◌, filter, Some, inl, inr, refl, sym, ap, ◌∙◌, subst, arith}
use Rattle.std.specs.List.{slice_get}
use Rattle.js_base.specs.declared.message.Entry.{Entry}
use Rattle.js_event_log.specs.Projection.{RisesAbove}
use Rattle.js_ordered_table.specs.Gapless.{Logged}
use Rattle.js_event_log.specs.LogTable.{log_entries}
use Rattle.js_event_log.proofs.KeyInsertion.{IsAmong}

-- ---- what passes a test

rises_from : (low high : ℕ) (es : List Entry) → low < high → RisesAbove high es → RisesAbove low es
rises_from low high [] less rises = tt
rises_from low high (e ∷ es) less rises = (omega (arith, less, rises.0), rises.1)

pub rises_filter : (p : Entry → Bool) (low : ℕ) (es : List Entry) → RisesAbove low es → RisesAbove low (filter p es)
rises_filter p low [] rises = tt
rises_filter p low (e ∷ es) rises = by_test (rises_filter p e.sequence es rises.1) (p e)
  where
    by_test : RisesAbove e.sequence (filter p es) → (b : Bool) → RisesAbove low (cond b (e ∷ filter p es) (filter p es))
    by_test rest true = (rises.0, rest)
    by_test rest false = rises_from low e.sequence (filter p es) rises.0 rest

pub among_filter : (p : Entry → Bool) (es : List Entry) (x : Entry) → IsAmong x es → p x ≡ true → IsAmong x (filter p es)
among_filter p [] x among passes = among
among_filter p (e ∷ es) x (inl same) passes =
    let test : p e ≡ true = ap p same ∙ passes in
    rw test (inl same)
among_filter p (e ∷ es) x (inr among) passes = by_test (among_filter p es x among passes) (p e)
  where
    by_test : IsAmong x (filter p es) → (b : Bool) → IsAmong x (cond b (e ∷ filter p es) (filter p es))
    by_test rest true = inr rest
    by_test rest false = rest

pub of_filter : (p : Entry → Bool) (es : List Entry) (x : Entry) → IsAmong x (filter p es) → IsAmong x es × (p x ≡ true)
of_filter p [] x among = absurd among
of_filter p (e ∷ es) x among = by_test (of_filter p es x) (p e) refl among
  where
    later : IsAmong x es × (p x ≡ true) → IsAmong x (e ∷ es) × (p x ≡ true)
    later (there, passes) = (inr there, passes)

    by_test : (IsAmong x (filter p es) → IsAmong x es × (p x ≡ true)) → (b : Bool) → p e ≡ b → IsAmong x (cond b (e ∷ filter p es) (filter p es)) → IsAmong x (e ∷ es) × (p x ≡ true)
    by_test rest true test (inl same) = (inl same, ap p (sym same) ∙ test)
    by_test rest true test (inr there) = later (rest there)
    by_test rest false test there = later (rest there)

-- ---- the log's entries

pub log_entries_rise : (low : ℕ) (log : List Logged) → RisesAbove low (log_entries (suc low) log)
log_entries_rise low [] = tt
log_entries_rise low (logged ∷ log) = (omega arith, log_entries_rise (suc low) log)

-- an entry of the log
abbrev pub entry_with : ℕ → Logged → Entry
entry_with sequence logged = record { subject = logged.subject; sequence = sequence; payload = logged.payload }

some_inside : {A : Type 0} (x y : A) → Some x ≡ Some y → x ≡ y
some_inside x y same = cc

pub among_log_entries : (first : ℕ) (log : List Logged) (place : ℕ) (logged : Logged) → slice_get log place ≡ Some logged
    → IsAmong (entry_with (first + place) logged) (log_entries first log)
among_log_entries first [] place logged held = cc
among_log_entries first (other ∷ log) zero logged held =
    let at : first ≡ first + zero = omega arith in
    inl (ap (entry_with first) (some_inside other logged held) ∙ ap (λ q. entry_with q logged) at)
among_log_entries first (other ∷ log) (suc place) logged held =
    let at : suc first + place ≡ first + suc place = omega arith in
    inr (subst (λ q. IsAmong (entry_with q logged) (log_entries (suc first) log)) at (among_log_entries (suc first) log place logged held))

-- where an entry stands in the log
pub record StandsAt (first : ℕ) (log : List Logged) (x : Entry) : Type 0 where
  pub place : ℕ
  pub sequence : x.sequence ≡ first + place
  pub held : slice_get log place ≡ Some (record { subject = x.subject; payload = x.payload })

pub of_log_entries : (first : ℕ) (log : List Logged) (x : Entry) → IsAmong x (log_entries first log) → StandsAt first log x
of_log_entries first [] x among = absurd among
of_log_entries first (logged ∷ log) x (inl same) =
    record {
      place = zero;
      sequence = let is : first ≡ x.sequence = ap (λ (e : Entry). e.sequence) same in omega (arith, is);
      held = ap (λ (e : Entry). Some (the_logged e)) same;
    }
  where
    the_logged : Entry → Logged
    the_logged e = record { subject = e.subject; payload = e.payload }
of_log_entries first (logged ∷ log) x (inr among) =
    let rest : StandsAt (suc first) log x = of_log_entries (suc first) log x among in
    record { place = suc rest.place; sequence = omega (arith, rest.sequence); held = rest.held }
