-- The worked logs have the histories that are said.
use Rattle.std.proofs.Common.{◌≡◌, ℕ, zero, suc, ◌<◌, [], ◌∷◌, Contains, inl, inr, refl, arith}
use Rattle.js_store_table.specs.BucketLog.{AreOvertaken, KeepsTable, IsOvertaken, HasPurge}
use Rattle.js_store_table.specs.WorkedLogs.{first_removed, three_changes, last_two, two_changes, last_one, put, HasItsRows, LacksAnEntry}
use Rattle.js_store_table.proofs.KeptChanges.{same_history}

removed_one : (q : ℕ) → Contains (1 ∷ []) q → 1 ≡ q
removed_one q (zero, inside, is) = is
removed_one q (suc k, inside, is) = absurd (omega (arith, inside))

pub stays : {B : Type 0} (q : ℕ) → 1 < q → Contains (1 ∷ []) q → B
stays q above gone = let is : 1 ≡ q = removed_one q gone in absurd (omega (arith, is, above))

overtaken : AreOvertaken 2 first_removed three_changes
overtaken = (λ gone. inr (omega arith), (λ gone. stays 2 (omega arith) gone, (λ gone. stays 3 (omega arith) gone, tt)))

keeps : KeepsTable 2 three_changes last_two
keeps = inr (inr (omega arith), inl (_, refl, inl (_, refl, refl)))

pub has_its_rows : HasItsRows 2 first_removed three_changes last_two
has_its_rows = record {
  overtaken = overtaken;
  keeps = keeps;
  histories = λ key. same_history 2 key three_changes last_two keeps;
  keys = refl;
}

pub no_purge : HasPurge last_one → ⊥
no_purge (inl is) = cc
no_purge (inr more) = more

one_later : IsOvertaken 2 (put 1 []) last_one → ⊥
one_later (inl has) = no_purge has
one_later (inr full) = absurd (omega (arith, full))

pub lacks_an_entry : LacksAnEntry 2 first_removed two_changes last_one
lacks_an_entry = record {
  left_behind = λ over. one_later (over.0 (zero, omega arith, refl));
  of_told = refl;
  of_log = refl;
}
