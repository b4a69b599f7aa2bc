-- Entries applied one after another.
use Rattle.std.proofs.Common.{◌≡◌, ◌<◌, ◌≤◌, ℕ, List, [], ◌∷◌, ◌++◌, fold, nat_lt, true, false, refl, arith, Some}
use Rattle.std.proofs.lemmas.Bool.Decides.{nat_tests}
use Rattle.js_base.specs.declared.message.Entry.{Entry}
use Rattle.js_event_log.specs.RunProjection.{not_rising}

-- the last one's sequence is that of the list
pub last_on : (low : ℕ) (entries : List Entry) (entry : Entry) → fold (λ _ (e : Entry). e.sequence) low (entries ++ entry ∷ []) ≡ entry.sequence
last_on low [] entry = refl
last_on low (first ∷ entries) entry = last_on first.sequence entries entry

pub above : (low sequence : ℕ) → low < sequence → nat_lt low sequence ≡ true
above low sequence rises = grind (arith, nat_tests)

not_above : (low sequence : ℕ) → sequence ≤ low → nat_lt low sequence ≡ false
not_above low sequence falls = grind (arith, nat_tests)

-- an entry that is not above the last one stops it
pub falling_here : (last : ℕ) (rest : List Entry) (entry : Entry) → entry.sequence ≤ last → not_rising last (entry ∷ rest) ≡ Some last
falling_here last rest entry falls = rw (not_above last entry.sequence falls) refl
