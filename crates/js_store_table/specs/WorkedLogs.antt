-- Worked logs of a bucket: one whose removed message was overtaken, and one whose removed message was not.
use Rattle.std.specs.Prelude.{ℕ, ◌≡◌, pos, List, [], ◌∷◌, codes}
use Rattle.js_store_keys.specs.declared.entry.Entry.{Entry}
use Rattle.js_store_keys.specs.declared.operation.Operation.TheVariants.{Put}
use Rattle.js_store_table.specs.BucketLog.{AreOvertaken, KeepsTable}
use Rattle.js_store_table.specs.KeyHistory.{history_of, keys_of}

-- a value of the key `mode`
abbrev pub put : ℕ → List ℕ → Entry
put revision value = record {
  bucket = codes "config";
  key = codes "mode";
  value = value;
  revision = revision;
  operation = Put;
  created = pos 0;
  delta = 0;
}

-- sequence 1 was removed
abbrev pub first_removed : List ℕ
first_removed = 1 ∷ []

abbrev pub last_one : List Entry
last_one = put 2 (codes "slow") ∷ []

abbrev pub two_changes : List Entry
two_changes = put 1 (codes "fast") ∷ last_one

abbrev pub last_two : List Entry
last_two = put 2 (codes "slow") ∷ put 3 (codes "off") ∷ []

abbrev pub three_changes : List Entry
three_changes = put 1 (codes "fast") ∷ last_two

-- what was removed was overtaken, and the changes told have the log's histories and keys
pub record HasItsRows (history : ℕ) (removed : List ℕ) (log told : List Entry) : Type 0 where
  pub overtaken : AreOvertaken history removed log
  pub keeps : KeepsTable history log told
  pub histories : (key : List ℕ) → history_of history key told ≡ history_of history key log
  pub keys : keys_of told ≡ keys_of log

-- it was not, and the log has another history of a key
pub record LacksAnEntry (history : ℕ) (removed : List ℕ) (log told : List Entry) : Type 0 where
  pub left_behind : AreOvertaken history removed log → ⊥
  pub of_told : history_of history (codes "mode") told ≡ last_one
  pub of_log : history_of history (codes "mode") log ≡ two_changes
