-- Worked limits of a bucket: under one the last of a key stays, and under one with a limit of age it does not.
use Rattle.std.specs.Prelude.{ℕ, true, false, List}
use Rattle.js_store_keys.specs.declared.entry.Entry.{Entry}
use Rattle.js_store_table.specs.Removals.{Limits, KeepsLast, RemovesWithin}
use Rattle.js_store_table.specs.WorkedLogs.{LacksAnEntry}

-- two messages of a key, each for so many nanoseconds (0: for ever)
abbrev pub two_kept : ℕ → Limits
two_kept max_age = record {
  messages_per_subject = 2;
  max_age = max_age;
  allows_message_ttl = false;
  refuses_when_full = true;
  keeps_acknowledged = true;
  denies_delete = true;
}

-- the bucket keeps the last of each key, and its limit removed what is removed of the one log, which could not be of the other
pub record RemovesOvertaken (limits : Limits) (removed : List ℕ) (log short : List Entry) : Type 0 where
  pub keeps_last : KeepsLast limits
  pub within : RemovesWithin limits removed log
  pub not_sooner : RemovesWithin limits removed short → ⊥

-- a limit of age removed a message that nothing has overtaken, and the changes told have another history than the log
pub record RemovesByAge (limits : Limits) (history : ℕ) (removed : List ℕ) (log told : List Entry) : Type 0 where
  pub expires : KeepsLast limits → ⊥
  pub within : RemovesWithin limits removed log
  pub lacks : LacksAnEntry history removed log told
