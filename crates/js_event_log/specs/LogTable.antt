-- The table of a run beside that of the log which an honest server served it from.
use Rattle.std.specs.Prelude.{◌≡◌, ℕ, suc, ◌<◌, ◌≤◌, nat_le, List, [], ◌∷◌, filter, Contains, Some, IsTrue}
use Rattle.js_base.specs.declared.message.Entry.{Entry}
use Rattle.js_base.specs.Subject.{filters_match}
use Rattle.js_event_log.specs.Projection.{last_sequence, up_to}
use Rattle.js_event_log.specs.LatestEntries.{HasTableOf}
use Rattle.js_ordered_table.specs.declared.event.Event.{Event}
use Rattle.js_ordered_table.specs.declared.run.Run.{Run}
use Rattle.js_ordered_table.specs.declared.setup.OrderedSetup.{OrderedSetup}
use Rattle.js_ordered_table.specs.Gapless.{Logged, Server, entry_at, IsHonest}
use Rattle.js_ordered_table.specs.Texts.{filters, configured_start}

-- ---- the log

-- the log's entries with their sequences, of which the first is this one
abbrev pub log_entries : ℕ → List Logged → List Entry
log_entries sequence [] = []
log_entries sequence (logged ∷ log) = record { subject = logged.subject; sequence = sequence; payload = logged.payload } ∷ log_entries (suc sequence) log

-- the entries from a sequence on
abbrev pub since : ℕ → List Entry → List Entry
since sequence entries = filter (λ (entry : Entry). nat_le sequence entry.sequence) entries

-- the log's entries from a start up to a last one, whose subject the setup's filters match
abbrev pub matching_between : OrderedSetup → List Logged → ℕ → ℕ → List Entry
matching_between setup log start last = filter (λ (entry : Entry). filters_match (filters setup) entry.subject) (up_to last (since start (log_entries 1 log)))

-- ---- what was removed

-- the log has a later entry of this subject, up to a last sequence, that was not removed
pub record IsOvertaken (s : Server) (last sequence : ℕ) (subject : List ℕ) : Type 0 where
  pub later : ℕ
  pub entry : Logged
  pub above : sequence < later
  pub within : later ≤ last
  pub held : entry_at s.log later ≡ Some entry
  pub same : entry.subject ≡ subject
  pub left : Contains s.removed later → ⊥

-- so has each removed entry from a start up to the last one that the setup's filters match
abbrev pub AreOvertaken : OrderedSetup → Server → ℕ → ℕ → Type 0
AreOvertaken setup s start last =
    (sequence : ℕ) → (entry : Logged) → Contains s.removed sequence → start ≤ sequence → sequence ≤ last
    → entry_at s.log sequence ≡ Some entry → IsTrue (filters_match (filters setup) entry.subject) → IsOvertaken s last sequence entry.subject

-- ---- the promise

-- where the server is honest in the run, and what it had removed from the configured start up to the last yield was overtaken, the
-- entries have the table of all of the log's entries between the two that the setup's filters match
abbrev pub HasLogsTable : OrderedSetup → List Event → Run → List Entry → Type 0
HasLogsTable setup es run entries =
    (s : Server) → (start : ℕ) → IsHonest s setup es run → configured_start setup ≡ Some start → AreOvertaken setup s start (last_sequence entries)
    → HasTableOf (matching_between setup s.log start (last_sequence entries)) entries
