-- The rows of a table that stopped and went on, beside the log of its bucket.
use Rattle.std.specs.Prelude.{ℕ, ◌≡◌, List, [], ◌∷◌, Some}
use Rattle.js_event_log_sessions.specs.GaplessSessions.{LeaveNoGap, last_removed}
use Rattle.js_event_log_sessions.specs.Runs.{all_committed}
use Rattle.js_event_log_sessions.specs.declared.session.Session.{Session}
use Rattle.js_ordered_table.specs.Gapless.{Logged, Server}
use Rattle.js_ordered_table.specs.Texts.{configured_start}
use Rattle.js_store_keys.specs.declared.entry.Entry.{Entry}
use Rattle.js_store_table.specs.BucketLog.{AreOvertaken, IsBucketLog, TellYields, last_from}
use Rattle.js_store_table.specs.TableRows.{KeyRows, IsTable}

-- a log and what was removed from it in the end, whatever was sent
abbrev pub in_the_end : List Logged → List ℕ → Server
in_the_end log removed = record { log = log; removed = removed; starts = λ inbox. 0; lists = λ inbox. [] }

-- Where the committed yields of all sessions leave no gap, the first of which starts at the bookmark, and what the last server has removed was
-- overtaken, the rows of the changes that these yields tell are those of the log. A change that was told and not committed is in no rows that are kept
abbrev pub HasSessionsRows : List Logged → List Server → ℕ → Session → List Session → ℕ → KeyRows → List Entry → Type 0
HasSessionsRows log servers next first others history rows told =
    (prefix : List ℕ) (changes : List Entry) → LeaveNoGap log servers next (first ∷ others) → configured_start first.setup ≡ Some next
    → IsBucketLog (in_the_end log (last_removed [] servers)) first.setup prefix next (last_from 0 told) changes
    → TellYields (all_committed (first ∷ others)) changes told → AreOvertaken history (last_removed [] servers) changes
    → IsTable history rows told → IsTable history rows changes
