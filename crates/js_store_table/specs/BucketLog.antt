-- The changes that an honest server's yields tell, beside all changes of the bucket's log.
use Rattle.std.specs.Prelude.{ℕ, ◌≡◌, ◌<◌, ◌≤◌, ◌⊎◌, ⊤, List, [], ◌∷◌, ◌++◌, map, length, Contains, Some}
use Rattle.std.specs.List.{AllByRecursion}
use Rattle.js_ordered_table.specs.declared.setup.OrderedSetup.{OrderedSetup}
use Rattle.js_ordered_table.specs.Gapless.{Server, IsMatching, IsGapless, entry_at, sequences}
use Rattle.js_ordered_table.specs.Gapless as gapless
use Rattle.js_ordered_table.specs.Texts.{configured_start}
use Rattle.js_store_keys.specs.declared.entry.Entry.{Entry}
use Rattle.js_store_keys.specs.declared.operation.Operation.TheVariants.{Purge}
use Rattle.js_store_table.specs.KeyHistory.{changes_of}
use Rattle.js_store_table.specs.TableRows.{KeyRows, IsTable, most}

-- ---- what was removed

-- one of the changes is a purge
abbrev pub HasPurge : List Entry → Type 0
HasPurge [] = ⊥
HasPurge (entry ∷ entries) = (entry.operation ≡ Purge) ⊎ HasPurge entries

-- changes leave nothing of what was before them: one of them is a purge, or they are as many as the bucket keeps of a key
abbrev pub Overtake : ℕ → List Entry → Type 0
Overtake history later = HasPurge later ⊎ (most history ≤ length later)

-- later changes of its key leave nothing of a change
abbrev pub IsOvertaken : ℕ → Entry → List Entry → Type 0
IsOvertaken history entry later = Overtake history (changes_of entry.key later)

-- each removed change was overtaken by those after it
abbrev pub AreOvertaken : ℕ → List ℕ → List Entry → Type 0
AreOvertaken history removed [] = ⊤
AreOvertaken history removed (entry ∷ log) = (Contains removed entry.revision → IsOvertaken history entry log) × AreOvertaken history removed log

-- ---- the log of a bucket

-- revisions rise strictly, and all are above a number
abbrev pub RisesAbove : ℕ → List Entry → Type 0
RisesAbove low [] = ⊤
RisesAbove low (entry ∷ entries) = (low < entry.revision) × RisesAbove entry.revision entries

-- one of the changes is this one
abbrev pub IsAmong : Entry → List Entry → Type 0
IsAmong entry [] = ⊥
IsAmong entry (first ∷ entries) = (first ≡ entry) ⊎ IsAmong entry entries

-- one of the changes has this revision
abbrev pub HasRevision : ℕ → List Entry → Type 0
HasRevision revision [] = ⊥
HasRevision revision (entry ∷ entries) = (entry.revision ≡ revision) ⊎ HasRevision revision entries

-- the server's log has this change, under the prefix of the bucket's keys, between a start and a last sequence
pub record IsChange (s : Server) (setup : OrderedSetup) (prefix : List ℕ) (start last : ℕ) (entry : Entry) : Type 0 where
  pub held : entry_at s.log entry.revision ≡ Some (record { subject = prefix ++ entry.key; payload = entry.value })
  pub matching : IsMatching setup s.log entry.revision
  pub from : start ≤ entry.revision
  pub within : entry.revision ≤ last

-- the changes are all that the server's log has between a start and a last sequence, removed ones too
pub record IsBucketLog (s : Server) (setup : OrderedSetup) (prefix : List ℕ) (start last : ℕ) (log : List Entry) : Type 0 where
  pub rising : RisesAbove 0 log
  pub changes : AllByRecursion (IsChange s setup prefix start last) log
  pub all : (q : ℕ) → IsMatching setup s.log q → start ≤ q → q ≤ last → HasRevision q log

-- ---- what is told of it

-- the changes that yields tell: they have the yields' sequences, and each is the log's
pub record TellYields (yields : List gapless.Entry) (log told : List Entry) : Type 0 where
  pub revisions : map (λ (entry : Entry). entry.revision) told ≡ sequences yields
  pub logged : AllByRecursion (λ entry. IsAmong entry log) told

-- the revision of the last change, 0 where there is none
abbrev pub last_from : ℕ → List Entry → ℕ
last_from low [] = low
last_from low (entry ∷ entries) = last_from entry.revision entries

-- ---- the promise

-- where the yields leave no gap, and what was removed up to the last one was overtaken, the rows of the changes told are those of the log
abbrev pub HasLogsRows : Server → OrderedSetup → List gapless.Entry → ℕ → KeyRows → List Entry → Type 0
HasLogsRows s setup yields history rows told =
    (prefix : List ℕ) (start : ℕ) (log : List Entry) → IsGapless s setup yields → configured_start setup ≡ Some start
    → IsBucketLog s setup prefix start (last_from 0 told) log → TellYields yields log told → AreOvertaken history s.removed log
    → IsTable history rows told → IsTable history rows log

-- ---- what suffices

-- the changes told begin with this one, and so the rest goes on
abbrev pub Begins : Entry → List Entry → (List Entry → Type 0) → Type 0
Begins entry told goes_on = (rest : List Entry) × (told ≡ entry ∷ rest) × goes_on rest

-- the changes told are those of the log less some, each of which was overtaken
abbrev pub KeepsTable : ℕ → List Entry → List Entry → Type 0
KeepsTable history [] told = told ≡ []
KeepsTable history (entry ∷ log) told =
    Begins entry told (λ rest. KeepsTable history log rest) ⊎ (IsOvertaken history entry log × KeepsTable history log told)
