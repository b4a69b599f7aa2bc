-- The rows of a table by key, and what they are after a list of changes.
use Rattle.std.specs.Prelude.{ℕ, ◌≡◌, ◌+◌, ◌-◌, cond, if◌then◌else◌, List, [], ◌∷◌, ◌++◌, length, map, Option, Some, None, Result, Ok, Err, String, string_bytes}
use Rattle.std.specs.Str.{bytes_eq}
use Rattle.std.specs.Ordering.{nat_cmp}
use Rattle.std.specs.Cmp.Lexicographic.{slice_cmp}
use Rattle.std.specs.BTreeMap.{BTreeMap, get_by_text, keys}
use Rattle.std.specs.BTreeSet.{insert_key}
use Rattle.std.specs.List.{filter_map, sum_by}
use Rattle.std.specs.declared.alloc.Global.{Global}
use Rattle.js_store_keys.specs.declared.key_places.KeyPlaces.{KeyPlaces}
use Rattle.js_store_keys.specs.declared.entry.Entry.{Entry}
use Rattle.js_store_table.specs.declared.message_entry.Untold.{Untold}
use Rattle.js_store_table.specs.declared.table_rows.BucketKeys.{BucketKeys}
use Rattle.js_store_table.specs.declared.table_rows.Progress.{Progress}
use Rattle.js_store_table.specs.KeyHistory.{with_entry, history_of, keys_of, last_of, is_shown}

-- what is kept of each key
abbrev pub KeyRows : Type 0
KeyRows = BTreeMap (String Global) (List Entry)

-- the keys of the rows, in their order
abbrev pub names : KeyRows → List (List ℕ)
names rows = map string_bytes (keys rows)

-- a key without a row has no entries
abbrev pub kept_in : Option (List Entry) → List Entry
kept_in None = []
kept_in (Some entries) = entries

-- what is kept of a key
abbrev pub entries_at : List ℕ → KeyRows → List Entry
entries_at key rows = kept_in (get_by_text rows key)

-- the rows are those of these changes: they have each key that was changed, in byte order, and of each key its history
pub record IsTable (history : ℕ) (rows : KeyRows) (changes : List Entry) : Type 0 where
  pub keys : names rows ≡ keys_of changes
  pub histories : (key : List ℕ) → entries_at key rows ≡ history_of history key changes

-- whatever the changes were so far: these were told besides
abbrev pub Follows : ℕ → KeyRows → KeyRows → List Entry → Type 0
Follows history old new told = (changes : List Entry) → IsTable history old changes → IsTable history new (changes ++ told)

-- an entry was noted: its key has a row, and no other row has changed
pub record Notes (history : ℕ) (entry : Entry) (old new : KeyRows) : Type 0 where
  pub keys : names new ≡ insert_key (slice_cmp nat_cmp) (names old) entry.key
  pub entries : (key : List ℕ) → entries_at key new ≡ cond (bytes_eq entry.key key) (with_entry history (entries_at key old) entry) (entries_at key old)

-- the same keys have the same entries
pub record IsSame (old new : KeyRows) : Type 0 where
  pub keys : names new ≡ names old
  pub entries : (key : List ℕ) → entries_at key new ≡ entries_at key old

-- how many entries of a key are kept at most
abbrev pub most : ℕ → ℕ
most history = (history - 1) + 1

-- how many entries some rows keep, of all keys together
abbrev pub count_of : List (String Global × List Entry) → ℕ
count_of rows = sum_by (λ (row : String Global × List Entry). length row.1) rows

abbrev pub kept_count : KeyRows → ℕ
kept_count rows = count_of rows.entries

-- ---- a bucket

-- the keys of a bucket
abbrev pub keys_in : KeyPlaces → BucketKeys
keys_in places = record { name = places.bucket; prefix = places.prefix; history = places.history }

-- nothing was told, and so much is to come
abbrev pub at_first : ℕ → Progress
at_first pending = record { revision = 0; pending = pending }

-- ---- what a message tells

-- the entry that was told, where one was
abbrev pub told_in : Result Entry Untold → List Entry
told_in (Ok entry) = entry ∷ []
told_in (Err why) = []

-- how far a table is once an entry was told
abbrev pub at_entry : Entry → Progress
at_entry entry = record { revision = entry.revision; pending = entry.delta }

abbrev pub progress_by : Progress → Result Entry Untold → Progress
progress_by progress (Ok entry) = at_entry entry
progress_by progress (Err why) = progress

-- ---- the keys that are shown

-- a key with these entries, where it is shown
abbrev pub shown_by : List ℕ → List ℕ → List Entry → Option (List ℕ)
shown_by pattern key entries = if is_shown pattern key (last_of entries) then Some key else None

-- the key of a row, where it is shown
abbrev pub shown_key : List ℕ → String Global × List Entry → Option (List ℕ)
shown_key pattern row = shown_by pattern (string_bytes row.0) row.1

-- the keys of the rows that are shown
abbrev pub shown_keys : List ℕ → List (String Global × List Entry) → List (List ℕ)
shown_keys pattern rows = filter_map (shown_key pattern) rows
