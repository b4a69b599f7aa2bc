-- Which entries of a key are kept, and what a table of keys has.
use Rattle.std.specs.Prelude.{ℕ, ◌-◌, ◌&&◌, Bool, false, if◌then◌else◌, List, [], ◌∷◌, ◌++◌, length, map, filter, fold, drop, Option, Some, None}
use Rattle.std.specs.List.{slice_get}
use Rattle.std.specs.Ordering.{nat_cmp}
use Rattle.std.specs.Str.{bytes_eq}
use Rattle.std.specs.Cmp.Lexicographic.{slice_cmp}
use Rattle.std.specs.BTreeSet.{insert_key}
use Rattle.js_base.specs.Subject.{subject_matches}
use Rattle.js_store_keys.specs.declared.operation.Operation.{Operation}
use Rattle.js_store_keys.specs.declared.operation.Operation.TheVariants.{Put, Delete, Purge}
use Rattle.js_store_keys.specs.declared.entry.Entry.{Entry}
use Rattle.js_store_keys.specs.Operation.{is_put}

-- how many of so many kept entries the next one overtakes, where a bucket keeps this history: a purge overtakes all, and any other those
-- that are too old beside it
abbrev pub overtaken : ℕ → Operation → ℕ → ℕ
overtaken history Purge kept = kept
overtaken history Put kept = kept - (history - 1)
overtaken history Delete kept = kept - (history - 1)

-- the entries of a key once this one is told: those that it does not overtake, and it
abbrev pub with_entry : ℕ → List Entry → Entry → List Entry
with_entry history kept entry = drop (overtaken history entry.operation (length kept)) kept ++ entry ∷ []

-- the changes of a key
abbrev pub changes_of : List ℕ → List Entry → List Entry
changes_of key changes = filter (λ (entry : Entry). bytes_eq entry.key key) changes

-- the history of a key after these changes, by how many entries of a key the bucket keeps
abbrev pub history_of : ℕ → List ℕ → List Entry → List Entry
history_of history key changes = fold (with_entry history) [] (changes_of key changes)

-- the keys of the changes, each once, in byte order
abbrev pub keys_of : List Entry → List (List ℕ)
keys_of changes = fold (insert_key (slice_cmp nat_cmp)) [] (map (λ (entry : Entry). entry.key) changes)

-- the last of some entries
abbrev pub last_of : List Entry → Option Entry
last_of entries = slice_get entries (length entries - 1)

-- an entry, unless it is a deletion
abbrev pub valued : Option Entry → Option Entry
valued None = None
valued (Some entry) = if is_put entry.operation then Some entry else None

-- the entry that a key has its value by: its last one, unless that is a deletion
abbrev pub value_of : ℕ → List ℕ → List Entry → Option Entry
value_of history key changes = valued (last_of (history_of history key changes))

-- whether a key is shown whose last entry is this: it has a value, and the filter matches it
abbrev pub is_shown : List ℕ → List ℕ → Option Entry → Bool
is_shown pattern key None = false
is_shown pattern key (Some entry) = is_put entry.operation && subject_matches pattern key

-- the keys that have a value and that a filter matches, in byte order
abbrev pub keys_matching : ℕ → List ℕ → List Entry → List (List ℕ)
keys_matching history pattern changes = filter (λ key. is_shown pattern key (last_of (history_of history key changes))) (keys_of changes)
