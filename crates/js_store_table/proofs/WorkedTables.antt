-- Worked examples, which the definitions compute.
use Rattle.std.specs.Prelude.{◌≡◌, ℕ, pos, List, [], ◌∷◌, Some, None, refl, codes}
use Rattle.js_store_keys.specs.declared.operation.Operation.{Operation}
use Rattle.js_store_keys.specs.declared.operation.Operation.TheVariants.{Put, Delete, Purge}
use Rattle.js_store_keys.specs.declared.entry.Entry.{Entry}
use Rattle.js_store_table.specs.KeyHistory.{history_of, value_of, keys_matching}

abbrev entry : ℕ → Operation → List ℕ → List ℕ → Entry
entry revision operation key value = record {
  bucket = codes "config";
  key = key;
  value = value;
  revision = revision;
  operation = operation;
  created = pos 0;
  delta = 0;
}

-- `mode` is put three times and then deleted, `limit` is put and then put with an empty value, `size` is put, purged, and put again
abbrev changes : List Entry
changes =
    entry 1 Put (codes "mode") (codes "fast") ∷ entry 2 Put (codes "limit") (codes "10") ∷ entry 3 Put (codes "mode") (codes "slow") ∷ entry 4 Put (codes "limit") []
    ∷ entry 5 Put (codes "mode") (codes "off") ∷ entry 6 Delete (codes "mode") [] ∷ entry 7 Put (codes "size") (codes "3") ∷ entry 8 Purge (codes "size") []
    ∷ entry 9 Put (codes "size") (codes "4") ∷ []

-- a history of three has the last three, in the order of revisions
last_three : history_of 3 (codes "mode") changes ≡ entry 3 Put (codes "mode") (codes "slow") ∷ entry 5 Put (codes "mode") (codes "off") ∷ entry 6 Delete (codes "mode") [] ∷ []
last_three = refl

-- a purge is kept alone, and what follows it beside it
from_the_purge : history_of 3 (codes "size") changes ≡ entry 8 Purge (codes "size") [] ∷ entry 9 Put (codes "size") (codes "4") ∷ []
from_the_purge = refl

-- a history of one, and none, has the last one
last_alone : (history_of 1 (codes "limit") changes ≡ entry 4 Put (codes "limit") [] ∷ []) × (history_of 0 (codes "limit") changes ≡ entry 4 Put (codes "limit") [] ∷ [])
last_alone = (refl, refl)

-- an empty value is a value: a body that deletes by it has none here
empty_value : value_of 3 (codes "limit") changes ≡ Some (entry 4 Put (codes "limit") [])
empty_value = refl

-- a deletion is none
deleted : value_of 3 (codes "mode") changes ≡ None
deleted = refl

-- the keys that have a value, in byte order
shown : keys_matching 3 (codes ">") changes ≡ codes "limit" ∷ codes "size" ∷ []
shown = refl
