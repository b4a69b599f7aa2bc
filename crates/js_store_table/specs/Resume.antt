-- A table that goes on with the rows of an earlier one.
use Rattle.std.specs.Prelude.{ℕ, ◌≡◌, List, [], ◌∷◌, ◌++◌}
use Rattle.js_store_keys.specs.declared.entry.Entry.{Entry}
use Rattle.js_store_table.specs.declared.table_rows.Rows.{Rows}
use Rattle.js_store_table.specs.TableRows.{KeyRows, Follows, IsTable}

-- the same rows, at the same revision, and so much is to come
abbrev pub resumed : ℕ → Rows → Rows
resumed pending rows = record rows { progress = record rows.progress { pending = pending } }

-- what some polls told, one after another
abbrev pub told_in_all : List (List Entry) → List Entry
told_in_all [] = []
told_in_all (told ∷ polls) = told ++ told_in_all polls

-- polls that told this, each from the rows of the one before it
abbrev pub AfterPolls : ℕ → KeyRows → List (List Entry) → KeyRows → Type 0
AfterPolls history from [] to = to ≡ from
AfterPolls history from (told ∷ polls) to = (next : KeyRows) × Follows history from next told × AfterPolls history next polls to

-- the rows after any polls are the table of the changes told before, and of those told since
abbrev pub GoesOn : ℕ → KeyRows → KeyRows → Type 0
GoesOn history earlier from =
    (before : List Entry) (polls : List (List Entry)) (to : KeyRows) → IsTable history earlier before → AfterPolls history from polls to
    → IsTable history to (before ++ told_in_all polls)
