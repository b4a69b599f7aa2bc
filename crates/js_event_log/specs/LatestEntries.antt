-- Some entries of a list: those that keep the last of each subject, and so the table.
use Rattle.std.specs.Prelude.{◌≡◌, ℕ, ◌⊎◌, ⊤, List, [], ◌∷◌}
use Rattle.js_base.specs.declared.message.Entry.{Entry}
use Rattle.js_event_log.specs.Projection.{value_of, table, matched}

-- one of the entries has this subject
abbrev pub HasSubject : List ℕ → List Entry → Type 0
HasSubject subject [] = ⊥
HasSubject subject (entry ∷ entries) = (entry.subject ≡ subject) ⊎ HasSubject subject entries

-- the kept entries are the entries less some, each of which has a later one of its subject among the kept
abbrev pub KeepsLatest : List Entry → List Entry → Type 0
KeepsLatest [] [] = ⊤
KeepsLatest [] (entry ∷ entries) = ⊥
KeepsLatest (first ∷ kept) [] = ⊥
KeepsLatest (first ∷ kept) (entry ∷ entries) =
    ((first ≡ entry) × KeepsLatest kept entries) ⊎ (HasSubject entry.subject (first ∷ kept) × KeepsLatest (first ∷ kept) entries)

-- for each subject and each filter, the entries have the table of all the log's
pub record HasTableOf (all entries : List Entry) : Type 0 where
  pub kept : KeepsLatest entries all
  pub values : (subject : List ℕ) → value_of subject entries ≡ value_of subject all
  pub rows : (pattern : List ℕ) → matched pattern (table entries) ≡ matched pattern (table all)
