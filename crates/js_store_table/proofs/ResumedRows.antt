-- The rows after polls are the table of what was told before them and in them.
use Rattle.std.proofs.Common.{◌≡◌, ℕ, List, [], ◌∷◌, ◌++◌, sym, subst, append-nil}
use Rattle.std.proofs.lemmas.List.{append_assoc}
use Rattle.js_store_keys.specs.declared.entry.Entry.{Entry}
use Rattle.js_store_table.specs.Resume.{AfterPolls, GoesOn, told_in_all}
use Rattle.js_store_table.specs.TableRows.{KeyRows, IsTable}

pub after_polls : (h : ℕ) (from : KeyRows) (before : List Entry) (polls : List (List Entry)) (to : KeyRows) → IsTable h from before → AfterPolls h from polls to
    → IsTable h to (before ++ told_in_all polls)
after_polls h from before [] to is same = subst (λ es. IsTable h to es) (sym (append-nil before)) (subst (λ rows. IsTable h rows before) (sym same) is)
after_polls h from before (told ∷ polls) to is (next, follows, more) =
    subst (λ es. IsTable h to es) (append_assoc before told (told_in_all polls)) (after_polls h next (before ++ told) polls to (follows before is) more)

pub goes_on : (h : ℕ) (rows : KeyRows) → GoesOn h rows rows
goes_on h rows before polls to is after = after_polls h rows before polls to is after
