-- Two lists of entries joined, as one pass over both does it.
use Rattle.std.specs.Prelude.{ℕ, ◌==◌, cond, nat_lt, not, List, [], ◌∷◌, ◌++◌, filter, Option, Some, None}
use Rattle.std.specs.Option.{is_some}
use Rattle.js_base.specs.declared.message.Entry.{Entry}
use Rattle.js_event_log.specs.Mirror.{entry_with}

-- the first entry, where it has a sequence
abbrev pub headed : ℕ → List Entry → Option Entry
headed sequence [] = None
headed sequence (entry ∷ entries) = cond (entry.sequence == sequence) (Some entry) None

-- the entries in front that are below a sequence
abbrev pub front_below : ℕ → List Entry → List Entry
front_below sequence [] = []
front_below sequence (entry ∷ entries) = cond (nat_lt entry.sequence sequence) (entry ∷ front_below sequence entries) []

-- the entries behind those
abbrev pub behind_below : ℕ → List Entry → List Entry
behind_below sequence [] = []
behind_below sequence (entry ∷ entries) = cond (nat_lt entry.sequence sequence) (behind_below sequence entries) (entry ∷ entries)

-- an entry, where no other stands in its place
abbrev pub lacked : Option Entry → Entry → List Entry
lacked None entry = entry ∷ []
lacked (Some held) entry = []

-- the entries whose sequences a list does not have
abbrev pub lacking : List Entry → List Entry → List Entry
lacking one other = filter (λ (entry : Entry). not (is_some (entry_with entry.sequence one))) other

-- the entries of two lists: before each of one those of the other that are below it
abbrev pub joined : List Entry → List Entry → List Entry
joined [] other = other
joined (entry ∷ entries) other =
    front_below entry.sequence other ++ entry ∷ joined entries (behind_below entry.sequence other)
