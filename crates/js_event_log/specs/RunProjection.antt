-- What a run has yielded, as the entries of a log, and what a projection answers to them.
use Rattle.std.specs.Prelude.{◌≡◌, ℕ, nat_lt, cond, ⊤, List, [], ◌∷◌, map, Option, Some, None, Result, Ok, Err}
use Rattle.js_base.specs.declared.message.Entry.{Entry}
use Rattle.js_ordered_table.specs.declared.run.Output.{Output}
use Rattle.js_ordered_table.specs.Gapless as gapless
use Rattle.js_event_log.specs.declared.projection.error.ApplyError.{ApplyError}
use Rattle.js_event_log.specs.declared.projection.error.ApplyError.TheVariants.{NotRising, OutOfMemory}

-- a yield, as an entry of a log
abbrev pub as_entry : gapless.Entry → Entry
as_entry yield = record { subject = yield.subject; sequence = yield.sequence; payload = yield.payload }

-- what these outputs yield, in order
abbrev pub yielded : List Output → List Entry
yielded outputs = map as_entry (gapless.yields outputs)

-- the sequence before the first entry that does not rise above it, where one does not
abbrev pub not_rising : ℕ → List Entry → Option ℕ
not_rising last [] = None
not_rising last (entry ∷ entries) = cond (nat_lt last entry.sequence) (not_rising entry.sequence entries) (Some last)

-- the entries, unless one was refused
abbrev pub unless_refused : List Entry → Option ℕ → Result (List Entry) ApplyError
unless_refused entries None = Ok entries
unless_refused entries (Some last) = Err (NotRising last)

-- what comes of the entries when they are applied in order: all of them, or the refusal of the first that does not rise
abbrev pub projected : List Entry → Result (List Entry) ApplyError
projected entries = unless_refused entries (not_rising 0 entries)

-- that, or want of memory
abbrev pub IsProjected : List Entry → Result (List Entry) ApplyError → Type 0
IsProjected entries (Err OutOfMemory) = ⊤
IsProjected entries result = result ≡ projected entries
