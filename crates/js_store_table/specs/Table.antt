-- What the polls of a table answer.
use Rattle.std.specs.Prelude.{ℕ, ◌≡◌, Bool, true, List, [], ◌∷◌, codes, Option, Some, None, IsSome, Result, Ok, Err}
use Rattle.js_base.specs.declared.message.Message.{Message}
use Rattle.js_base.specs.declared.turn.Next.{Next}
use Rattle.js_base.specs.declared.turn.Next.TheVariants as next
use Rattle.js_link.specs.LinkView.{LinkView}
use Rattle.js_message.specs.declared.message.Message as delivered
use Rattle.js_store_keys.specs.declared.entry.Entry.{Entry}
use Rattle.js_store_table.specs.declared.table_rows.BucketKeys.{BucketKeys}
use Rattle.js_store_table.specs.declared.table_rows.Progress.{Progress}
use Rattle.js_store_table.specs.declared.table.Table.{Table}
use Rattle.js_store_table.specs.declared.table_error.TableError.{TableError}
use Rattle.js_store_table.specs.declared.table_error.TableError.TheVariants.{Reader, NoEntry}
use Rattle.js_store_table.specs.MessageEntry.{told_by}
use Rattle.js_store_table.specs.TableRows.{at_entry}

-- how an error is printed
abbrev pub table_error_text : {E : Type 0} → (E → Option (List ℕ)) → TableError E → Option (List ℕ)
table_error_text text (Reader error) = text error
table_error_text text NoEntry = Some (codes "no entry of the bucket")

-- what a poll answers, where the reader's errors are of this type
abbrev pub Told : Type 0 → Type 0
Told E = Next (Result Entry (TableError E))

-- the entry that a poll tells, where it tells one
abbrev pub told_of : {E : Type 0} → Told E → List Entry
told_of (next.Item (Ok entry)) = entry ∷ []
told_of (next.Item (Err error)) = []
told_of next.Pending = []
told_of next.End = []
told_of next.OutOfMemory = []

-- how far a table is after a poll
abbrev pub progress_after : {E : Type 0} → Progress → Told E → Progress
progress_after progress (next.Item (Ok entry)) = at_entry entry
progress_after progress (next.Item (Err error)) = progress
progress_after progress next.Pending = progress
progress_after progress next.End = progress
progress_after progress next.OutOfMemory = progress

-- a message is told as the entry that it is, or as none; or there is no memory for its entry, and it is kept
abbrev pub TellsMessage : {E : Type 0} → BucketKeys → Message → Option Message → Told E → Type 0
TellsMessage bucket message kept (next.Item (Ok entry)) = (told_by bucket.name bucket.prefix message ≡ Some entry) × (kept ≡ None)
TellsMessage bucket message kept (next.Item (Err (Reader error))) = ⊥
TellsMessage bucket message kept (next.Item (Err NoEntry)) = (told_by bucket.name bucket.prefix message ≡ None) × (kept ≡ None)
TellsMessage bucket message kept next.Pending = ⊥
TellsMessage bucket message kept next.End = ⊥
TellsMessage bucket message kept next.OutOfMemory = IsSome (told_by bucket.name bucket.prefix message) × (kept ≡ Some message)

-- what the reader answered is told: a message as above, and else as it is
abbrev pub TellsAnswer : {E : Type 0} → BucketKeys → Next (Result delivered.Message E) → Option Message → Told E → Type 0
TellsAnswer bucket (next.Item (Ok message)) kept told = TellsMessage bucket message.message kept told
TellsAnswer bucket (next.Item (Err error)) kept told = (told ≡ next.Item (Err (Reader error))) × (kept ≡ None)
TellsAnswer bucket next.Pending kept told = (told ≡ next.Pending) × (kept ≡ None)
TellsAnswer bucket next.End kept told = (told ≡ next.End) × (kept ≡ None)
TellsAnswer bucket next.OutOfMemory kept told = (told ≡ next.OutOfMemory) × (kept ≡ None)

-- what a poll of a reader does
abbrev pub ReaderPolls : Type 0 → Type 0 → Type 1
ReaderPolls R E = ℕ → R → R → LinkView → LinkView → Next (Result delivered.Message E) → Type 0

-- the reader was polled, and what it answered is told
abbrev pub ReadsNext : {R E : Type 0} → ReaderPolls R E → ℕ → Table R → Table R → LinkView → LinkView → Told E → Type 0
ReadsNext {E = E} polls now old new before after told =
    (answer : Next (Result delivered.Message E)) × polls now old.reader new.reader before after answer × TellsAnswer old.rows.bucket answer new.unread told

-- a message that was kept is told, and nothing else is looked at; without one the reader is polled
abbrev pub PollsKept : {R E : Type 0} → Option Message → ReaderPolls R E → ℕ → Table R → Table R → LinkView → LinkView → Told E → Type 0
PollsKept (Some message) polls now old new before after told =
    (new.reader ≡ old.reader) × (after ≡ before) × TellsMessage old.rows.bucket message new.unread told
PollsKept None polls now old new before after told = ReadsNext polls now old new before after told

-- what a poll does
abbrev pub PollsTable : {R E : Type 0} → ReaderPolls R E → ℕ → Table R → Table R → LinkView → LinkView → Told E → Type 0
PollsTable polls now old new before after told = PollsKept old.unread polls now old new before after told

-- when a table has something to do by itself: at once where a message is kept, else when its reader has
abbrev pub due_with : Option Message → Bool → Bool
due_with (Some message) below = true
due_with None below = below

abbrev pub table_due : {R : Type 0} → (ℕ → R → Bool) → ℕ → Table R → Bool
table_due due now t = due_with t.unread (due now t.reader)

-- nothing has come for its reader
abbrev pub IsTableQuiet : {R : Type 0} → (R → LinkView → Type 0) → Table R → LinkView → Type 0
IsTableQuiet quiet t v = quiet t.reader v
