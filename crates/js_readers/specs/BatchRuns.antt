-- A batch over many polls, whatever lies between them.
use Rattle.std.specs.Prelude.{ℕ, ◌≡◌, ◌≤◌, Bool, true, false, List, [], ◌∷◌, Ok, Err, count_by}
use Rattle.std.specs.List.{AllByRecursion}
use Rattle.js_base.specs.declared.turn.Next.TheVariants as next
use Rattle.js_link.specs.LinkView.{LinkView}
use Rattle.js_readers.specs.declared.pull.batch.Batch.{Batch}
use Rattle.js_readers.specs.Batch.{BatchAnswer, PollsBatch}

-- one poll, at any moment and over any link
pub record IsPolled (old : Batch) (answer : BatchAnswer) (new : Batch) : Type 0 where
  pub now : ℕ
  pub before : LinkView
  pub after : LinkView
  pub polls : PollsBatch now old answer new before after

-- poll after poll, with these answers
abbrev pub Runs : List BatchAnswer → Batch → Batch → Type 0
Runs [] first last = last ≡ first
Runs (answer ∷ answers) first last = (middle : Batch) × (IsPolled first answer middle × Runs answers middle last)

-- a message is given
abbrev pub is_message : BatchAnswer → Bool
is_message (next.Item (Ok message)) = true
is_message (next.Item (Err e)) = false
is_message next.Pending = false
is_message next.End = false
is_message next.OutOfMemory = false

-- at most as many messages are given as were to come
abbrev pub KeepsItsNumber : Type 0
KeepsItsNumber = (answers : List BatchAnswer) (first last : Batch) → Runs answers first last → count_by is_message answers ≤ first.left

-- nothing but the end comes after the end
abbrev pub StaysEnded : Type 0
StaysEnded = (answers : List BatchAnswer) (first last : Batch) → Runs (next.End ∷ answers) first last → AllByRecursion (λ answer. answer ≡ next.End) answers
