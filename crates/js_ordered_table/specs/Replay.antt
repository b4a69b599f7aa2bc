-- Valid input, what a replay answers, and how often a recreation begins.
use Rattle.std.specs.Prelude.{◌≡◌, ℕ, ◌+◌, ◌≤◌, false, List, [], ◌∷◌, Some, None, Result, Ok, Err, IfSome, ⊤}
use Rattle.std.specs.List.{AllByRecursion}
use Rattle.js_base.specs.declared.message.Message.{Message}
use Rattle.js_message.specs.AckSubject.{readable_as}
use Rattle.js_pull.specs.Reader.{u64_max}
use Rattle.js_ordered_table.specs.declared.run.Run.{Run}
use Rattle.js_ordered_table.specs.declared.run.Step.{Step}
use Rattle.js_ordered_table.specs.Fold.{fold}
use Rattle.js_ordered_table.specs.Refusal.{lacks_subject, bad_field, first_early, refuse}
use Rattle.js_ordered_table.specs.Gapless.{Server, IsHonest, IsGapless, yields, all_outputs}
use Rattle.js_ordered_table.specs.declared.consumer.ReplayInput.{ReplayInput}
use Rattle.js_ordered_table.specs.declared.event.Event as events
use Rattle.js_ordered_table.specs.declared.event.EventKind.{EventKind}
use Rattle.js_ordered_table.specs.declared.event.EventKind.TheVariants as what
use Rattle.js_ordered_table.specs.declared.run.ReplayError.{ReplayError}
use Rattle.js_ordered_table.specs.declared.run.ReplayError.TheVariants as error
use Rattle.js_ordered_table.specs.declared.run.Output.{Output}
use Rattle.js_ordered_table.specs.declared.run.Output.TheVariants as out

-- ---- valid input

-- a message that does not name the last of all sequences
abbrev pub IsBelowEnd : Message → Type 0
IsBelowEnd message = IfSome (readable_as message.reply) (λ place. place.sequence ≡ u64_max → ⊥)

-- nor does an event's arrival
abbrev pub IsEventBelowEnd : EventKind → Type 0
IsEventBelowEnd (what.Arrival inbox message) = IsBelowEnd message
IsEventBelowEnd _ = ⊤

-- good settings, moments that do not fall, and no last sequence
pub record IsValid (g : ReplayInput) (start : ℕ) (es : List events.Event) : Type 0 where
  pub subject : lacks_subject g.setup g.first.config.deliver_subject ≡ false
  pub settings : bad_field g ≡ None
  pub moments : first_early 0 start es ≡ None
  pub arrivals : AllByRecursion (λ e. IsEventBelowEnd e.what) es

-- ---- recreations

-- how many recreations begin
abbrev pub recreations : List Output → ℕ
recreations [] = 0
recreations (out.Recreate recreation_count start ∷ outputs) = 1 + recreations outputs
recreations (_ ∷ outputs) = recreations outputs

-- at most one begins in a step
abbrev pub HasOneRecreation : Step → Type 0
HasOneRecreation step = recreations step.outputs ≤ 1

-- ---- numbers

-- the numbers of the yields go up by one from a number on, and from 0 again where a recreation begins, which gives up the inbox: so on one inbox they are 1, 2, 3 and so on
abbrev pub CountsUp : ℕ → List Output → Type 0
CountsUp last [] = ⊤
CountsUp last (out.Yield sequence number subject payload ∷ outputs) = (number ≡ last + 1) × CountsUp number outputs
CountsUp last (out.Recreate recreation_count start ∷ outputs) = CountsUp 0 outputs
CountsUp last (_ ∷ outputs) = CountsUp last outputs

-- ---- a replay

-- what a replay that is not refused answers: the run of the table, which leaves no gap where the server is honest
pub record IsReplay (g : ReplayInput) (start : ℕ) (es : List events.Event) (run : Run) : Type 0 where
  pub accepted : refuse g start es ≡ None
  pub folded : run ≡ fold g start es
  pub gapless : (s : Server) → IsHonest s g.setup es run → IsGapless s g.setup (yields (all_outputs run))
  pub numbered : CountsUp 0 (all_outputs run)
  pub single : AllByRecursion HasOneRecreation (run.opening ∷ run.steps)

-- what a replay answers: the run of the table, or the refusal that applies; want of memory may come before either
abbrev pub IsAnswer : ReplayInput → ℕ → List events.Event → Result Run ReplayError → Type 0
IsAnswer g start es (Ok run) = IsReplay g start es run
IsAnswer g start es (Err error.OutOfMemory) = ⊤
IsAnswer g start es (Err refusal) = refuse g start es ≡ Some refusal

-- the same of the table alone, from which the rest follows
abbrev pub IsFolded : ReplayInput → ℕ → List events.Event → Result Run ReplayError → Type 0
IsFolded g start es (Ok run) = (refuse g start es ≡ None) × (run ≡ fold g start es)
IsFolded g start es (Err error.OutOfMemory) = ⊤
IsFolded g start es (Err refusal) = refuse g start es ≡ Some refusal
