-- An honest server, and what its consumer has at the end.
use Rattle.std.specs.Prelude.{◌≡◌, ℕ, zero, suc, ◌-◌, ◌<◌, ◌≤◌, ◌⊎◌, List, [], ◌∷◌, ◌++◌, map, length, slice_get, slice_index, Contains, Option, Some, None, IsTrue, IfSome, unwrap_or, ⊤}
use Rattle.std.specs.List.{AllByRecursion}
use Rattle.std.specs.List.Sorted.{IsStrictlyIncreasing}
use Rattle.js_base.specs.declared.message.Message.{Message}
use Rattle.js_base.specs.Subject.{filters_match}
use Rattle.js_message.specs.AckSubject.{Place, readable_as}
use Rattle.js_pull.specs.Kind.{pull_kind}
use Rattle.js_pull.specs.declared.kind.Kind.TheVariants as pull_kinds
use Rattle.js_ordered_table.specs.declared.run.Run.{Run}
use Rattle.js_ordered_table.specs.declared.run.Step.{Step}
use Rattle.js_ordered_table.specs.Texts.{filters, configured_start}
use Rattle.js_ordered_table.specs.Arrivals.{push_kind}
use Rattle.js_ordered_table.specs.declared.kind.PushKind.TheVariants.{Delivered}
use Rattle.js_ordered_table.specs.declared.row.Arrival.{Arrival}
use Rattle.js_ordered_table.specs.declared.setup.OrderedSetup.{OrderedSetup}
use Rattle.js_ordered_table.specs.declared.setup.OrderedSetup.TheVariants.{Pull, Push}
use Rattle.js_ordered_table.specs.declared.event.Event as events
use Rattle.js_ordered_table.specs.declared.event.EventKind.{EventKind}
use Rattle.js_ordered_table.specs.declared.event.EventKind.TheVariants as what
use Rattle.js_ordered_table.specs.declared.run.Start as starts
use Rattle.js_ordered_table.specs.declared.run.Start.TheVariants as start
use Rattle.js_ordered_table.specs.declared.run.Output.{Output}
use Rattle.js_ordered_table.specs.declared.run.Output.TheVariants as out

-- ---- the log

-- a message of a stream, with its sequence
pub record Entry : Type 0 where
  pub subject : List ℕ
  pub sequence : ℕ
  pub payload : List ℕ

-- what the log holds at a sequence
pub record Logged : Type 0 where
  pub subject : List ℕ
  pub payload : List ℕ

-- the entry with a sequence, of which the first has 1
abbrev pub entry_at : List Logged → ℕ → Option Logged
entry_at log zero = None
entry_at log (suc place) = slice_get log place

-- the log holds this entry
abbrev pub IsLogged : List Logged → Entry → Type 0
IsLogged log entry = entry_at log entry.sequence ≡ Some (record { subject = entry.subject; payload = entry.payload })

-- the log has an entry with this sequence, and the setup's filters match its subject
abbrev pub IsMatching : OrderedSetup → List Logged → ℕ → Type 0
IsMatching setup log sequence =
    (entry : Logged) × (entry_at log sequence ≡ Some entry) × IsTrue (filters_match (filters setup) entry.subject)

-- a strictly rising list of matching sequences from a start on, which leaves out a matching one before its last only where that was removed
pub record IsWhole (setup : OrderedSetup) (log : List Logged) (removed : List ℕ) (start : ℕ) (sequences : List ℕ) : Type 0 where
  pub rising : IsStrictlyIncreasing sequences
  pub past_start : (k : ℕ) → k < length sequences → start ≤ slice_index sequences k
  pub matching : (k : ℕ) → k < length sequences → IsMatching setup log (slice_index sequences k)
  pub whole : (q k : ℕ) → IsMatching setup log q → start ≤ q → k < length sequences → q < slice_index sequences k
      → Contains sequences q ⊎ Contains removed q

-- ---- an honest server

-- a log, what was removed from it, and what each inbox is sent: a start and a list of sequences
pub record Server : Type 0 where
  pub log : List Logged
  pub removed : List ℕ
  pub starts : ℕ → ℕ
  pub lists : ℕ → List ℕ

-- the nth message of an inbox is the nth entry of its list
pub record IsDelivery (s : Server) (inbox number : ℕ) (entry : Entry) : Type 0 where
  pub above : 0 < number
  pub within : number ≤ length (s.lists inbox)
  pub listed : slice_index (s.lists inbox) (number - 1) ≡ entry.sequence
  pub logged : IsLogged s.log entry

-- the entry that a message brings
abbrev pub entry_of : Place → Message → Entry
entry_of place message = record { subject = message.subject; sequence = place.sequence; payload = message.payload }

-- it brings one of the stream's messages, and not a status
abbrev pub IsMessage : OrderedSetup → Message → Type 0
IsMessage (Pull setup) message = pull_kind message ≡ pull_kinds.Delivered
IsMessage (Push setup) message = push_kind message ≡ Delivered

-- an arrival that is a readable message is a delivery
abbrev pub IsHonestArrival : OrderedSetup → Server → Arrival → Type 0
IsHonestArrival setup s arrival =
    (place : Place) → IsMessage setup arrival.message → readable_as arrival.message.reply ≡ Some place
    → IsDelivery s arrival.inbox place.number (entry_of place arrival.message)

-- an event brings a delivery, or no arrival
abbrev pub IsHonestEvent : OrderedSetup → Server → EventKind → Type 0
IsHonestEvent setup s (what.Arrival inbox message) = IsHonestArrival setup s (record { inbox = inbox; message = message })
IsHonestEvent setup s _ = ⊤

-- `All` is 1
abbrev pub start_sequence : starts.Start → ℕ
start_sequence start.All = 1
start_sequence (start.From sequence) = sequence

-- each inbox that is subscribed has the start of the last recreation before it
abbrev pub FollowsStarts : (ℕ → ℕ) → ℕ → List Output → Type 0
FollowsStarts starts now [] = ⊤
FollowsStarts starts now (out.Recreate recreation_count from ∷ outputs) = FollowsStarts starts (start_sequence from) outputs
FollowsStarts starts now (out.Subscribe inbox subject ∷ outputs) = (starts inbox ≡ now) × FollowsStarts starts now outputs
FollowsStarts starts now (_ ∷ outputs) = FollowsStarts starts now outputs

-- the outputs of all steps
abbrev pub joined : List Step → List Output
joined [] = []
joined (step ∷ steps) = step.outputs ++ joined steps

-- what a run puts out from its opening to its end
abbrev pub all_outputs : Run → List Output
all_outputs run = run.opening.outputs ++ joined run.steps

-- the lists are whole, each inbox starts where it was asked to, and each arrival is a delivery
pub record IsHonest (s : Server) (setup : OrderedSetup) (es : List events.Event) (run : Run) : Type 0 where
  pub lists : (inbox : ℕ) → IsWhole setup s.log s.removed (s.starts inbox) (s.lists inbox)
  pub first : IfSome (configured_start setup) (λ sequence. s.starts 0 ≡ sequence)
  pub later : FollowsStarts s.starts 0 (all_outputs run)
  pub arrivals : AllByRecursion (λ e. IsHonestEvent setup s e.what) es

-- ---- gapless

-- what was yielded
abbrev pub yields : List Output → List Entry
yields [] = []
yields (out.Yield sequence number subject payload ∷ outputs) = record { subject = subject; sequence = sequence; payload = payload } ∷ yields outputs
yields (_ ∷ outputs) = yields outputs

-- the sequences of entries
abbrev pub sequences : List Entry → List ℕ
sequences entries = map (λ entry. entry.sequence) entries

-- the configured start, or else the first yield
abbrev pub first_due : OrderedSetup → List Entry → ℕ
first_due setup entries = unwrap_or (configured_start setup) (slice_index (sequences entries) 0)

-- the yields are whole from there on, and each has the subject and the payload of the log's entry
pub record IsGapless (s : Server) (setup : OrderedSetup) (entries : List Entry) : Type 0 where
  pub whole : IsWhole setup s.log s.removed (first_due setup entries) (sequences entries)
  pub logged : AllByRecursion (IsLogged s.log) entries
