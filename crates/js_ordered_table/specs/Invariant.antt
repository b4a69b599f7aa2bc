-- What a consumer of an honest server keeps with each row, so that its yields join.
use Rattle.std.specs.Prelude.{◌≡◌, ℕ, ◌-◌, ◌<◌, ◌≤◌, List, [], ◌∷◌, length, slice_index, Contains, IfSome, ⊤}
use Rattle.std.specs.List.{AllByRecursion}
use Rattle.js_ordered_table.specs.Gapless.{Entry}
use Rattle.js_ordered_table.specs.declared.consumer.Consumer.{Consumer}
use Rattle.js_ordered_table.specs.Consumer.{Matter}
use Rattle.js_ordered_table.specs.declared.consumer.Recreation.{Recreation}
use Rattle.js_ordered_table.specs.declared.consumer.Opened.{Opened}
use Rattle.js_ordered_table.specs.Texts.{configured_start}
use Rattle.js_ordered_table.specs.OrderedCore.{start_after}
use Rattle.js_ordered_table.specs.Gapless.{Server, IsMatching, IsLogged, IsHonestArrival, start_sequence, FollowsStarts}
use Rattle.js_ordered_table.specs.declared.consumer.Phase.{Phase}
use Rattle.js_ordered_table.specs.declared.consumer.Phase.TheVariants.{Pulls, Pushes, Recreates, Idle, Ended, Exhausted}
use Rattle.js_ordered_table.specs.declared.row.Row.{Row}
use Rattle.js_ordered_table.specs.declared.row.Row.TheVariants.{Hear}
use Rattle.js_ordered_table.specs.declared.setup.OrderedSetup.{OrderedSetup}
use Rattle.js_ordered_table.specs.declared.setup.OrderedSetup.TheVariants.{Pull, Push}
use Rattle.js_ordered_table.specs.declared.run.Start as starts
use Rattle.js_ordered_table.specs.declared.run.Output.{Output}
use Rattle.js_ordered_table.specs.declared.run.Output.TheVariants as out

-- ---- yields that join

-- what matches between two sequences was removed, the first among them
abbrev pub IsRemovedFrom : OrderedSetup → Server → ℕ → ℕ → Type 0
IsRemovedFrom setup s from to = (q : ℕ) → IsMatching setup s.log q → from ≤ q → q < to → Contains s.removed q

-- a first yield is not before the start, and what matches before it was removed
pub record IsFirst (setup : OrderedSetup) (s : Server) (sequence start : ℕ) : Type 0 where
  pub past_start : start ≤ sequence
  pub before : IsRemovedFrom setup s start sequence

-- a yield after `last`, 0 for none: what matches between the two was removed, and so from the configured start to a first yield
pub record Joins (setup : OrderedSetup) (s : Server) (last : ℕ) (entry : Entry) : Type 0 where
  pub above : last < entry.sequence
  pub matching : IsMatching setup s.log entry.sequence
  pub logged : IsLogged s.log entry
  pub between : 0 < last → (q : ℕ) → IsMatching setup s.log q → last < q → q < entry.sequence → Contains s.removed q
  pub first : last ≡ 0 → IfSome (configured_start setup) (IsFirst setup s entry.sequence)

-- each yield joins the one before it, from `before` on up to `after`
abbrev pub Extends : OrderedSetup → Server → ℕ → List Output → ℕ → Type 0
Extends setup s before [] after = after ≡ before
Extends setup s before (out.Yield sequence number subject payload ∷ outputs) after =
    Joins setup s before (record { subject = subject; sequence = sequence; payload = payload }) × Extends setup s sequence outputs after
Extends setup s before (_ ∷ outputs) after = Extends setup s before outputs after

-- ---- the fact that each row keeps

-- the sequence from which a recreation asks after this yield
abbrev pub next_start : OrderedSetup → ℕ → ℕ
next_start setup last = start_sequence (start_after (configured_start setup) last)

-- nothing was accepted on the first inbox yet
pub record IsUnread (setup : OrderedSetup) (s : Server) (last inbox : ℕ) : Type 0 where
  pub none : last ≡ 0
  pub start : IfSome (configured_start setup) (λ sequence. s.starts inbox ≡ sequence)

-- on the current inbox: the last yield is entry `consumer_sequence` of its list; where nothing was accepted on it yet, it starts where it was asked to
pub record IsKeptOn (setup : OrderedSetup) (s : Server) (consumer_sequence last recreation_count inbox : ℕ) : Type 0 where
  pub reached : 0 < consumer_sequence → (consumer_sequence ≤ length (s.lists inbox)) × (slice_index (s.lists inbox) (consumer_sequence - 1) ≡ last)
  pub first : consumer_sequence ≡ 0 → recreation_count ≡ 0 → IsUnread setup s last inbox
  pub later : consumer_sequence ≡ 0 → 0 < recreation_count → s.starts inbox ≡ next_start setup last

-- an inbox that a recreation has subscribed has its start, and what it holds is honest
pub record IsKeptOpened (setup : OrderedSetup) (s : Server) (start : starts.Start) (opened : Opened) : Type 0 where
  pub starts : s.starts opened.inbox ≡ start_sequence start
  pub held : AllByRecursion (λ message. IsHonestArrival setup s (record { inbox = opened.inbox; message = message })) opened.held

-- a recreation has the start that the last yield names, and nothing is accepted yet
pub record IsKeptIn (setup : OrderedSetup) (s : Server) (consumer_sequence last recreation_count : ℕ) (r : Recreation) : Type 0 where
  pub start : r.start ≡ start_after (configured_start setup) last
  pub fresh : consumer_sequence ≡ 0
  pub later : 0 < recreation_count
  pub opened : IfSome r.opened (IsKeptOpened setup s r.start)

-- pull mode
abbrev pub IsPull : OrderedSetup → Type 0
IsPull (Pull setup) = ⊤
IsPull (Push setup) = ⊥

-- push mode
abbrev pub IsPush : OrderedSetup → Type 0
IsPush (Pull setup) = ⊥
IsPush (Push setup) = ⊤

-- the kept fact at a phase
abbrev pub IsKeptAt : OrderedSetup → Server → Consumer → Phase → Type 0
IsKeptAt setup s c (Pulls reader) = IsPull setup × IsKeptOn setup s c.core.consumer_sequence c.core.stream_sequence c.core.recreation_count reader.source.inbox
IsKeptAt setup s c (Pushes inbox heartbeat_timer) = IsPush setup × IsKeptOn setup s c.core.consumer_sequence c.core.stream_sequence c.core.recreation_count inbox
IsKeptAt setup s c (Recreates r) = IsKeptIn setup s c.core.consumer_sequence c.core.stream_sequence c.core.recreation_count r
IsKeptAt setup s c Idle = ⊤
IsKeptAt setup s c Ended = ⊤
IsKeptAt setup s c Exhausted = ⊤

-- the kept fact: the consumer has the setup's start too
abbrev pub IsKept : OrderedSetup → Server → Consumer → Type 0
IsKept setup s c = IsKeptAt setup s c c.phase × (c.core.start ≡ configured_start setup)

-- a row that waits to be passed with an arrival has an honest one
abbrev pub IsHonestRow : OrderedSetup → Server → Row → Type 0
IsHonestRow setup s (Hear arrival) = IsHonestArrival setup s arrival
IsHonestRow setup s _ = ⊤

-- what the link answers is honest
abbrev pub IsHonestMatter : OrderedSetup → Server → Matter → Type 0
IsHonestMatter setup s m = IfSome m.arrival (IsHonestArrival setup s)

-- what a recreation subscribes starts where it asked
abbrev pub OpensAsAsked : Server → Phase → List Output → Type 0
OpensAsAsked s (Recreates r) outputs = FollowsStarts s.starts (start_sequence r.start) outputs
OpensAsAsked s _ outputs = ⊤
