-- A poll of an ordered consumer: row after row, each as the link then answers, up to the first that hands something out.
use Rattle.std.specs.Prelude.{◌≡◌, ◌≢◌, ◌⊎◌, ℕ, Bool, true, false, ◌&&◌, not, ◌↔◌, List, [], ◌∷◌, ◌++◌, Option, Some, None, option_map, is_some, ⊤}
use Rattle.js_base.specs.declared.message.Message.{Message}
use Rattle.js_link.specs.Wish.{IsClosing, is_shut}
use Rattle.js_link.specs.declared.wish.Wish.{Wish}
use Rattle.js_link.specs.declared.wish.Wish.TheVariants.{Nothing}
use Rattle.js_link.specs.declared.wish.Met.{Met}
use Rattle.js_message.specs.AckSubject.{Place, readable_as}
use Rattle.js_ordered_table.specs.declared.consumer.ReplayInput.{ReplayInput}
use Rattle.js_ordered_table.specs.declared.consumer.Phase.{Phase}
use Rattle.js_ordered_table.specs.declared.consumer.Phase.TheVariants.{Pulls, Pushes, Ended, Exhausted}
use Rattle.js_ordered_table.specs.declared.row.Row.{Row}
use Rattle.js_ordered_table.specs.declared.row.Row.TheVariants.{Hold, Hear}
use Rattle.js_ordered_table.specs.declared.run.ItemKind.{ItemKind}
use Rattle.js_ordered_table.specs.declared.run.ItemKind.TheVariants as item
use Rattle.js_ordered_table.specs.declared.run.Output.{Output}
use Rattle.js_ordered_table.specs.declared.run.Output.TheVariants as out
use Rattle.js_ordered_table.specs.declared.setup.OrderedSetup.{OrderedSetup}
use Rattle.js_ordered_table.specs.Fold.{is_over}
use Rattle.js_ordered_table.specs.Gapless.{Server, IsWhole}
use Rattle.js_ordered_table.specs.Invariant.{Joins}
use Rattle.js_ordered_table.specs.Walk.{Position, Stride, step, walk, first_row, handed, IsStride, IsHonestWalk, IsKeptPosition}
use Rattle.js_ordered_table.specs.Wishes.{wish_at}

-- ---- what a row asks

-- A poll holds nothing: what comes for the inbox of a create stays in the link, and is the arrival of a later turn.
abbrev pub poll_wish_at : ReplayInput → Row → Phase → Wish
poll_wish_at g Hold phase = Nothing
poll_wish_at g row phase = wish_at g row phase

abbrev pub poll_wish : ReplayInput → Position → Wish
poll_wish g at = poll_wish_at g (first_row at.todo) at.consumer.phase

-- at each row the link does the one thing that the row asks, as `meets` says it of the link before and after the row; no row is passed with a closed inbox
abbrev pub IsMet : {V : Type 0} → ReplayInput → ℕ → (Wish → Met → V → V → Type 0) → List Stride → Position → V → V → Type 0
IsMet g now meets [] at before after = after ≡ before
IsMet {V} g now meets (stride ∷ strides) at before after =
    (met : Met) × (between : V) × IsStride now (poll_wish g at) met stride × (is_shut met ≡ false)
    × meets (poll_wish g at) met before between
    × IsMet g now meets strides (step g stride at).position between after

-- ---- a quiet turn

-- an inbox is read
abbrev pub is_reading : Phase → Bool
is_reading (Pulls reader) = true
is_reading (Pushes inbox heartbeat_timer) = true
is_reading phase = false

-- an inbox is read that was not read before
abbrev pub has_started : Phase → Phase → Bool
has_started before after = not (is_reading before) && is_reading after

-- a row took no message, and started no reader
pub record IsQuietRow (g : ReplayInput) (stride : Stride) (at : Position) : Type 0 where
  pub untaken : is_some stride.matter.arrival ≡ false
  pub unstarted : has_started at.consumer.phase (step g stride at).position.consumer.phase ≡ false

abbrev pub AreQuiet : ReplayInput → List Stride → Position → Type 0
AreQuiet g [] at = ⊤
AreQuiet g (stride ∷ strides) at = IsQuietRow g stride at × AreQuiet g strides (step g stride at).position

-- a turn that begins where nothing is left to do ends there again; it has a row, and each of its rows is quiet
abbrev pub IsQuietTurn : ReplayInput → List Stride → Position → Type 0
IsQuietTurn g strides from =
    (from.todo ≡ []) × (strides ≡ [] → ⊥) × ((walk g strides from).position.todo ≡ []) × AreQuiet g strides from

-- ---- what a poll answers

-- a message that is yielded, an error, that there is no sequence to go on from, that it waits, the end, or want of memory
pub data Answer : Type 0 where
  Yields : Message → Answer
  Tells : ItemKind → Answer
  HandsEnd Waits Ends Lacks : Answer

-- a yield at the place that its reply tells
abbrev pub yielded : Option Place → Message → Output
yielded (Some place) message = out.Yield place.sequence place.number message.subject message.payload
yielded None message = out.Item item.Other  -- a message without a place is never yielded

-- what an answer hands out
abbrev pub handed_by : Answer → List Output
handed_by (Yields message) = yielded (readable_as message.reply) message ∷ []
handed_by (Tells kind) = out.Item kind ∷ []
handed_by _ = []

-- the message that a row looks at: push hears what a row before it took, any other row looks at what it takes itself
abbrev pub looked_at : Row → Stride → Option Message
looked_at (Hear arrival) stride = Some arrival.message
looked_at row stride = option_map (λ arrival. arrival.message) stride.matter.arrival

-- the message that the last row looked at
abbrev pub last_arrival : ReplayInput → List Stride → Position → Option Message
last_arrival g [] at = None
last_arrival g (stride ∷ []) at = looked_at (first_row at.todo) stride
last_arrival g (stride ∷ strides) at = last_arrival g strides (step g stride at).position

-- what is yielded is the whole message that the last row looked at
abbrev pub IsTaken : ReplayInput → Answer → List Stride → Position → Type 0
IsTaken g (Yields message) strides at = last_arrival g strides at ≡ Some message
IsTaken g answer strides at = ⊤

-- no row but the last one hands something out
abbrev pub StopsAtFirst : ReplayInput → List Stride → Position → Type 0
StopsAtFirst g [] at = ⊤
StopsAtFirst g (stride ∷ strides) at =
    (strides ≢ [] → handed (step g stride at).outputs ≡ []) × StopsAtFirst g strides (step g stride at).position

-- a closed inbox ends a consumer
abbrev pub closed_at : Bool → Position → Position
closed_at true at = record { consumer = record at.consumer { phase = Ended }; todo = [] }
closed_at false at = at

-- ---- an honest server

-- a yield at this place joins the last one
abbrev pub JoinsPlace : OrderedSetup → Server → ℕ → Option Place → Message → Type 0
JoinsPlace setup s last None message = ⊤
JoinsPlace setup s last (Some place) message = Joins setup s last (record { subject = message.subject; sequence = place.sequence; payload = message.payload })

-- a yield that is handed out joins the last one before the poll
abbrev pub JoinsAnswer : OrderedSetup → Server → ℕ → Answer → Type 0
JoinsAnswer setup s last (Yields message) = JoinsPlace setup s last (readable_as message.reply) message
JoinsAnswer setup s last answer = ⊤

-- what a poll keeps where the server is honest
pub record KeepsPoll (setup : OrderedSetup) (s : Server) (last : ℕ) (new : Position) (answer : Answer) : Type 0 where
  pub kept : IsKeptPosition setup s new
  pub joins : JoinsAnswer setup s last answer

-- the lists of a server are whole
abbrev pub HasWholeLists : OrderedSetup → Server → Type 0
HasWholeLists setup s = (inbox : ℕ) → IsWhole setup s.log s.removed (s.starts inbox) (s.lists inbox)

-- ---- a poll

-- a poll passes rows at its moment from where the last one stopped, up to the first that hands something out
pub record IsPoll {V : Type 0} (g : ReplayInput) (meets : Wish → Met → V → V → Type 0) (now : ℕ) (old new : Position) (before after : V) (answer : Answer) : Type 0 where
  pub strides : List Stride
  pub closed : Bool
  pub leads : new ≡ closed_at closed (walk g strides old).position
  pub between : V
  pub met : IsMet g now meets strides old before between
  pub closing : IsClosing meets (poll_wish g (walk g strides old).position) closed between after
  pub out : handed (walk g strides old).outputs ≡ handed_by answer
  pub taken : IsTaken g answer strides old
  pub stops : StopsAtFirst g strides old
  -- that there is no sequence to go on from is told by the poll in which the consumer came to its end so
  pub exhausted : answer ≡ HandsEnd → (old.consumer.phase ≢ Exhausted) × (new.consumer.phase ≡ Exhausted)
  -- the end comes exactly where this poll found its inbox closed, or the consumer had ended before it
  pub ended : answer ≡ Ends ↔ ((closed ≡ true) ⊎ (is_over old.consumer.phase ≡ true))
  -- it waits only after a quiet turn, and where it can go on
  pub alive : answer ≡ Waits → new.consumer.phase ≢ Exhausted
  pub waits : answer ≡ Waits → (first : List Stride) × (last : List Stride) × (strides ≡ first ++ last) × IsQuietTurn g last (walk g first old).position
  -- a poll that lacks memory has not come to the end that is told once
  pub unspent : answer ≡ Lacks → new.consumer.phase ≢ Exhausted
  pub gapless : (s : Server) → HasWholeLists g.setup s → IsKeptPosition g.setup s old → IsHonestWalk g s strides old → KeepsPoll g.setup s old.consumer.core.stream_sequence new answer
