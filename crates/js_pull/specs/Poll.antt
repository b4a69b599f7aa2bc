-- A polled stream: it passes row after row, each as the link then answers. A poll may stop between any two rows, and the next one goes on there.
use Rattle.std.specs.Prelude.{◌≡◌, ℕ, ◌+◌, ◌*◌, ◌/◌, ◌≤◌, Bool, true, false, ◌↔◌, List, [], ◌∷◌, ◌++◌, Option, Some, None, ⊤, option_map, unwrap_or, if◌then◌else◌}
use Rattle.std.specs.List.{AllByRecursion}
use Rattle.js_base.specs.declared.error.Source.{Source}
use Rattle.js_base.specs.declared.error.Source.TheVariants as source
use Rattle.js_base.specs.declared.message.Message.{Message}
use Rattle.js_base.specs.declared.message.State.{State}
use Rattle.js_base.specs.declared.message.State.TheVariants.{Pending, Connected, Disconnected}
use Rattle.js_link.specs.RowInput.{RowInput}
use Rattle.js_link.specs.Wish.{row_input, message_of, IsClosing}
use Rattle.js_link.specs.declared.wish.Wish.{Wish}
use Rattle.js_link.specs.declared.wish.Wish.TheVariants.{Watches}
use Rattle.js_link.specs.declared.wish.Met.{Met}
use Rattle.js_link.specs.declared.wish.Met.TheVariants.{Stands}
use Rattle.js_link.specs.declared.wish.Wish.TheVariants as asks
use Rattle.js_link.specs.declared.wish.Met.TheVariants as meetings
use Rattle.js_link.specs.declared.sent.Sent.{Sent}
use Rattle.js_pull.specs.declared.reader.Reader.{Reader}
use Rattle.js_pull.specs.Reader.{Answer, Passed, row, wish, answer_of}
use Rattle.js_pull.specs.declared.reader.Reason.TheVariants.{Low}
use Rattle.js_pull.specs.declared.reader.Row.{Row}
use Rattle.js_pull.specs.declared.reader.Row.TheVariants.{Begin, Ask}
use Rattle.js_pull.specs.declared.reader.MessagesErrorKind.{MessagesErrorKind}
use Rattle.js_pull.specs.declared.reader.MessagesErrorKind.TheVariants as error
use Rattle.js_pull.specs.declared.reader.ReaderOutput.{ReaderOutput}
use Rattle.js_pull.specs.declared.reader.ReaderOutput.TheVariants as tells
use Rattle.js_pull.specs.declared.reader.ReaderOutput.TheVariants.{Nothing}

-- where a stream stands: the rows of its event that are still to be passed, and the state that was last told of its connection. A new one
-- begins with the rows of the opening
pub record Position : Type 0 where
  pub reader : Reader
  pub todo : List Row
  pub connection : State

-- how one row is passed: its moment, what its send comes to, and what the link answers to what it asks
pub record Stride : Type 0 where
  pub passing : RowInput
  pub change : Option State
  pub answer : Option Answer
  pub arrival : Option Message

-- where a walk leads, what it sent, and what it told
pub record Moved : Type 0 where
  pub position : Position
  pub sent : List Sent
  pub told : List ReaderOutput

-- an event begins where nothing is left to do
abbrev pub first_row : Option State → List Row → Row
first_row change [] = Begin change
first_row change (row ∷ rows) = row

-- what is left to do after it
abbrev pub later_rows : List Row → List Row
later_rows [] = []
later_rows (row ∷ rows) = rows

-- what a row told, if it told something
abbrev pub told_list : ReaderOutput → List ReaderOutput
told_list Nothing = []
told_list told = told ∷ []

-- how the next row is passed
abbrev pub passed_by : Stride → Position → Passed
passed_by stride at = row stride.passing stride.answer stride.arrival (first_row stride.change at.todo) at.reader

-- the connection after a row: an event begins with its change
abbrev pub connection_after : List Row → Option State → State → State
connection_after [] change last = unwrap_or change last
connection_after (row ∷ rows) change last = last

-- one row
abbrev pub step : Stride → Position → Position
step stride at =
    let passed = passed_by stride at in
    record { reader = passed.reader; todo = passed.next ++ later_rows at.todo; connection = connection_after at.todo stride.change at.connection }

-- row after row
abbrev pub walk : List Stride → Position → Moved
walk [] at = record { position = at; sent = []; told = [] }
walk (stride ∷ strides) at =
    let passed = passed_by stride at in
    let rest = walk strides (step stride at) in
    record { position = rest.position; sent = passed.sent ++ rest.sent; told = told_list passed.told ++ rest.told }

-- a closed inbox ends a stream
abbrev pub closed_at : Bool → Position → Position
closed_at true at = record { reader = record at.reader { ended = true }; todo = []; connection = at.connection }
closed_at false at = at

-- ---- how much is pending

-- a batch and a half, and a batch for each request that ended an info without a reset
pub record IsBounded (r : Reader) : Type 0 where
  pub bytes : r.source.config.max_bytes ≡ 0
  pub pending : r.pending ≤ r.source.config.batch + r.source.config.batch / 2 + r.unreset_requests * r.source.config.batch

-- a request that the threshold brings is passed next, while little is pending
abbrev pub IsLowRequest : Row → Type 0
IsLowRequest (Ask Low) = ⊤
IsLowRequest _ = ⊥

-- such a request is the first row that is left, or none
abbrev pub IsReady : Reader → List Row → Type 0
IsReady r [] = ⊤
IsReady r (row ∷ rows) =
    (IsLowRequest row → r.pending ≤ r.source.config.batch / 2) × AllByRecursion (λ later. IsLowRequest later → ⊥) rows

-- a stream keeps the bound with each row
pub record IsBoundedAt (at : Position) : Type 0 where
  pub reader : IsBounded at.reader
  pub todo : IsReady at.reader at.todo

-- ---- a call of a stream

-- what a call answers: a message, an error with its source, that it waits or its event is over, the end, or want of memory
pub data PollAnswer : Type 0 where
  HandsOut : Message → PollAnswer
  Fails : MessagesErrorKind → Option Source → PollAnswer
  Waits Ends Lacks : PollAnswer

-- what an answer hands out
abbrev pub told_by : PollAnswer → List ReaderOutput
told_by (HandsOut message) = tells.Hands message ∷ []
told_by (Fails kind from) = tells.Tells kind ∷ []
told_by _ = []

-- the message that the last row looked at
abbrev pub last_arrival : List Stride → Option Message
last_arrival [] = None
last_arrival (stride ∷ []) = stride.arrival
last_arrival (stride ∷ strides) = last_arrival strides

-- the description of a message
abbrev pub description_of : Option Message → Option (List ℕ)
description_of None = None
description_of (Some message) = message.description

-- a limit is told with the server's description, and an error of any other kind with no text
abbrev pub text_of : MessagesErrorKind → Option Message → Option (List ℕ)
text_of error.RequestLimitExceeded message = description_of message
text_of kind message = None

-- the source that an error has which is told with this text: the text, where there is one
abbrev pub text_source : Option (List ℕ) → Option Source
text_source text = option_map (λ text. source.Text text) text

-- an error has the source of its kind and of the message that the last row looked at
abbrev pub HasSource : PollAnswer → List Stride → Type 0
HasSource (Fails kind from) strides = from ≡ text_source (text_of kind (last_arrival strides))
HasSource _ strides = ⊤

-- no event begins along these rows
abbrev pub IsWithin : List Stride → Position → Type 0
IsWithin [] at = ⊤
IsWithin (stride ∷ strides) at = (at.todo ≡ [] → ⊥) × IsWithin strides (step stride at)

-- an event begins with this change, if one begins, and none after it
abbrev pub IsOneEvent : Option State → List Stride → Position → Type 0
IsOneEvent change [] at = ⊤
IsOneEvent change (stride ∷ strides) at = (at.todo ≡ [] → stride.change ≡ change) × IsWithin strides (step stride at)

-- an event from its beginning to its end, without a message and without an answer
abbrev pub IsQuietEvent : List Stride → Position → Type 0
IsQuietEvent strides from =
    (strides ≡ [] → ⊥) × (from.todo ≡ []) × ((walk strides from).position.todo ≡ []) × ((walk strides from).told ≡ [])
    × AllByRecursion (λ stride. stride.arrival ≡ None) strides

-- no row but the last one tells something
abbrev pub StopsAtFirst : List Stride → Position → Type 0
StopsAtFirst [] at = ⊤
StopsAtFirst (stride ∷ []) at = ⊤
StopsAtFirst (stride ∷ strides) at = ((passed_by stride at).told ≡ Nothing) × StopsAtFirst strides (step stride at)

-- the same state
abbrev pub same_state : State → State → Bool
same_state Pending Pending = true
same_state Connected Connected = true
same_state Disconnected Disconnected = true
same_state _ _ = false

-- the change that a watcher shows: another state than the last one
abbrev pub change_met : State → Met → Option State
change_met last (Stands state) = if same_state last state then None else Some state
change_met last met = None

-- a closed inbox is met at the end of a walk, and at no row along it
abbrev pub IsOpen : Met → Type 0
IsOpen meetings.Shut = ⊥
IsOpen met = ⊤

-- an event begins with the change that is given, or with one that is asked for; a later row asks what it wishes
abbrev pub first_wish : Wish → List Row → Reader → Wish
first_wish begins [] r = begins
first_wish begins (row ∷ rows) r = wish row r

-- what the next row asks
abbrev pub wish_next : Wish → Position → Wish
wish_next begins at = first_wish begins at.todo at.reader

-- a row is passed at this moment with what it met
pub record IsStride (now : ℕ) (last : State) (wish : Wish) (met : Met) (stride : Stride) : Type 0 where
  pub is_open : IsOpen met
  pub passing : stride.passing ≡ row_input now met
  pub change : wish ≡ Watches → stride.change ≡ change_met last met
  pub answer : stride.answer ≡ answer_of wish met
  pub arrival : stride.arrival ≡ message_of met

-- at each row the link does the one thing that the row asks, as `meets` says it of the link before and after the row
abbrev pub IsMet : {V : Type 0} → ℕ → (Wish → Met → V → V → Type 0) → Wish → List Stride → Position → V → V → Type 0
IsMet now meets begins [] at before after = after ≡ before
IsMet {V} now meets begins (stride ∷ strides) at before after =
    (met : Met) × (between : V) × IsStride now at.connection (wish_next begins at) met stride
    × meets (wish_next begins at) met before between
    × IsMet now meets begins strides (step stride at) between after

-- a call passes rows at its moment from where the last one stopped, up to the first that tells something
pub record IsCall {V : Type 0} (meets : Wish → Met → V → V → Type 0) (now : ℕ) (begins : Wish) (strides : List Stride) (closed : Bool) (old new : Position) (before after : V) (answer : PollAnswer) : Type 0 where
  pub leads : new ≡ closed_at closed (walk strides old).position
  pub between : V
  pub met : IsMet now meets begins strides old before between
  pub closing : IsClosing meets (wish_next begins (walk strides old).position) closed between after
  pub told : (walk strides old).told ≡ told_by answer
  pub stops : StopsAtFirst strides old
  pub source : HasSource answer strides
  pub bounded : IsBoundedAt old → IsBoundedAt new

-- `poll_next`: event after event
pub record IsPoll {V : Type 0} (meets : Wish → Met → V → V → Type 0) (now : ℕ) (old new : Position) (before after : V) (answer : PollAnswer) : Type 0 where
  pub strides : List Stride
  pub closed : Bool
  pub call : IsCall meets now Watches strides closed old new before after answer
  pub ended : answer ≡ Ends → new.reader.ended ≡ true
  pub alive : answer ≡ Waits → new.reader.ended ≡ false
  pub waits : answer ≡ Waits → (first : List Stride) × (last : List Stride) × (strides ≡ first ++ last) × IsQuietEvent last (walk first old).position

-- `advance`: within one event, up to its end where nothing is told
pub record IsAdvance {V : Type 0} (meets : Wish → Met → V → V → Type 0) (now : ℕ) (change : Option State) (old new : Position) (before after : V) (answer : PollAnswer) : Type 0 where
  pub strides : List Stride
  pub closed : Bool
  pub call : IsCall meets now asks.Nothing strides closed old new before after answer
  pub within : IsOneEvent change strides old
  pub ended : answer ≡ Ends ↔ (closed ≡ true)
  pub done : answer ≡ Waits → (strides ≡ [] → ⊥) × (new.todo ≡ [])
