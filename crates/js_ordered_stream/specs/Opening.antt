-- What the polled consumers of either mode are to a caller, and how one begins.
use Rattle.std.specs.Prelude.{◌≡◌, ℕ, List, [], ◌∷◌, Some, None, Result, Ok, Err, codes, map}
use Rattle.js_json.specs.declared.consumer.info.Info.{Info}
use Rattle.js_json.specs.declared.pull.OrderedConfig as pull_config
use Rattle.js_json.specs.declared.push.OrderedConfig as push_config
use Rattle.js_link.specs.Calls.{Opens, OpensOwn, FailsToSend, RefusedSend}
use Rattle.js_link.specs.declared.link.LinkError.{LinkError}
use Rattle.js_link.specs.LinkView.{LinkView}
use Rattle.js_link.specs.Meets.{Meets}
use Rattle.js_ordered_stream.specs.declared.pull.Ordered as pulls
use Rattle.js_ordered_stream.specs.declared.push.Ordered as pushes
use Rattle.js_ordered_stream.specs.declared.push.OpenError.{OpenError}
use Rattle.js_ordered_stream.specs.declared.push.OpenError.TheVariants as refusal
use Rattle.js_ordered_stream.specs.Life.{IsGaplessLife}
use Rattle.js_ordered_stream.specs.Ordered.{first_at, given_to, position_of, with_retries}
use Rattle.js_pull.specs.Reader.{new_reader, opening}
use Rattle.js_ordered_table.specs.declared.consumer.Consumer.{Consumer}
use Rattle.js_ordered_table.specs.declared.consumer.ReplayInput.{ReplayInput}
use Rattle.js_ordered_table.specs.declared.consumer.Phase.TheVariants.{Pulls, Pushes}
use Rattle.js_ordered_table.specs.declared.row.Row.TheVariants.{Arm, Read}
use Rattle.js_ordered_table.specs.declared.setup.OrderedSetup.TheVariants.{Pull, Push}
use Rattle.js_ordered_table.specs.declared.setup.Settings.{Settings}
use Rattle.js_ordered_table.specs.Arrivals.{armed}
use Rattle.js_ordered_table.specs.Texts.{configured_start, pull_source}
use Rattle.js_ordered_table.specs.Walk.{Position}

-- ---- pull

-- what it is made with
abbrev pub input_of_pull : pulls.Ordered → ReplayInput
input_of_pull o = given_to o.polled.ordered

-- where it stands
abbrev pub position_of_pull : pulls.Ordered → Position
position_of_pull o = position_of o.polled.ordered

-- a consumer whose reader reads this inbox, and has read nothing yet
abbrev pub reads_first : ReplayInput → ℕ → List ℕ → Consumer
reads_first g inbox subject = first_at (configured_start g.setup) g.first.name (Pulls (new_reader (pull_source g 0 inbox subject g.first)))

-- before its opening is passed
abbrev pub opened_at : ReplayInput → ℕ → List ℕ → Position
opened_at g inbox subject = record { consumer = reads_first g inbox subject; todo = map Read opening }

-- an inbox is opened for the reader of the first consumer
abbrev pub OpensConsumer : Result Consumer LinkError → ReplayInput → LinkView → LinkView → Type 0
OpensConsumer (Ok c) g old new = (inbox : ℕ) × (subject : List ℕ) × OpensOwn inbox subject old new × (c ≡ reads_first g inbox subject)
OpensConsumer (Err e) g old new = RefusedSend e old new

-- what `open` does: it opens one inbox, and asks for nothing
abbrev pub OpensOrdered : Result pulls.Ordered LinkError → Settings → pull_config.OrderedConfig → Info → LinkView → LinkView → Type 0
OpensOrdered (Ok o) settings config first old new =
    (inbox : ℕ) × (subject : List ℕ) × OpensOwn inbox subject old new
    × (input_of_pull o ≡ record { settings = with_retries settings; setup = Pull config; first = first })
    × (position_of_pull o ≡ opened_at (input_of_pull o) inbox subject)
OpensOrdered (Err e) settings config first old new = RefusedSend e old new

-- however it is polled from here on, what it yields is gapless where the server is honest
abbrev pub IsGaplessPull : pulls.Ordered → Type 0
IsGaplessPull o = IsGaplessLife (input_of_pull o) Meets (position_of_pull o)

-- ---- push

-- what it is made with
abbrev pub input_of_push : pushes.Ordered → ReplayInput
input_of_push o = given_to o.polled.ordered

-- where it stands
abbrev pub position_of_push : pushes.Ordered → Position
position_of_push o = position_of o.polled.ordered

-- how a refusal to open one is printed
abbrev pub open_text : OpenError → List ℕ
open_text refusal.NoDeliverSubject = codes "no deliver subject"
open_text refusal.Failed = codes "subscription failed"
open_text refusal.OutOfMemory = codes "out of memory"

-- nothing was opened: no subject is named, the link refused, or there was no memory
abbrev pub RefusesOpen : OpenError → Info → LinkView → LinkView → Type 0
RefusesOpen refusal.NoDeliverSubject first old new = (first.config.deliver_subject ≡ None) × (new ≡ old)
RefusesOpen refusal.Failed first old new = FailsToSend old new
RefusesOpen refusal.OutOfMemory first old new = new ≡ old

-- this inbox was opened under the subject that is delivered to, in no group
abbrev pub OpensDelivery : ℕ → Info → LinkView → LinkView → Type 0
OpensDelivery inbox first old new = (subject : List ℕ) × (first.config.deliver_subject ≡ Some subject) × Opens inbox subject None old new

abbrev pub Subscribes : Result ℕ OpenError → Info → LinkView → LinkView → Type 0
Subscribes (Ok inbox) first old new = OpensDelivery inbox first old new
Subscribes (Err e) first old new = RefusesOpen e first old new

-- a consumer that listens to this inbox, and has heard nothing yet
abbrev pub listens_first : ReplayInput → ℕ → Consumer
listens_first g inbox = first_at (configured_start g.setup) g.first.name (Pushes inbox (armed 0))

-- the first consumer listens to the inbox that was opened
abbrev pub ListensFirst : Result Consumer OpenError → ReplayInput → LinkView → LinkView → Type 0
ListensFirst (Ok c) g old new = (inbox : ℕ) × OpensDelivery inbox g.first old new × (c ≡ listens_first g inbox)
ListensFirst (Err e) g old new = RefusesOpen e g.first old new

-- what `open` does: it opens the one inbox, and the first poll begins by arming the heartbeat
abbrev pub OpensPushed : Result pushes.Ordered OpenError → Settings → push_config.OrderedConfig → Info → LinkView → LinkView → Type 0
OpensPushed (Ok o) settings config first old new =
    (inbox : ℕ) × OpensDelivery inbox first old new
    × (input_of_push o ≡ record { settings = with_retries settings; setup = Push config; first = first })
    × (position_of_push o ≡ record { consumer = listens_first (input_of_push o) inbox; todo = Arm ∷ [] })
OpensPushed (Err e) settings config first old new = RefusesOpen e first old new

-- however it is polled from here on, what it yields is gapless where the server is honest
abbrev pub IsGaplessPush : pushes.Ordered → Type 0
IsGaplessPush o = IsGaplessLife (input_of_push o) Meets (position_of_push o)
