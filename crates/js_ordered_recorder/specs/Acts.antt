-- What a recorder does, act by act.
use Rattle.std.specs.Prelude.{◌≡◌, ◌⊎◌, ℕ, ◌+◌, max, Bool, true, false, List, [], ◌∷◌, ◌++◌, drop, slice_get, Option, Some, None, ⊤}
use Rattle.js_base.specs.declared.message.Message.{Message}
use Rattle.js_link.specs.LinkView.{LinkView}
use Rattle.js_ordered_recorder.specs.Sends.{GoesTo, Outgoing, worked_as}
use Rattle.js_ordered_recorder.specs.LinkInput.{AnswersAs, ArrivesAs, HasNoAnswer, HasNoArrival, awaited_at, awaited_in, change_in, kind_of, link_in, listened_at, message_at, read_in, tick_in}
use Rattle.js_ordered_recorder.specs.declared.recorder.Recorder.{Recorder}
use Rattle.js_ordered_recorder.specs.declared.output_delivery.Worked.{Worked}
use Rattle.js_ordered_recorder.specs.declared.output_delivery.Worked.TheVariants as worked
use Rattle.js_ordered_recorder.specs.declared.link_event.Taken.{Taken}
use Rattle.js_ordered.specs.IncrementalReplay.{HasCome, IsWithin}
use Rattle.js_ordered_table.specs.Fold.{is_over}
use Rattle.js_ordered_table.specs.declared.consumer.Phase.{Phase}
use Rattle.js_ordered_table.specs.declared.consumer.ReplayInput.{ReplayInput}
use Rattle.js_ordered_table.specs.declared.event.Event.{Event}
use Rattle.js_ordered_table.specs.declared.run.Output.{Output}
use Rattle.js_ordered_table.specs.declared.run.Output.TheVariants as out

-- a recorder, and its link
pub record World : Type 0 where
  pub recorder : Recorder
  pub link : LinkView

-- where the consumer stands
abbrev pub phase_of : Recorder → Phase
phase_of r = r.replay.value.state.consumer.phase

-- what the last turn put out and is not worked off yet. Within an event there is nothing
abbrev pub left_of : Option Event → ℕ → List Output → List Output
left_of None worked outputs = drop worked outputs
left_of (Some e) worked outputs = []

abbrev pub queue : Recorder → List Output
queue r = left_of r.event r.worked r.replay.value.outputs

-- nothing is taken that is not an event yet, and no event is half passed
pub record Rests (r : Recorder) : Type 0 where
  pub taken : r.taken ≡ None
  pub event : r.event ≡ None

-- one thing is done
pub data Act : Type 0 where
  Takes : Taken → Act  -- something is taken from the link
  Writes : Event → Act  -- the event of it is written
  Passes : Act  -- the replay passes the event
  Stops : Act  -- memory runs out within the event
  Works : Output → Act  -- what the replay has put out is worked off

-- ---- Takes

-- the caller has said it of the link; or the connection has changed; or the awaited answer has
-- come, or is gone; or it is the first message of the inbox; or a timer is due
abbrev pub Gives : ℕ → Taken → Recorder → LinkView → LinkView → Type 0
Gives now one r old new =
    ((new ≡ old) × (link_in r.link_up r.replay.value.state.link_up ≡ Some one))
    ⊎ (((new ≡ old) × (change_in r.setup.now r.replay.value.state.consumer.connection old.watch ≡ Some one))
    ⊎ ((AnswersAs (awaited_at (awaited_in (phase_of r)) r.sends.asked) (Some one) old new)
    ⊎ ((ArrivesAs (listened_at (read_in (phase_of r)) r.sends) (Some one) old new)
    ⊎ ((new ≡ old) × (tick_in (max now r.moment) (phase_of r) ≡ Some one)))))

-- one thing is taken, where all is worked off and the consumer has not ended
pub record TakesOne (now : ℕ) (one : Taken) (a b : World) : Type 0 where
  pub rests : Rests a.recorder
  pub empty : queue a.recorder ≡ []
  pub alive : is_over (phase_of a.recorder) ≡ false
  pub given : Gives now one a.recorder a.link b.link
  pub kept : b.recorder ≡ record a.recorder { taken = Some one }

-- ---- Writes

-- the event of what was taken: now, or at the last moment where that is later
abbrev pub event_of : ℕ → ℕ → Taken → Event
event_of now last one = record { at = max now last; what = kind_of one }

-- it is given to the recording
pub record WritesDown (now : ℕ) (e : Event) (a b : World) : Type 0 where
  pub one : Taken
  pub brought : a.recorder.taken ≡ Some one
  pub is : e ≡ event_of now a.recorder.moment one
  pub kept : b.recorder ≡ record a.recorder { taken = None; event = Some e; message = message_at a.recorder.taken; moment = e.at; fault = b.recorder.fault }
  pub link : b.link ≡ a.link

-- ---- Passes and Stops

-- the replay has passed its event, and what it put out is to be worked off
pub record PassesEvent (a b : World) : Type 0 where
  pub event : Event
  pub is : a.recorder.event ≡ Some event
  pub passed : (g : ReplayInput) → (start : ℕ) → (es : List Event) → IsWithin g start es event a.recorder.replay.value
      → HasCome g start (es ++ event ∷ []) b.recorder.replay.value
  pub kept : b.recorder ≡ record a.recorder { event = None; replay = b.recorder.replay; worked = 0 }
  pub link : b.link ≡ a.link

-- memory runs out within the event, of which nothing is lost
pub record StopsWithin (a b : World) : Type 0 where
  pub event : Event
  pub is : a.recorder.event ≡ Some event
  pub stays : (g : ReplayInput) → (start : ℕ) → (es : List Event) → IsWithin g start es event a.recorder.replay.value
      → IsWithin g start es event b.recorder.replay.value
  pub kept : b.recorder ≡ record a.recorder { replay = b.recorder.replay }
  pub link : b.link ≡ a.link

-- ---- Works

-- what an output is worked off with
abbrev pub outgoing : World → Outgoing
outgoing w = record { sends = w.recorder.sends; message = w.recorder.message; link = w.link }

-- the first output that is left is worked off
pub record WorksOff (o : Output) (a b : World) : Type 0 where
  pub rests : Rests a.recorder
  pub first : slice_get a.recorder.replay.value.outputs a.recorder.worked ≡ Some o
  pub goes : GoesTo o (outgoing a) (outgoing b)
  pub kept : b.recorder ≡ record a.recorder { worked = a.recorder.worked + 1; sends = b.recorder.sends; message = b.recorder.message }

-- ---- acts in order

abbrev pub Does : ℕ → Act → World → World → Type 0
Does now (Takes one) a b = TakesOne now one a b
Does now (Writes e) a b = WritesDown now e a b
Does now Passes a b = PassesEvent a b
Does now Stops a b = StopsWithin a b
Does now (Works o) a b = WorksOff o a b

abbrev pub DoesAll : ℕ → List Act → World → World → Type 0
DoesAll now [] a b = b ≡ a
DoesAll now (act ∷ acts) a b = (c : World) × Does now act a c × DoesAll now acts c b

-- the events that were written
abbrev pub events_of : List Act → List Event
events_of [] = []
events_of (Writes e ∷ acts) = e ∷ events_of acts
events_of (_ ∷ acts) = events_of acts

-- the outputs that were worked off
abbrev pub outputs_of : List Act → List Output
outputs_of [] = []
outputs_of (Works o ∷ acts) = o ∷ outputs_of acts
outputs_of (_ ∷ acts) = outputs_of acts

-- nothing is for the user at it
abbrev pub IsSilent : Act → Type 0
IsSilent (Works (out.Yield stream_sequence consumer_sequence subject payload)) = ⊥
IsSilent (Works (out.Item kind)) = ⊥
IsSilent act = ⊤

abbrev pub AreSilent : List Act → Type 0
AreSilent [] = ⊤
AreSilent (act ∷ acts) = IsSilent act × AreSilent acts

-- ---- the next output

-- no output is left, or the first of those that are left is worked off
abbrev pub WorksNext : Option Worked → World → World → Type 0
WorksNext None a b = (b ≡ a) × (queue a.recorder ≡ [])
WorksNext (Some done) a b = (o : Output) × WorksOff o a b × (done ≡ worked_as o)

-- ---- what lies there

-- nothing lies at the link for a consumer, and none of its timers is due
pub record LiesNothing (now : ℕ) (r : Recorder) (v : LinkView) : Type 0 where
  pub link : link_in r.link_up r.replay.value.state.link_up ≡ None
  pub connection : change_in r.setup.now r.replay.value.state.consumer.connection v.watch ≡ None
  pub answer : HasNoAnswer (awaited_at (awaited_in (phase_of r)) r.sends.asked) v
  pub arrival : HasNoArrival (listened_at (read_in (phase_of r)) r.sends) v
  pub early : tick_in (max now r.moment) (phase_of r) ≡ None

-- one thing is taken, or nothing lies there
abbrev pub TakenBy : ℕ → Recorder → Option Taken → LinkView → LinkView → Type 0
TakenBy now r None old new = (new ≡ old) × LiesNothing now r old
TakenBy now r (Some one) old new = Gives now one r old new
