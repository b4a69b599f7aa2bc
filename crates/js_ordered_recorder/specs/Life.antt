-- The life of a recorder: its polls from the opening on, and what they come to.
use Rattle.std.specs.Prelude.{◌≡◌, ◌⊎◌, ℕ, Bool, true, List, length, [], ◌∷◌, ◌++◌, Option, Some, None, Result, Ok, Err, ⊤}
use Rattle.std.specs.List.{AllByRecursion}
use Rattle.js_base.specs.Error.{kind_of}
use Rattle.js_base.specs.declared.error.Error.{Error}
use Rattle.js_base.specs.declared.message.Message.{Message}
use Rattle.js_base.specs.declared.turn.Next.{Next}
use Rattle.js_base.specs.declared.turn.Next.TheVariants as next
use Rattle.js_link.specs.LinkView.{LinkView}
use Rattle.js_link.specs.LinkView as link
use Rattle.js_link.specs.declared.sent.Sent.{Sent}
use Rattle.js_link.specs.declared.sent.Sent.TheVariants as sends
use Rattle.js_ordered_recorder.specs.Acts.{World, queue}
use Rattle.js_ordered_recorder.specs.Recorder.{Answers, IsAt}
use Rattle.js_ordered_recorder.specs.Recording.{WritesAll}
use Rattle.js_ordered_recorder.specs.declared.recorder.Recorder.{Recorder}
use Rattle.js_ordered_recorder.specs.declared.recording.RecordingFault.{RecordingFault}
use Rattle.js_message.specs.AckSubject.{Place, readable_as}
use Rattle.js_ordered.specs.IncrementalReplay.{HasCome}
use Rattle.js_ordered_stream.specs.Ordered.{error_kind}
use Rattle.js_ordered_stream.specs.declared.error.OrderedErrorKind.{OrderedErrorKind}
use Rattle.js_ordered_table.specs.Fold.{fold}
use Rattle.js_ordered_table.specs.Gapless.{IsGapless, IsHonest, Server, all_outputs, yields}
use Rattle.js_ordered_table.specs.Walk.{handed, sent}
use Rattle.js_ordered_table.specs.declared.consumer.ReplayInput.{ReplayInput}
use Rattle.js_ordered_table.specs.declared.event.Event.{Event}
use Rattle.js_ordered_table.specs.declared.event.EventKind.TheVariants as what
use Rattle.js_ordered_table.specs.declared.run.ItemKind.{ItemKind}
use Rattle.js_ordered_table.specs.declared.run.Output.{Output}
use Rattle.js_ordered_table.specs.declared.run.Output.TheVariants as out

-- ---- polls

-- a poll: its moment, whether the caller has said that the link is up, the link before and after
-- it, what it answers, the events that it writes, and the outputs that it works off
pub record Poll : Type 0 where
  pub now : ℕ
  pub up : Bool
  pub before : LinkView
  pub after : LinkView
  pub answer : Next (Result Message (Error OrderedErrorKind))
  pub events : List Event
  pub worked : List Output

-- where a poll begins
abbrev pub begun : Recorder → Poll → World
begun r poll = record { recorder = record r { link_up = poll.up }; link = poll.before }

-- polls in order, each from where the one before it left the recorder and the recording; between
-- two of them the link may change as it likes
abbrev pub ArePolls : {R : Type 0} → (R → Event → Option RecordingFault → R → Type 0) → Recorder → R → List Poll → Recorder → R → Type 0
ArePolls writes r first [] s last = (s ≡ r) × (last ≡ first)
ArePolls {R} writes r first (poll ∷ polls) s last =
    (next : Recorder) × (between : R)
    × Answers poll.now poll.answer (begun r poll) poll.events poll.worked (record { recorder = next; link = poll.after })
    × WritesAll writes r.fault poll.events next.fault first between
    × ArePolls writes next between polls s last

-- all events that polls write
abbrev pub events_in : List Poll → List Event
events_in [] = []
events_in (poll ∷ polls) = poll.events ++ events_in polls

-- all outputs that polls work off
abbrev pub outputs_in : List Poll → List Output
outputs_in [] = []
outputs_in (poll ∷ polls) = poll.worked ++ outputs_in polls

-- ---- what is handed out

-- the last of these events is the arrival of the message
pub record IsArrival (es : List Event) (message : Message) : Type 0 where
  pub before : List Event
  pub moment : ℕ
  pub inbox : ℕ
  pub is : es ≡ before ++ record { at = moment; what = what.Arrival inbox message } ∷ []

-- What a poll answers after these events is what its outputs have for the user: nothing, or one
-- message or error, the last.
-- A message is the one that arrived last, with all its parts, and the yield has its numbers.
abbrev pub HandsOut : List Event → Next (Result Message (Error OrderedErrorKind)) → List Output → Type 0
HandsOut es (next.Item (Ok message)) outputs =
    (place : Place) × (readable_as message.reply ≡ Some place) × (outputs ≡ out.Yield place.sequence place.number message.subject message.payload ∷ []) × IsArrival es message
HandsOut es (next.Item (Err e)) outputs = (kind : ItemKind) × (outputs ≡ out.Item kind ∷ []) × (kind_of e ≡ error_kind kind)
HandsOut es other outputs = outputs ≡ []

-- the same of each poll, after all events that were written until then
abbrev pub HandsOutAll : List Event → List Poll → Type 0
HandsOutAll earlier [] = ⊤
HandsOutAll earlier (poll ∷ polls) = HandsOut (earlier ++ poll.events) poll.answer (handed poll.worked) × HandsOutAll (earlier ++ poll.events) polls

-- ---- what is sent

-- the link has sent what an output asks for; the number is the link's own
abbrev pub IsSentAs : Output → Sent → Type 0
IsSentAs (out.Request number subject payload) one = (own : ℕ) × (one ≡ sends.Request own subject None payload)
IsSentAs (out.Publish subject reply payload) one = one ≡ sends.Publish subject reply None payload
IsSentAs (out.Subscribe inbox subject) one = (own : ℕ) × (one ≡ sends.Subscribe own subject None)
IsSentAs other one = ⊥

-- the link has sent these for outputs, in order, but for those that it failed to send
abbrev pub AreSentAs : List Output → List Sent → Type 0
AreSentAs [] all = all ≡ []
AreSentAs (o ∷ outputs) all = ((one : Sent) × (more : List Sent) × (all ≡ one ∷ more) × IsSentAs o one × AreSentAs outputs more) ⊎ AreSentAs outputs all

-- what a poll sends is what its outputs ask for: all of it, where the link is known to be up
abbrev pub Sends : Poll → Type 0
Sends poll =
    (all : List Sent) × AreSentAs (sent poll.worked) all × (poll.after.sent ≡ link.after poll.before.sent all)
    × (poll.before.up ≡ Some true → length all ≡ length (sent poll.worked))

-- ---- a life

-- what polls come to that lead here: the consumer is the fold over the events that were written;
-- what was handed out, and then what is queued, is what the fold hands out; what was sent is what
-- the fold asks for
pub record IsLife (g : ReplayInput) (start : ℕ) (polls : List Poll) (r : Recorder) : Type 0 where
  pub at : IsAt g start (events_in polls) (outputs_in polls) r
  pub handed_out : handed (outputs_in polls) ++ handed (queue r) ≡ handed (all_outputs (fold g start at.passed))
  pub asked : sent (outputs_in polls) ++ sent (queue r) ≡ sent (all_outputs (fold g start at.passed))
  pub hands : HandsOutAll [] polls
  pub sends : AllByRecursion Sends polls
  pub gapless : (s : Server) → IsHonest s g.setup (events_in polls) (fold g start (events_in polls)) → IsGapless s g.setup (yields (outputs_in polls))

-- a recorder that was just opened
pub record IsNew (g : ReplayInput) (start : ℕ) (r : Recorder) : Type 0 where
  pub stands : IsAt g start [] [] r
  pub come : HasCome g start [] r.replay.value
  pub taken : r.taken ≡ None
  pub event : r.event ≡ None
  pub worked : r.worked ≡ 0
  pub fault : r.fault ≡ None

-- every life from this recorder on: the recording has taken the events of all polls, in order, up
-- to the first that it could not
abbrev pub HasLife : {R : Type 0} → (R → Event → Option RecordingFault → R → Type 0) → ReplayInput → ℕ → Recorder → Type 0
HasLife {R} writes g start r =
    (first last : R) → (polls : List Poll) → (s : Recorder) → ArePolls writes r first polls s last
    → IsLife g start polls s × WritesAll writes None (events_in polls) s.fault first last

-- so live all that were just opened
abbrev pub NewLive : {R : Type 0} → (R → Event → Option RecordingFault → R → Type 0) → Type 0
NewLive {R} writes = (g : ReplayInput) → (start : ℕ) → (r : Recorder) → IsNew g start r → HasLife writes g start r
