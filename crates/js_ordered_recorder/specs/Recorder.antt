-- What a poll of a recorder answers, and what holds after any polls.
use Rattle.std.specs.Prelude.{◌≡◌, ℕ, ◌+◌, ◌<◌, ◌^◌, Bool, true, false, List, [], ◌∷◌, ◌++◌, Option, Some, None, OnSome, is_some, ◌||◌, nat_lt, length, if◌then◌else◌, Result, Ok, Err}
use Rattle.js_base.specs.Error.{kind_of, source_of}
use Rattle.js_base.specs.declared.error.Error.{Error}
use Rattle.js_base.specs.declared.message.Message.{Message}
use Rattle.js_base.specs.declared.turn.Next.{Next}
use Rattle.js_base.specs.declared.turn.Next.TheVariants as next
use Rattle.js_link.specs.LinkView.{LinkView}
use Rattle.js_ordered_recorder.specs.Acts.{Act, AreSilent, DoesAll, LiesNothing, Rests, WorksOff, World, events_of, outputs_of, phase_of, queue}
use Rattle.js_ordered_recorder.specs.LinkInput.{link_in}
use Rattle.js_ordered_recorder.specs.Sends.{left_by}
use Rattle.js_ordered_recorder.specs.Recording.{WritesAll}
use Rattle.js_ordered_recorder.specs.declared.recorder.Ending.{Ending}
use Rattle.js_ordered_recorder.specs.declared.recorder.Ending.TheVariants as ending
use Rattle.js_ordered_recorder.specs.declared.recorder.Recorder.{Recorder}
use Rattle.js_ordered_recorder.specs.declared.recording.RecordingFault.{RecordingFault}
use Rattle.js_ordered.specs.IncrementalReplay.{HasCome, IsWithin}
use Rattle.js_ordered.specs.declared.incremental_replay.IncrementalReplay.{IncrementalReplay}
use Rattle.js_ordered_stream.specs.Ordered.{error_kind, source_by}
use Rattle.js_ordered_stream.specs.declared.error.OrderedErrorKind.{OrderedErrorKind}
use Rattle.js_ordered_table.specs.Fold.{fold, is_over}
use Rattle.js_ordered_table.specs.Gapless.{all_outputs}
use Rattle.js_ordered_table.specs.Timers.{phase_due}
use Rattle.js_ordered_table.specs.declared.consumer.ReplayInput.{ReplayInput}
use Rattle.js_ordered_table.specs.declared.event.Event.{Event}
use Rattle.js_ordered_table.specs.declared.run.ItemKind.{ItemKind}
use Rattle.js_ordered_table.specs.declared.run.Output.{Output}
use Rattle.js_ordered_table.specs.declared.run.Output.TheVariants as out

-- ---- where a recorder stands

-- the event within which memory ran out
abbrev pub half_passed : Option Event → List Event
half_passed None = []
half_passed (Some e) = e ∷ []

-- the replay has come through these events, or stands within one more
abbrev pub Stands : ReplayInput → ℕ → List Event → Option Event → IncrementalReplay → Type 0
Stands g start es None c = HasCome g start es c
Stands g start es (Some e) c = IsWithin g start es e c

-- these events were written, and these outputs worked off: with those that are left they are what
-- the fold over the events puts out, in order
pub record IsAt (g : ReplayInput) (start : ℕ) (es : List Event) (worked : List Output) (r : Recorder) : Type 0 where
  pub passed : List Event
  pub written : es ≡ passed ++ half_passed r.event
  pub stands : Stands g start passed r.event r.replay.value
  pub outputs : all_outputs (fold g start passed) ≡ worked ++ queue r
  pub brought : OnSome r.taken (r.event ≡ None)
  pub empty : OnSome r.taken (queue r ≡ [])

-- ---- what polls do

-- acts at which nothing is for the user, with the events that were written and the outputs that
-- were worked off
pub record Goes (now : ℕ) (a : World) (es : List Event) (worked : List Output) (b : World) : Type 0 where
  pub acts : List Act
  pub does : DoesAll now acts a b
  pub silent : AreSilent acts
  pub written : events_of acts ≡ es
  pub outputs : outputs_of acts ≡ worked

-- and then this output, which is for the user
pub record HandsOver (now : ℕ) (o : Output) (a : World) (es : List Event) (worked : List Output) (b : World) : Type 0 where
  pub before : List Output
  pub between : World
  pub goes : Goes now a es before between
  pub last : WorksOff o between b
  pub outputs : worked ≡ before ++ o ∷ []

-- nothing lies at the link for a consumer at rest, and none of its timers is due
pub record IsQuiet (now : ℕ) (w : World) : Type 0 where
  pub rests : Rests w.recorder
  pub empty : queue w.recorder ≡ []
  pub alive : is_over (phase_of w.recorder) ≡ false
  pub lies : LiesNothing now w.recorder w.link

-- the consumer has ended, and all is worked off
pub record IsEnded (w : World) : Type 0 where
  pub rests : Rests w.recorder
  pub empty : queue w.recorder ≡ []
  pub over : is_over (phase_of w.recorder) ≡ true

-- all is worked off
pub record IsEmpty (w : World) : Type 0 where
  pub rests : Rests w.recorder
  pub empty : queue w.recorder ≡ []

-- one event more was passed, and the number of those before it is below 2 ^ 64
abbrev pub IsCounted : Recorder → Recorder → Type 0
IsCounted old new = (new.replay.value.count ≡ old.replay.value.count + 1) × (old.replay.value.count < 2 ^ 64)

-- a message is to be handed out, which waits in its place
pub record Yields (now : ℕ) (a : World) (es : List Event) (worked : List Output) (b : World) : Type 0 where
  pub stream_sequence : ℕ
  pub consumer_sequence : ℕ
  pub subject : List ℕ
  pub payload : List ℕ
  pub hands : HandsOver now (out.Yield stream_sequence consumer_sequence subject payload) a es worked b
  pub message : is_some b.recorder.message ≡ true

-- what ends a poll
abbrev pub EndsAs : ℕ → Ending → World → List Event → List Output → World → Type 0
EndsAs now ending.Hands a es worked b = Yields now a es worked b
EndsAs now (ending.Tells kind) a es worked b = HandsOver now (out.Item kind) a es worked b
EndsAs now ending.Quiet a es worked b = Goes now a es worked b × IsQuiet now b
EndsAs now ending.Over a es worked b = Goes now a es worked b × IsEnded b
EndsAs now ending.OutOfMemory a es worked b = Goes now a es worked b

-- all is worked off, or the poll ends
abbrev pub WorksTo : ℕ → Option Ending → World → List Event → List Output → World → Type 0
WorksTo now None a es worked b = Goes now a es worked b × IsEmpty b
WorksTo now (Some end) a es worked b = EndsAs now end a es worked b

-- an event was passed, or the poll ends
abbrev pub TurnsTo : ℕ → Option Ending → World → List Event → List Output → World → Type 0
TurnsTo now None a es worked b = Goes now a es worked b × Rests b.recorder × IsCounted a.recorder b.recorder
TurnsTo now (Some end) a es worked b = EndsAs now end a es worked b

-- ---- a poll

-- the message of the last output is handed out
pub record HandsMessage (now : ℕ) (handed : Message) (a : World) (es : List Event) (worked : List Output) (b : World) : Type 0 where
  pub between : World
  pub yields : Yields now a es worked between
  pub message : between.recorder.message ≡ Some handed
  pub kept : b ≡ record between { recorder = record between.recorder { message = None } }

-- the error of the last output is handed out
pub record HandsError (now : ℕ) (e : Error OrderedErrorKind) (a : World) (es : List Event) (worked : List Output) (b : World) : Type 0 where
  pub kind : ItemKind
  pub between : World
  pub hands : HandsOver now (out.Item kind) a es worked between
  pub tells : kind_of e ≡ error_kind kind
  pub source : source_of e ≡ source_by (error_kind kind) between.recorder.message
  pub left : b.recorder.message ≡ left_by kind between.recorder.message
  pub kept : b ≡ record between { recorder = record between.recorder { message = b.recorder.message } }

-- what a poll answers
abbrev pub Answers : ℕ → Next (Result Message (Error OrderedErrorKind)) → World → List Event → List Output → World → Type 0
Answers now next.Pending a es worked b = Goes now a es worked b × IsQuiet now b
Answers now (next.Item (Ok message)) a es worked b = HandsMessage now message a es worked b
Answers now (next.Item (Err e)) a es worked b = HandsError now e a es worked b
Answers now next.End a es worked b = Goes now a es worked b × IsEnded b
Answers now next.OutOfMemory a es worked b = Goes now a es worked b

-- a poll: what it answers, which events it has written, and where the recorder stands then
pub record Polls {R : Type 0} (writes : R → Event → Option RecordingFault → R → Type 0) (now : ℕ) (answer : Next (Result Message (Error OrderedErrorKind))) (a b : World) (before after : R) : Type 0 where
  pub es : List Event
  pub worked : List Output
  pub answers : Answers now answer a es worked b
  pub wrote : WritesAll writes a.recorder.fault es b.recorder.fault before after
  pub stands : (g : ReplayInput) → (start : ℕ) → (earlier : List Event) → (done : List Output) → IsAt g start earlier done a.recorder
      → IsAt g start (earlier ++ es) (done ++ worked) b.recorder

-- ---- when it has something to do

-- something waits that was taken, or an event that is half passed, or an output
abbrev pub has_rest : Recorder → Bool
has_rest r = is_some r.taken || is_some r.event || nat_lt r.worked (length r.replay.value.outputs)

-- it has something to do even if nothing comes
abbrev pub has_work : ℕ → Recorder → Bool
has_work now r =
    if has_rest r then true else (
    if is_over (phase_of r) then false else (
    if is_some (link_in r.link_up r.replay.value.state.link_up) then true else phase_due now (phase_of r)))
