-- What a user can watch of an ordered stream: a function of where it stands.
use Rattle.std.specs.Prelude.{◌≡◌, ℕ, Bool, true, false, List, [], ◌++◌, Option, Some, None, codes, refl}
use Rattle.std.specs.Fmt.{decimal, digits}
use Rattle.js_ordered_stream.specs.declared.health.Activity.{Activity}
use Rattle.js_ordered_stream.specs.declared.health.Activity.TheVariants as activity
use Rattle.js_ordered_stream.specs.declared.health.Health.{Health}
use Rattle.js_ordered_table.specs.Consumer.{at_phase}
use Rattle.js_ordered_table.specs.OrderedCore.{after_restart, after_yield}
use Rattle.js_ordered_table.specs.Walk.{Position}
use Rattle.js_ordered_table.specs.declared.consumer.Consumer.{Consumer}
use Rattle.js_ordered_table.specs.declared.consumer.Phase.{Phase}
use Rattle.js_ordered_table.specs.declared.consumer.Phase.TheVariants.{Pulls, Pushes, Recreates, Idle, Ended, Exhausted}
use Rattle.js_ordered_table.specs.declared.consumer.Recreation.{Recreation}
use Rattle.js_ordered_table.specs.declared.consumer.Stage.{Stage}
use Rattle.js_ordered_table.specs.declared.consumer.Stage.TheVariants.{Between, Deleting, Creating, Waiting}

-- ---- what it is doing

-- since when an open recreation waits: for an answer since its request was sent, for the next try since the last one failed
abbrev pub waiting_since : Stage → Option ℕ
waiting_since Between = None
waiting_since (Deleting request timeout) = Some timeout.set
waiting_since (Creating request timeout) = Some timeout.set
waiting_since (Waiting wait) = Some wait.set

-- it reads an inbox, or its consumer is being recreated, or all tries have failed, or it has ended
abbrev pub activity_of : Phase → Activity
activity_of (Pulls reader) = activity.Reading
activity_of (Pushes inbox heartbeat_timer) = activity.Reading
activity_of (Recreates r) = activity.Recreating r.failures (waiting_since r.stage)
activity_of Idle = activity.RecreationFailed
activity_of Ended = activity.Ended
activity_of Exhausted = activity.Ended

-- what a user can watch of it
abbrev pub health_of : Position → Health
health_of at = record {
  activity = activity_of at.consumer.phase;
  heartbeat_missing = at.consumer.missed;
  stream_sequence = at.consumer.core.stream_sequence;
  consumer_sequence = at.consumer.core.consumer_sequence;
  recreations = at.consumer.core.recreation_count;
}

-- ---- how it is printed

-- since when a recreation waits, where it does
abbrev pub waiting_text : Option ℕ → List ℕ
waiting_text None = []
waiting_text (Some since) = codes ", waiting since " ++ (decimal since ++ codes " ns")

-- what it is doing
abbrev pub activity_text : Activity → List ℕ
activity_text activity.Reading = codes "reading"
activity_text (activity.Recreating failed_tries since) =
    codes "recreating its consumer (failed tries: " ++ (decimal failed_tries ++ (waiting_text since ++ codes ")"))
activity_text activity.RecreationFailed = codes "all tries to recreate its consumer failed"
activity_text activity.Ended = codes "ended"

-- what is said of a heartbeat that is missing
abbrev pub heartbeat_text : Bool → List ℕ
heartbeat_text true = codes "; a heartbeat is missing"
heartbeat_text false = []

-- how far it has come
abbrev pub progress_text : ℕ → ℕ → ℕ → List ℕ
progress_text stream_sequence consumer_sequence recreations =
    codes "last message: stream sequence "
    ++ (decimal stream_sequence ++ (codes ", consumer sequence " ++ (decimal consumer_sequence ++ (codes "; recreations: " ++ decimal recreations))))

-- one line
abbrev pub health_text : Health → List ℕ
health_text h = activity_text h.activity ++ (codes "; " ++ (progress_text h.stream_sequence h.consumer_sequence h.recreations ++ heartbeat_text h.heartbeat_missing))

-- ---- worked

-- message 99 was yielded as the 7th of its consumer, then a recreation began: one more than before, and its first try waits for the answer to
-- the delete that was sent at moment 5. The new consumer has sent nothing yet
abbrev worked_recreation : Consumer → Recreation → ℕ → Consumer
worked_recreation c r wait =
    record c { phase = Recreates (record r { failures = 0; stage = Deleting 3 (record { set = 5; wait = wait }) }); core = after_restart (after_yield 99 7 (record c.core { recreation_count = 1 })) }

worked_health : (c : Consumer) (r : Recreation) (wait : ℕ)
    → health_of (record { consumer = record (worked_recreation c r wait) { missed = true }; todo = [] })
    ≡ record { activity = activity.Recreating 0 (Some 5); heartbeat_missing = true; stream_sequence = 99; consumer_sequence = 0; recreations = 2 }
worked_health c r wait = refl

-- a recreation is not running. Refused: `Reading` while one is open
worked_open : (c : Consumer) (r : Recreation) → activity_of (at_phase (Recreates (record r { failures = 2; stage = Between })) c).phase ≡ activity.Recreating 2 None
worked_open c r = refl

-- how that is printed
worked_text : health_text (record { activity = activity.Recreating 2 (Some 5); heartbeat_missing = true; stream_sequence = 99; consumer_sequence = 0; recreations = 3 })
    ≡ codes "recreating its consumer (failed tries: 2, waiting since 5 ns); last message: stream sequence 99, consumer sequence 0; recreations: 3; a heartbeat is missing"
unfolding digits
worked_text = refl
