-- What passing rows comes to in a replay, as the functions that pass them say it.
use Rattle.std.specs.Prelude.{ℕ, suc, ◌+◌, Bool, List, map, Option, Some, None, ◌==◌, false, if◌then◌else◌}
use Rattle.js_base.specs.declared.clock.Timer.{Timer}
use Rattle.js_ordered_table.specs.Texts.{recreation_timeout, inbox_subject, pull_source}
use Rattle.js_ordered_table.specs.Recreation.{held_in}
use Rattle.js_base.specs.declared.message.Message.{Message}
use Rattle.js_pull.specs.Reader.{new_reader, retry_wait, with_pin, with_silence}
use Rattle.js_ordered_table.specs.declared.consumer.Recreation.{Recreation}
use Rattle.js_pull.specs.declared.reader.Reader.{Reader}
use Rattle.js_ordered_table.specs.declared.row.Row.TheVariants.{Hear}
use Rattle.js_ordered_table.specs.declared.row.Arrival.{Arrival}
use Rattle.js_ordered_table.specs.declared.consumer.Phase.TheVariants.{Pulls, Pushes, Recreates, Idle, Ended, Exhausted}
use Rattle.js_ordered_table.specs.declared.consumer.Stage.TheVariants.{Waiting}
use Rattle.js_ordered_table.specs.Consumer.{Matter, Passed, at_phase}
use Rattle.js_ordered_table.specs.Fold.{Ran, rank, and_then, pass_each, pass_to, after}
use Rattle.js_ordered_table.specs.OrderedCore.{after_yield}
use Rattle.js_ordered_table.specs.Consumer as state
use Rattle.js_ordered_table.specs.declared.consumer.Consumer.{Consumer}
use Rattle.js_ordered_table.specs.declared.answer.Change.{Change}
use Rattle.js_ordered_table.specs.declared.answer.Change.TheVariants as change
use Rattle.js_ordered_table.specs.declared.consumer.ReplayInput.{ReplayInput}
use Rattle.js_ordered_table.specs.declared.consumer.Phase.{Phase}
use Rattle.js_ordered_table.specs.declared.row.Row.{Row}
use Rattle.js_message.specs.AckSubject as ack
use Rattle.js_ordered_table.specs.declared.place.Place.{Place}
use Rattle.js_ordered_table.specs.declared.answer.RequestOutcome.{RequestOutcome}
use Rattle.js_ordered_table.specs.declared.answer.RequestOutcome.TheVariants as reply
use Rattle.js_ordered_table.specs.declared.consumer_context.ConsumerContext.{ConsumerContext}
use Rattle.js_ordered_table.specs.declared.replay_state.ReplayState.{ReplayState}

-- what a consumer is made with
abbrev pub input_of : ConsumerContext → ReplayInput
input_of context = record { settings = context.settings.now; setup = context.setup.now; first = context.first.now }

-- what a row and the rows that follow it at once come to
unfoldable pub ran : ReplayInput → ℕ → Matter → Row → ReplayState → Ran
ran g now m row w = pass_to g now m (suc (rank row)) row w

-- what comes of a row that was passed: the rows that follow it
unfoldable pub from : ReplayInput → ℕ → Matter → Passed → ReplayState → Ran
from g now m passed w = and_then passed.outputs (pass_each (ran g now m) passed.next (after w passed))

-- the state with its consumer at another phase
abbrev pub at : Phase → ReplayState → ReplayState
at phase w = record w { consumer = at_phase phase w.consumer }

-- the bound on an answer that is waited for from a moment on
abbrev pub timeout_at : ReplayInput → ℕ → Timer
timeout_at g now = record { set = now; wait = recreation_timeout g.settings }

-- ---- what a recreation makes of a consumer

-- the recreation waits for its next try
abbrev pub waiting : ℕ → Recreation → Recreation
waiting now r = record r {
  failures = r.failures + 1;
  opened = None;
  stage = Waiting (record { set = now; wait = retry_wait (r.failures + 1) });
}

-- what became of a request, as the replay's code tells it
abbrev pub reply_shown : RequestOutcome → Option (Option Message)
reply_shown reply.Waiting = None
reply_shown reply.Gone = Some None
reply_shown (reply.Got message) = Some (Some message.now)

-- ---- a message

-- its place, as the replay's code tells it
abbrev pub place_shown : Place → ack.Place
place_shown place = record { sequence = place.sequence; number = place.number }

-- the consumer that has yielded the message at this place, where it is its next one
abbrev pub yielding : ack.Place → Consumer → Consumer
yielding place c =
    if place.number == c.core.consumer_sequence + 1
    then record c { core = after_yield place.sequence place.number c.core; limited = false }
    else c

-- the reader that has heard a message
abbrev pub heard : ℕ → Message → Reader → Reader
heard now message r = with_pin message (with_silence now r)

-- the reader of the first inbox
abbrev pub first_reader_of : ReplayInput → Reader
first_reader_of g = new_reader (pull_source g 0 0 (inbox_subject g 0) g.first)

-- ---- what an open recreation holds

-- the phase after an arrival was held, where a recreation holds arrivals
abbrev pub holding : Option Arrival → Phase → Phase
holding arrival (Recreates r) = Recreates (record r { opened = held_in arrival r.opened })
holding arrival (Pulls reader) = Pulls reader
holding arrival (Pushes inbox heartbeat_timer) = Pushes inbox heartbeat_timer
holding arrival Idle = Idle
holding arrival Ended = Ended
holding arrival Exhausted = Exhausted

-- ---- push

-- push listens to this inbox now
abbrev pub listens_to : ℕ → Phase → Bool
listens_to inbox (Pushes current heartbeat_timer) = inbox == current
listens_to inbox _ = false

-- the rows that hear these messages in order
abbrev pub hearings : ℕ → List Message → List Row
hearings inbox messages = map (λ message. Hear (record { inbox = inbox; message = message })) messages

-- ---- an event

-- what it says of the connection, as the replay's code tells it
abbrev pub change_shown : Change → state.Change
change_shown change.Unchanged = state.Unchanged
change_shown (change.Becomes now) = state.Becomes now
change_shown change.WatcherEnds = state.WatcherEnds
