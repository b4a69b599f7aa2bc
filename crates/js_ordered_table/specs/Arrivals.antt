-- What a consumer makes of the arrivals on its current inbox.
use Rattle.std.specs.Prelude.{ℕ, ◌+◌, ◌*◌, Bool, true, false, List, [], ◌∷◌, ◌++◌, map, Option, Some, None, codes, ◌==◌, if◌then◌else◌}
use Rattle.js_base.specs.declared.message.Message.{Message}
use Rattle.js_base.specs.declared.message.StatusCode.{StatusCode}
use Rattle.js_base.specs.Headers.{last_value, all_headers}
use Rattle.js_base.specs.declared.clock.Timer.{Timer}
use Rattle.js_base.specs.Clock.{is_due, second}
use Rattle.js_message.specs.AckSubject.{Place, readable_as}
use Rattle.js_link.specs.RowInput.{RowInput}
use Rattle.js_pull.specs.declared.kind.HeaderNumber.{HeaderNumber}
use Rattle.js_pull.specs.declared.kind.HeaderNumber.TheVariants as number
use Rattle.js_pull.specs.Kind.{number_told}
use Rattle.js_pull.specs.Reader as pull
use Rattle.js_pull.specs.declared.reader.ReaderOutput.TheVariants as tells
use Rattle.js_pull.specs.declared.reader.ReaderOutput.{ReaderOutput as PullTold}
use Rattle.js_pull.specs.declared.reader.MessagesErrorKind.TheVariants as error
use Rattle.js_ordered_table.specs.declared.kind.PushKind.{PushKind}
use Rattle.js_ordered_table.specs.declared.kind.PushKind.TheVariants.{Delivered, OtherStatus, Bad, Beat}
use Rattle.js_ordered_table.specs.declared.consumer.Consumer.{Consumer}
use Rattle.js_ordered_table.specs.OrderedCore.{after_yield}
use Rattle.js_ordered_table.specs.Consumer.{Passed, silent_row, at_phase, output_of}
use Rattle.js_ordered_table.specs.declared.row.Arrival.{Arrival}
use Rattle.js_ordered_table.specs.declared.row.Row.{Row}
use Rattle.js_ordered_table.specs.declared.row.Row.TheVariants.{Start, Read}
use Rattle.js_ordered_table.specs.declared.consumer.Phase.TheVariants.{Pulls, Pushes, Ended}
use Rattle.js_ordered_table.specs.declared.run.ItemKind.{ItemKind}
use Rattle.js_ordered_table.specs.declared.run.ItemKind.TheVariants as item
use Rattle.js_ordered_table.specs.declared.run.Output.{Output}
use Rattle.js_ordered_table.specs.declared.run.Output.TheVariants as out

-- ---- both modes: a message

-- a yield, after which its numbers are the last ones
abbrev pub accepted : Place → Message → Consumer → Passed
accepted place message c = record {
  consumer = record c { core = after_yield place.sequence place.number c.core; limited = false };
  outputs = out.Yield place.sequence place.number message.subject message.payload ∷ [];
  next = [];
}

-- unreadable: an item. Another number than the next: a recreation. Else it is yielded.
abbrev pub message_row : Option Place → Message → Consumer → Passed
message_row None message c = record { consumer = c; outputs = out.Item item.Other ∷ []; next = [] }
message_row (Some place) message c =
    if place.number == c.core.consumer_sequence + 1 then accepted place message c else silent_row c (Start ∷ [])

-- an item
abbrev pub put_item : ItemKind → Consumer → Passed
put_item kind c = record { consumer = c; outputs = out.Item kind ∷ []; next = [] }

-- an item that ends the consumer
abbrev pub end_with : ItemKind → Consumer → Passed
end_with kind c = put_item kind (at_phase Ended c)

-- a recreation starts
abbrev pub restart : Consumer → Passed
restart c = silent_row c (Start ∷ [])

-- ---- pull: what the reader tells

-- what the reader tells is an item, or a recreation, or a mark
abbrev pub told : PullTold → Consumer → Passed
told tells.Nothing c = silent_row c []
told (tells.Hands message) c = message_row (readable_as message.reply) message (record c { missed = false })
told (tells.Tells error.ConsumerDeleted) c = restart c
told (tells.Tells error.NoResponders) c = restart c
told (tells.Tells error.PushBasedConsumer) c = end_with item.PushBasedConsumer c
told (tells.Tells error.RequestLimitExceeded) c =
    if c.limited then end_with item.RequestLimitExceeded c else restart (record c { limited = true })
told (tells.Tells error.MissingHeartbeat) c = if c.missed then restart c else silent_row (record c { missed = true }) []
told (tells.Tells error.Pull) c = put_item item.Pull c
told (tells.Tells error.Other) c = put_item item.Other c

-- where a recreation starts, the reader's rows fall away
abbrev pub in_place_of : List Row → List Row → List Row
in_place_of [] rows = rows
in_place_of (row ∷ later) rows = row ∷ later

-- what the reader sent goes out first; where it is still read, its rows follow
abbrev pub with_sent : List Output → List Row → Passed → Passed
with_sent sent rows passed = record { consumer = passed.consumer; outputs = sent ++ passed.outputs; next = in_place_of passed.next rows }

-- a reader's row, with what the consumer makes of what it tells
abbrev pub read_row : pull.Passed → Consumer → Passed
read_row passed c =
    with_sent (map output_of passed.sent) (map Read passed.next) (told passed.told (at_phase (Pulls passed.reader) c))

-- ---- push

-- a beat with a bad number is bad
abbrev pub beat : HeaderNumber → PushKind
beat number.Absent = Beat None
beat number.Unreadable = Bad
beat (number.Number n) = Beat (Some n)

-- by the status, and by the last value of a header
abbrev pub push_kind_of : Message → Option StatusCode → PushKind
push_kind_of message None = Delivered
push_kind_of message (Some status) =
    if status.0 == 100 then beat (number_told (last_value (codes "Nats-Last-Consumer") (all_headers message.headers))) else OtherStatus

-- the kind of an arrival
abbrev pub push_kind : Message → PushKind
push_kind message = push_kind_of message message.status

-- a beat is answered where it asks for it
abbrev pub beat_answer : Bool → Option (List ℕ) → List Output
beat_answer up None = []
beat_answer up (Some reply) = if up then out.Publish reply None [] ∷ [] else []

-- it shows a gap where it names another number
abbrev pub beat_rows : Option ℕ → ℕ → List Row
beat_rows None consumer_sequence = []
beat_rows (Some last) consumer_sequence = if last == consumer_sequence then [] else Start ∷ []

-- the subject to which a message asks for an answer: its reply subject, or else the one that a stalled consumer names
abbrev pub reply_or : Option (List ℕ) → Option (List ℕ) → Option (List ℕ)
reply_or None stalled = stalled
reply_or (Some reply) stalled = Some reply

abbrev pub answer_subject : Message → Option (List ℕ)
answer_subject m = reply_or m.reply (last_value (codes "Nats-Consumer-Stalled") (all_headers m.headers))

-- the subject at which a beat is answered: the one of a stalled consumer only by the option
abbrev pub beat_subject : Bool → Message → Option (List ℕ)
beat_subject stalled m = if stalled then answer_subject m else m.reply

-- what push does with an arrival of a kind, where it answers stalled consumers or not
abbrev pub hear_kind : Bool → RowInput → Message → PushKind → Consumer → Passed
hear_kind stalled p message Delivered c = message_row (readable_as message.reply) message c
hear_kind stalled p message (Beat last) c = record {
  consumer = c;
  outputs = beat_answer p.up (beat_subject stalled message);
  next = beat_rows last c.core.consumer_sequence;
}
hear_kind stalled p message Bad c = put_item item.Other c
hear_kind stalled p message OtherStatus c = silent_row c []

-- push's heartbeat
abbrev pub armed : ℕ → Timer
armed now = record { set = now; wait = 10 * second }

-- each arrival on the current inbox arms the heartbeat
abbrev pub hear_row : Bool → RowInput → Arrival → ℕ → Consumer → Passed
hear_row stalled p arrival inbox c =
    if arrival.inbox == inbox
    then hear_kind stalled p arrival.message (push_kind arrival.message) (at_phase (Pushes inbox (armed p.now)) c)
    else silent_row c []

-- a heartbeat that is missing is an item, and a recreation starts
abbrev pub silence_row : RowInput → Timer → Consumer → Passed
silence_row p heartbeat_timer c =
    if is_due heartbeat_timer p.now
    then record { consumer = c; outputs = out.Item item.MissingHeartbeat ∷ []; next = Start ∷ [] }
    else silent_row c []
