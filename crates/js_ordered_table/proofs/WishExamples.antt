-- What some rows ask, as examples.
use Rattle.std.proofs.Common.{◌≡◌, ℕ, List, [], ◌∷◌, Some, refl}
use Rattle.js_base.specs.declared.clock.Timer.{Timer}
use Rattle.js_link.specs.declared.wish.Wish.TheVariants.{Nothing, Drops, Reads, Awaits, Watches}
use Rattle.js_pull.specs.declared.reader.Reader.{Reader as PullReader}
use Rattle.js_pull.specs.declared.reader.Row.TheVariants as read
use Rattle.js_ordered_table.specs.declared.consumer.Consumer.{Consumer}
use Rattle.js_ordered_table.specs.declared.consumer.Recreation.{Recreation}
use Rattle.js_ordered_table.specs.declared.consumer.Opened.{Opened}
use Rattle.js_ordered_table.specs.Arrivals.{restart, with_sent}
use Rattle.js_ordered_table.specs.Wishes.{wish_at}
use Rattle.js_ordered_table.specs.declared.row.Row.{Row}
use Rattle.js_ordered_table.specs.declared.row.Row.TheVariants.{Event, Start, Await, Hold, Fail, Read}
use Rattle.js_ordered_table.specs.declared.consumer.ReplayInput.{ReplayInput}
use Rattle.js_ordered_table.specs.declared.consumer.Stage.TheVariants.{Creating}
use Rattle.js_ordered_table.specs.declared.consumer.Phase.TheVariants.{Pulls, Pushes, Recreates, Idle}

-- a recreation drops the inbox that is read
start_drops : (g : ReplayInput) (reader : PullReader) → wish_at g Start (Pulls reader) ≡ Drops reader.source.inbox
start_drops g reader = refl

start_drops_push : (g : ReplayInput) (inbox : ℕ) (heartbeat_timer : Timer) → wish_at g Start (Pushes inbox heartbeat_timer) ≡ Drops inbox
start_drops_push g inbox heartbeat_timer = refl

start_from_idle : (g : ReplayInput) → wish_at g Start Idle ≡ Nothing
start_from_idle g = refl

-- a try that fails drops the inbox that it has opened
fail_drops : (g : ReplayInput) (r : Recreation) (opened : Opened) → wish_at g Fail (Recreates (record r { opened = Some opened })) ≡ Drops opened.inbox
fail_drops g r opened = refl

-- an event asks for the connection, and the rows after it for one answer and one message
event_watches : (g : ReplayInput) (r : Recreation) → wish_at g Event (Recreates r) ≡ Watches
event_watches g r = refl

await_awaits : (g : ReplayInput) (r : Recreation) (request : ℕ) (timeout : Timer) → wish_at g Await (Recreates (record r { stage = Creating request timeout })) ≡ Awaits request
await_awaits g r request timeout = refl

hold_reads : (g : ReplayInput) (r : Recreation) (opened : Opened) → wish_at g Hold (Recreates (record r { opened = Some opened })) ≡ Reads opened.inbox
hold_reads g r opened = refl

pull_reads : (g : ReplayInput) (reader : PullReader) → wish_at g (Read read.CheckArrival) (Pulls reader) ≡ Reads reader.source.inbox
pull_reads g reader = refl

-- where a recreation starts, no row of the reader is left
restarts_alone : (c : Consumer) (rows : List Row) → (with_sent [] rows (restart c)).next ≡ Start ∷ []
restarts_alone c rows = refl
