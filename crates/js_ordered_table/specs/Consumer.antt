-- The state of an ordered consumer, and what passing a row makes of it.
use Rattle.std.specs.Prelude.{List, [], Option}
use Rattle.js_base.specs.declared.message.State.{State}
use Rattle.js_pull.specs.Reader as pull
use Rattle.js_link.specs.declared.sent.Sent.{Sent}
use Rattle.js_link.specs.declared.sent.Sent.TheVariants as goes
use Rattle.js_ordered_table.specs.declared.consumer.Phase.{Phase}
use Rattle.js_ordered_table.specs.declared.consumer.Consumer.{Consumer}
use Rattle.js_ordered_table.specs.declared.row.Arrival.{Arrival}
use Rattle.js_ordered_table.specs.declared.row.Row.{Row}
use Rattle.js_ordered_table.specs.declared.run.Output.{Output}
use Rattle.js_ordered_table.specs.declared.run.Output.TheVariants as out

-- what an event says of the connection
pub data Change : Type 0 where
  Unchanged : Change
  Becomes : State → Change
  WatcherEnds : Change

-- what an event brings, or what the link answers in a turn
pub record Matter : Type 0 where
  pub change : Change
  pub answer : Option pull.Answer
  pub arrival : Option Arrival

-- a row was passed: the consumer after it, what it puts out, and the rows that follow at once
pub record Passed : Type 0 where
  pub consumer : Consumer
  pub outputs : List Output
  pub next : List Row

-- nothing is put out
abbrev pub silent_row : Consumer → List Row → Passed
silent_row c rows = record { consumer = c; outputs = []; next = rows }

-- the consumer at another phase
abbrev pub at_phase : Phase → Consumer → Consumer
at_phase phase c = record c { phase = phase }

-- what a reader sends is put out
abbrev pub output_of : Sent → Output
output_of (goes.Request number subject headers payload) = out.Request number subject payload
output_of (goes.Publish subject reply headers payload) = out.Publish subject reply payload
output_of (goes.Subscribe inbox subject group) = out.Subscribe inbox subject
