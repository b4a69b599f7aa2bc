-- What holds of a polled consumer between any two of its rows.
use Rattle.std.specs.Prelude.{◌≡◌, Bool, true, false, ◌&&◌, not, nat_lt, List, [], ◌∷◌, Option, Some, None, refl}
use Rattle.js_base.specs.declared.message.Message.{Message}
use Rattle.js_ordered_stream.specs.declared.remaining_rows.RemainingRows.{RemainingRows}
use Rattle.js_ordered_stream.specs.Rows.{FirstStands, is_first_held, left_rows, read_in}
use Rattle.js_pull.specs.declared.reader.Row.TheVariants as read
use Rattle.js_ordered_table.specs.Fold.{rank}
use Rattle.js_ordered_table.specs.declared.consumer.Consumer.{Consumer}
use Rattle.js_ordered_table.specs.declared.consumer.Opened.{Opened}
use Rattle.js_ordered_table.specs.declared.consumer.Phase.{Phase}
use Rattle.js_ordered_table.specs.declared.consumer.Phase.TheVariants.{Pulls, Recreates}
use Rattle.js_ordered_table.specs.declared.row.Row.{Row}
use Rattle.js_ordered_table.specs.declared.row.Row.TheVariants.{Event, Hold, Read}
use Rattle.js_ordered_table.specs.declared.setup.OrderedSetup.{OrderedSetup}
use Rattle.js_ordered_table.specs.declared.setup.OrderedSetup.TheVariants.{Pull, Push}

-- ---- its phase

-- push mode
abbrev pub is_push : OrderedSetup → Bool
is_push (Pull setup) = false
is_push (Push setup) = true

abbrev pub is_none_held : List Message → Bool
is_none_held [] = true
is_none_held (message ∷ held) = false

-- push alone opens an inbox for a create, and nothing is held for it
abbrev pub is_bare : OrderedSetup → Option Opened → Bool
is_bare setup None = true
is_bare setup (Some opened) = is_push setup && is_none_held opened.held

-- its reader is not pinned, and its recreation holds nothing
abbrev pub is_plain : OrderedSetup → Phase → Bool
is_plain setup (Pulls reader) = not reader.source.pinned
is_plain setup (Recreates r) = is_bare setup r.opened
is_plain setup phase = true

-- ---- the rows that are left to it

-- a row behind which a row of a reader may wait, though it may have begun a recreation
abbrev pub is_early : Row → Bool
is_early (Read read.CheckInfoRequest) = true
is_early (Read (read.Answered reply failures)) = true
is_early row = nat_lt (rank row) 5

-- this row may be next while another one waits
abbrev pub may_wait : OrderedSetup → Row → Row → Bool
may_wait setup row Hold = is_push setup && nat_lt (rank row) 9
may_wait setup row (Read read.Arm) = is_early row
may_wait setup row (Read read.CheckArrival) = is_early row
may_wait setup row later = false

-- a row, and one at most that waits behind it
abbrev pub is_turn : OrderedSetup → List Row → Bool
is_turn setup [] = true
is_turn setup (row ∷ []) = true
is_turn setup (row ∷ later ∷ []) = may_wait setup row later
is_turn setup (row ∷ later ∷ third ∷ rows) = false

-- worked: a reader that opens arms its heartbeat behind its first request; behind an event nothing waits
worked_turn : (setup : OrderedSetup) → (is_turn setup (Read read.Threshold ∷ Read read.Arm ∷ []) ≡ true) × (is_turn setup (Event ∷ Read read.Arm ∷ []) ≡ false)
worked_turn setup = (refl, refl)

-- ---- both

pub record IsSteady (setup : OrderedSetup) (c : Consumer) (left : RemainingRows) : Type 0 where
  pub plain : is_plain setup c.phase ≡ true
  pub turn : is_turn setup (left_rows left) ≡ true
  pub stands : FirstStands (read_in left.seen) left.todo
  pub held : is_first_held left.todo ≡ false
