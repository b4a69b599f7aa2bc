-- The core of an ordered consumer: which message is yielded next, and where a recreation starts.
use Rattle.std.specs.Prelude.{ℕ, ◌+◌, min, Option, Some, None, ◌==◌, if◌then◌else◌}
use Rattle.js_pull.specs.Reader.{u64_max}
use Rattle.js_ordered_table.specs.declared.ordered_core.OrderedCore.{OrderedCore}
use Rattle.js_ordered_table.specs.declared.run.Start as starts
use Rattle.js_ordered_table.specs.declared.run.Start.TheVariants as start

-- nothing was yielded yet
abbrev pub new_core : Option ℕ → OrderedCore
new_core configured = record { stream_sequence = 0; consumer_sequence = 0; recreation_count = 0; start = configured }

-- after a yield its numbers are the last ones
abbrev pub after_yield : ℕ → ℕ → OrderedCore → OrderedCore
after_yield stream_sequence consumer_sequence core = record core { stream_sequence = stream_sequence; consumer_sequence = consumer_sequence }

-- a recreation begins: its consumer counts from 1 again
abbrev pub after_restart : OrderedCore → OrderedCore
after_restart core = record core { consumer_sequence = 0; recreation_count = min (core.recreation_count + 1) u64_max }

-- without a yield: from the configured start, else all
abbrev pub first_start : Option ℕ → starts.Start
first_start None = start.All
first_start (Some sequence) = start.From sequence

-- after the last yield, of which 0 is none
abbrev pub start_after : Option ℕ → ℕ → starts.Start
start_after configured last = if last == 0 then first_start configured else start.From (last + 1)

-- where a recreation that begins now starts
abbrev pub restart_at : OrderedCore → starts.Start
restart_at core = start_after core.start core.stream_sequence
