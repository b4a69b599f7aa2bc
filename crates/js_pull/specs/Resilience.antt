-- What a reader does so that it never hangs.
use Rattle.std.specs.Prelude.{true, false}
use Rattle.js_pull.specs.declared.resilience.Resilience.{Resilience}

-- all options are off
abbrev pub none : Resilience
none = record { answers_stalled = false; asks_at_first_heartbeat = false; recreates_when_gone = false; tells_missing_stream = false }

-- all options are on
abbrev pub all : Resilience
all = record { answers_stalled = true; asks_at_first_heartbeat = true; recreates_when_gone = true; tells_missing_stream = true }
