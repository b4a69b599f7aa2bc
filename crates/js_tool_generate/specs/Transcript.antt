-- A generated transcript: what its consumer is made with, and its events.
use Rattle.std.specs.Prelude.{ℕ, pos, ◌+◌, ◌*◌, List, [], ◌∷◌, take, Some, None, false, codes}
use Rattle.jiff.specs.Types.{Timestamp}
use Rattle.js_json.specs.declared.consumer.info.Info.{Info}
use Rattle.js_json.specs.declared.consumer.info.SequenceInfo.{SequenceInfo}
use Rattle.js_json.specs.ConsumerConfig.{new_config}
use Rattle.js_json.specs.PullConfig.{new_ordered_pull_config}
use Rattle.js_ordered_table.specs.declared.setup.Settings.{Settings}
use Rattle.js_ordered_table.specs.declared.setup.OrderedSetup.TheVariants.{Pull}
use Rattle.js_ordered_table.specs.declared.consumer.ReplayInput.{ReplayInput}
use Rattle.js_ordered_table.specs.declared.event.Event.{Event}
use Rattle.js_ordered_table.specs.declared.event.EventKind.{EventKind}
use Rattle.js_pull.specs.Resilience.{none}
use Rattle.js_tool_generate.specs.Episode.{episodes}

-- ---- the setup

-- all at their defaults
abbrev pub settings : Settings
settings = record {
  api_prefix = codes "$JS.API";
  inbox_prefix = codes "_INBOX.t";
  context_timeout = None;
  request_timeout = Some 10_000_000_000;
  retries = 4_294_967_295;
  resilience = none;
}

-- 2026-01-01T00:00:00Z
abbrev new_year : Timestamp
new_year = record { nanosecond = pos 1_767_225_600_000_000_000; in_range = (record { le = tt }, record { le = tt }) }

-- nothing was delivered
abbrev nowhere : SequenceInfo
nowhere = record { consumer_sequence = 0; stream_sequence = 0; last_active = None }

-- the consumer with this name
abbrev pub info : List ℕ → Info
info name = record {
  stream_name = codes "events";
  name = name;
  created = new_year;
  config = new_config;
  delivered = nowhere;
  ack_floor = nowhere;
  num_ack_pending = 0;
  num_redelivered = 0;
  num_waiting = 0;
  num_pending = 0;
  cluster = None;
  push_bound = false;
  paused = false;
  pause_remaining = None;
  priority_groups = [];
}

-- an ordered pull consumer of all messages
abbrev pub replay_input : ReplayInput
replay_input = record { settings = settings; setup = Pull new_ordered_pull_config; first = info (codes "gen") }

-- ---- the events

-- one a millisecond, of which the first here has this place
abbrev pub at_places : ℕ → List EventKind → List Event
at_places place [] = []
at_places place (what ∷ whats) = record { at = place * 1_000_000; what = what } ∷ at_places (place + 1) whats

-- the first `count` events of the episodes, of which so many are enough
abbrev pub generated : ℕ → ℕ → List Event
generated seed count = take count (at_places 1 (episodes seed 0 count))
