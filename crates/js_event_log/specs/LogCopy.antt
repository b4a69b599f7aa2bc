-- A mirror of a log: what its slots say of the log, and the server that serves it again.
use Rattle.std.specs.Prelude.{◌≡◌, ℕ, List, map, Contains, Some}
use Rattle.js_base.specs.declared.message.Entry as base
use Rattle.js_event_log.specs.Mirror.{Mirrored, message, hole, slot}
use Rattle.js_ordered_table.specs.declared.consumer.ReplayInput.{ReplayInput}
use Rattle.js_ordered_table.specs.declared.event.Event.{Event}
use Rattle.js_ordered_table.specs.declared.run.Run.{Run}
use Rattle.js_ordered_table.specs.declared.setup.OrderedSetup.{OrderedSetup}
use Rattle.js_ordered_table.specs.Texts.{filters, configured_start}
use Rattle.js_ordered_table.specs.Gapless.{Server, IsHonest, IsMatching, entry_at, sequences, yields, all_outputs}
use Rattle.js_ordered_table.specs.Replay.{IsReplay}
use Rattle.js_event_log.specs.RelayReader.{handed, IsReader}

-- a mirror of a run: it starts where the run's consumer was configured to, and has what the run handed out
pub record IsCopy (setup : OrderedSetup) (run : Run) (mirror : Mirrored) : Type 0 where
  pub start : configured_start setup ≡ Some mirror.start
  pub entries : map handed mirror.entries ≡ yields (all_outputs run)

-- each message is the log's, and each hole was removed or does not match
pub record ShowsLog (s : Server) (setup : OrderedSetup) (mirror : Mirrored) : Type 0 where
  pub messages : (sequence : ℕ) (entry : base.Entry) → slot mirror sequence ≡ message entry
      → entry_at s.log sequence ≡ Some (record { subject = entry.subject; payload = entry.payload })
  pub holes : (sequence : ℕ) → slot mirror sequence ≡ hole → IsMatching setup s.log sequence → Contains s.removed sequence

-- the server of a mirror has the log and the removed ones of the first one, and sends each inbox the mirror's entries from the mirror's start on
abbrev pub server_of : Server → Mirrored → Server
server_of s mirror = record {
  log = s.log;
  removed = s.removed;
  starts = λ inbox. mirror.start;
  lists = λ inbox. sequences (map handed mirror.entries);
}

-- Let a server have been honest in a run, and the mirror be one of that run. Then the events are honest for the same log and the same removed ones in each replay by a consumer with the same filters that is configured to start where the mirror does.
abbrev pub StaysHonest : Mirrored → List Event → Type 0
StaysHonest mirror es =
    (s : Server) (first : ReplayInput) (start : ℕ) (first_events : List Event) (first_run : Run)
    → IsReplay first start first_events first_run → IsHonest s first.setup first_events first_run → IsCopy first.setup first_run mirror
    → (g : ReplayInput) (run : Run) → IsReader g → configured_start g.setup ≡ Some mirror.start → filters g.setup ≡ filters first.setup → IsReplay g 0 es run
    → IsHonest (server_of s mirror) g.setup es run

-- and the mirror's slots show the log of each server that was honest in the run
abbrev pub ShowsEachLog : Mirrored → Type 0
ShowsEachLog mirror =
    (s : Server) (first : ReplayInput) (start : ℕ) (first_events : List Event) (first_run : Run)
    → IsReplay first start first_events first_run → IsHonest s first.setup first_events first_run → IsCopy first.setup first_run mirror
    → ShowsLog s first.setup mirror
