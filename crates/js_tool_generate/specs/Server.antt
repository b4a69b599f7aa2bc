-- The server of a generated transcript.
use Rattle.std.specs.Prelude.{ℕ, zero, suc, ◌+◌, ◌-◌, List, [], ◌∷◌, decimal, map}
use Rattle.js_ordered_table.specs.declared.event.Event.{Event}
use Rattle.js_ordered_table.specs.declared.run.Run.{Run}
use Rattle.js_ordered_table.specs.Gapless.{Logged, Server, IsHonest}
use Rattle.js_ordered_table.specs.Replay.{IsReplay}
use Rattle.js_tool_generate.specs.Transcript.{replay_input}
use Rattle.js_tool_generate.specs.Episode.{before}

-- so many numbers, from one on
abbrev pub upwards : ℕ → ℕ → List ℕ
upwards from zero = []
upwards from (suc left) = from ∷ upwards (from + 1) left

-- the log of so many messages, whose payloads are their sequences
abbrev pub log : ℕ → List Logged
log last = map (λ sequence. record { subject = []; payload = decimal sequence }) (upwards 1 last)

-- Its log has all that the episodes name, and nothing was removed. Inbox after inbox, it starts at the first message that was not delivered in order, and sends all from there on.
abbrev pub server : ℕ → ℕ → Server
server seed count =
    let last = before seed count + 2 in
    record {
      log = log last;
      removed = [];
      starts = λ inbox. before seed inbox + 1;
      lists = λ inbox. upwards (before seed inbox + 1) (last - before seed inbox);
    }

-- the server is honest to each replay of the events, so that its yields leave no gap
abbrev pub IsServed : ℕ → ℕ → List Event → Type 0
IsServed seed count events = (run : Run) → IsReplay replay_input 0 events run → IsHonest (server seed count) replay_input.setup events run
