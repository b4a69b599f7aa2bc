use Rattle.std.proofs.Common.{◌≡◌, ◌+◌, ◌-◌, ◌<◌, ◌≤◌, ◌++◌, length}
use Rattle.js_tool_generate.specs.Episode.{deliveries, recovery}
use Rattle.js_tool_generate.specs.Transcript.{at_places}
use Rattle.js_tool_generate.proofs.episode.Episode.push_events.Given as goal

abbrev pub invariant-loop-number : goal.invariant-loop-number
invariant-loop-number l = record {
  above : 1 ≤ l.number;
  room : length l.events.items < 1_000_000 + l.number;
  rest : l.events.items ++ at_places (length l.events.items + 1) (deliveries l.self.number l.self.before l.number (l.delivered + 1 - l.number) ++ recovery l.self.number l.self.before l.delivered)
      ≡ l.initial.events.items ++ at_places (length l.initial.events.items + 1) (deliveries l.self.number l.self.before 1 l.delivered ++ recovery l.self.number l.self.before l.delivered);
}
