use Rattle.std.proofs.Common.{◌≡◌, ◌+◌, ◌-◌, ◌*◌, ◌<◌, ◌≤◌, length}
use Rattle.js_tool_generate.specs.Episode.{episodes}
use Rattle.js_tool_generate.specs.Transcript.{at_places}
use Rattle.js_tool_generate.proofs.AddedEvents.{episode_of}
use Rattle.js_tool_generate.proofs.transcript.whole_episodes.Given as goal

abbrev pub invariant-loop-alloc : goal.invariant-loop-alloc
invariant-loop-alloc l = record {
  episode : l.episode ≡ episode_of l.seed l.episode.number;
  events : l.events.items ≡ at_places 1 (episodes l.seed 0 l.episode.number);
  many : 5 * l.episode.number ≤ length l.events.items;
  within : l.episode.number ≤ l.count;
  few : length l.events.items < l.count + 12;
}

abbrev pub decreases-loop-alloc : goal.decreases-loop-alloc
decreases-loop-alloc l = l.count - length l.events.items
