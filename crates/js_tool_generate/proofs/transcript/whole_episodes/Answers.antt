use Rattle.std.proofs.Common.{◌≡◌, ◌+◌, ◌≤◌, ◌∙◌, ap, sym, take, length, arith}
use Rattle.js_tool_generate.specs.Episode.{episodes}
use Rattle.js_tool_generate.specs.Transcript.{at_places}
use Rattle.js_tool_generate.proofs.AddedEvents.{before_small, next_is, episode_pushed, episode_length, enough}
use Rattle.js_tool_generate.proofs.transcript.whole_episodes.Goals as goal

pub push_events-requires-clause-before : goal.push_events-requires-clause-before
push_events-requires-clause-before c = before_small c.args.seed c.loop-alloc.episode c.loop-alloc.invariant.episode (omega arith)

pub next-episode-requires-clause-before : goal.next-episode-requires-clause-before
next-episode-requires-clause-before c = before_small c.args.seed c.loop-alloc.episode c.loop-alloc.invariant.episode (omega arith)

pub loop-alloc-preserved : goal.loop-alloc-preserved
loop-alloc-preserved c =
    let old = c.loop-alloc.events.items in
    let new = c.push_events.new.events.items in
    let number : c.next-episode.result.number ≡ c.loop-alloc.episode.number + 1 = ap (λ e. e.number) c.next-episode.ensures in
    let longer = episode_length c.args.seed c.loop-alloc.episode old new c.in_ok-push_events.ensures in
    record {
      episode = next_is c.args.seed c.loop-alloc.episode c.next-episode.result c.loop-alloc.invariant.episode c.next-episode.ensures;
      events = episode_pushed c.args.seed c.loop-alloc.episode old new c.loop-alloc.invariant.episode c.loop-alloc.invariant.events c.in_ok-push_events.ensures
          ∙ ap (λ n. at_places 1 (episodes c.args.seed 0 n)) (sym number);
      many = omega (arith, number, longer.0);
      within = omega (arith, number);
      few = omega (arith, longer.1);
    }

pub returns : goal.returns
returns c =
    let long : c.args.count ≤ length (at_places 1 (episodes c.args.seed 0 c.loop-alloc.episode.number)) = omega (arith, ap length c.loop-alloc.invariant.events) in
    enough c.args.seed c.args.count c.loop-alloc.episode.number c.loop-alloc.invariant.within long ∙ ap (take c.args.count) (sym c.loop-alloc.invariant.events)
