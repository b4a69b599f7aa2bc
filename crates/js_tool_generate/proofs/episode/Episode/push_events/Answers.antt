use Rattle.std.proofs.Common.{arith}
use Rattle.js_tool_generate.proofs.AddedEvents.{all_pushed, on_ok}
use Rattle.js_tool_generate.proofs.episode.Episode.push_events.Goals as goal

pub returns : goal.returns
returns c =
    on_ok c.push_recovery.result
    (all_pushed c.args.events.now.items c.loop-number.events.items c.push_recovery.new.events.items c.args.self.now.number c.args.self.now.before c.loop-number.number
    c.delivered-delivered.result _ c.delivered-delivered.ensures (omega arith) c.loop-number.invariant.rest)
    c.push_recovery.ensures
