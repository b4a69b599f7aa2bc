use Rattle.std.proofs.Common.{◌∙◌}
use Rattle.js_ordered.specs.IncrementalReplay.{replay_given}
use Rattle.js_ordered.proofs.EventByEvent.{rest_begins}
use Rattle.js_ordered.proofs.incremental_replay.IncrementalReplay.begin.Goals as goal

pub returns-clause-rest : goal.returns-clause-rest
returns-clause-rest c =
    rest_begins (replay_given c.args.self.now) c.args.event.now c.link_after-self.result c.make_room.new.self.tasks.items c.args.self.now.todo.tasks.items c.push.new.self.tasks.items c.args.self.now.state
    c.args.self.now.outputs c.empty.new.outputs c.link_after-self.ensures (c.make_room.ensures.tasks ∙ c.requires.rested) c.requires.rested c.push.ensures.tasks c.empty.ensures
