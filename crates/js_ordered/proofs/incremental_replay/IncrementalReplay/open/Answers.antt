use Rattle.std.proofs.Common.{refl, ◌∙◌, None}
use Rattle.js_ordered.proofs.EventByEvent.{comes_first}
use Rattle.js_ordered.proofs.incremental_replay.IncrementalReplay.open.Goals as goal

pub returns-in-Ok : goal.returns-in-Ok
returns-in-Ok c =
    comes_first (record { settings = c.args.settings.now; setup = c.args.setup.now; first = c.args.first.now }) c.args.start
    (record { settings = c.args.settings; setup = c.args.setup; first = c.args.first; moment = c.args.start; count = 0; early = None; exhausted = None; state = c.in-Ok.state; outputs = c.from.result; todo = c.open.new.todo })
    refl refl refl refl refl c.in-Ok.ensures.state (c.from.ensures ∙ c.in-Ok.ensures.outputs) c.in-Ok.ensures.rested
