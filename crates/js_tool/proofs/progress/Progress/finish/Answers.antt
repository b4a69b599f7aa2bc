use Rattle.std.proofs.Common.{◌∙◌}
use Rattle.js_tool.proofs.progress.Progress.finish.Goals as goal

pub returns-in-Ok : goal.returns-in-Ok
returns-in-Ok g c = λ input start es passed.
    let ends = c.in-Ok.ensures.ended input start es passed.replay in
    record { accepted = ends.0; told = passed.told; ends = ends.1; counted = c.count-events.ensures ∙ passed.replay.count }
