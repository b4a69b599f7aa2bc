use Rattle.std.proofs.Common.{refl}
use Rattle.js_tool.proofs.progress.Progress.open.Goals as goal

pub returns-in-Ok : goal.returns-in-Ok
returns-in-Ok g c = record { given = refl; replay = c.in_ok-replay.ensures; told = c.in-Ok.ensures c.in_ok-replay.ensures }
