use Rattle.std.proofs.Common.{refl}
use Rattle.js_readers_worker.proofs.Runs.{takes_nothing}
use Rattle.js_readers_worker.proofs.worker.Worker.stop.Goals as goal

pub returns-clause-takes_nothing : goal.returns-clause-takes_nothing
returns-clause-takes_nothing g c = takes_nothing _ _ refl
