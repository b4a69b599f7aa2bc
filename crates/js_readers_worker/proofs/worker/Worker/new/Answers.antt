use Rattle.js_readers_worker.proofs.Runs.{settles_in_turn}
use Rattle.js_readers_worker.proofs.worker.Worker.new.Goals as goal

pub returns-clause-in_turn : goal.returns-clause-in_turn
returns-clause-in_turn g c = settles_in_turn _ _
