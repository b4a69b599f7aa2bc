use Rattle.js_window_workers.proofs.Takes.{ended_of}
use Rattle.js_window_workers.proofs.worker.work.Goals as goal

pub returns-clause-ended : goal.returns-clause-ended
returns-clause-ended g c =
    ended_of c.args.window.now c.args.calls _ _ c.args.job _ c.requires.ready c.take_calls-got.ensures.calls c.take_calls-got.ensures.sum
