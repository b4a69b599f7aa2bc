use Rattle.js_ordered_stream.proofs.SteadyStates.{closed_steady}
use Rattle.js_ordered_stream.proofs.ordered.Ordered.close.Goals as goal

pub returns-clause-steady : goal.returns-clause-steady
returns-clause-steady c = closed_steady _ _ _ c.replace_with.ensures c.clear.ensures.todo
