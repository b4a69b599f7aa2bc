use Rattle.js_ordered_stream.specs.Ordered.{given_to}
use Rattle.js_ordered_stream.proofs.SteadyStates.{taken_steady}
use Rattle.js_ordered_stream.proofs.ordered.Ordered.hand_out.Goals as goal

pub returns-clause-steady : goal.returns-clause-steady
returns-clause-steady c =
    taken_steady (given_to c.args.self.now).setup c.args.self.now.consumer c.args.self.now.left c.take_message.new.self c.take_message.ensures.todo c.take_message.ensures.read c.requires.steady
