use Rattle.js_ordered_stream.specs.Ordered.{given_to}
use Rattle.js_ordered_stream.proofs.SteadyStates.{taken_steady}
use Rattle.js_ordered_stream.proofs.ordered.Ordered.tell.Goals as goal

pub returns-in-RequestLimitExceeded-clause-steady : goal.returns-in-RequestLimitExceeded-clause-steady
returns-in-RequestLimitExceeded-clause-steady c =
    taken_steady (given_to c.args.self.now).setup c.args.self.now.consumer c.args.self.now.left c.take_message.new.self c.take_message.ensures.todo c.take_message.ensures.read c.requires
