use Rattle.std.proofs.Common.{Result, subst, sym}
use Rattle.js_base.specs.declared.error.Error.{Error}
use Rattle.js_base.specs.declared.message.Message.{Message}
use Rattle.js_base.specs.declared.turn.Next.{Next}
use Rattle.js_ordered_stream.specs.Opening.{input_of_push, position_of_push}
use Rattle.js_ordered_stream.specs.Ordered.{PollsWithSource}
use Rattle.js_ordered_stream.specs.declared.error.OrderedErrorKind.{OrderedErrorKind}
use Rattle.js_readers.proofs.ordered.push.Ordered.poll_next.Goals as goal

pub returns-clause-sources : goal.returns-clause-sources
returns-clause-sources g c =
    let view = g.L.Link.view in
    subst
    (λ (r : Next (Result Message (Error OrderedErrorKind))). PollsWithSource (input_of_push c.args.self.now.reader) c.args.now (position_of_push c.args.self.now.reader) (position_of_push c.poll_next.new.self) (view c.args.link.now) (view c.poll_next.new.link) r)
    (sym c.timed.ensures.same) c.poll_next.ensures.sources
