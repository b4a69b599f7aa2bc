use Rattle.std.proofs.Common.{sym, ◌∙◌}
use Rattle.js_ordered_stream.specs.Ordered.{given_to, position_of}
use Rattle.js_ordered_stream.proofs.Strides.{poll_over}
use Rattle.js_ordered_stream.proofs.ordered.Ordered.poll_next.Goals as goal

pub returns-then-is_over-clause-polls : goal.returns-then-is_over-clause-polls
returns-then-is_over-clause-polls g c =
    poll_over (given_to c.args.self.now) c.args.now (position_of c.args.self.now) (g.L.Link.view c.args.link.now) (sym c.is_over.ensures ∙ c.if-is_over.true)

pub returns-then-is_over-clause-sources : goal.returns-then-is_over-clause-sources
returns-then-is_over-clause-sources g c =
    (poll_over (given_to c.args.self.now) c.args.now (position_of c.args.self.now) (g.L.Link.view c.args.link.now) (sym c.is_over.ensures ∙ c.if-is_over.true), tt)
