use Rattle.std.specs.Prelude.{◌≡◌}
use Rattle.js_ordered_stream.specs.Ordered.{given_to, position_of}
use Rattle.js_ordered_stream.specs.Polled.{IsSteady}
use Rattle.js_ordered_stream.proofs.Measure.{measure}
use Rattle.js_ordered_stream.proofs.Strides.{Walked}
use Rattle.js_ordered_stream.proofs.ordered.Ordered.walk.Given as goal

-- the rows so far have handed nothing out, and those of a quiet turn have taken no message and started no reader
abbrev pub invariant-rows : goal.invariant-rows
invariant-rows g l =
    let view = g.L.Link.view in
    record {
      given : given_to l.self ≡ given_to l.fn.self;
      steady : IsSteady (given_to l.self).setup l.self.consumer l.self.left;
      walked : Walked (given_to l.fn.self) l.now l.quiet (position_of l.fn.self) (position_of l.self) (view l.fn.link) (view l.link);
    }

abbrev pub decreases-rows : goal.decreases-rows
decreases-rows g l = measure l.quiet (position_of l.self) (g.L.Link.view l.link)
