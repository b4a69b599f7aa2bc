use Rattle.std.proofs.Common.{false}
use Rattle.js_pull.specs.Stream.{position_of, seen_by}
use Rattle.js_pull.proofs.Calls.{Advanced}
use Rattle.js_pull.proofs.Measure.{measure}
use Rattle.js_pull.proofs.stream.Stream.advance.Given as goal

-- the rows so far have told nothing, and are of one event
abbrev pub invariant-rows : goal.invariant-rows
invariant-rows g l =
    let view = g.L.Link.view in
    record {
      advanced : Advanced l.now l.fn.change (position_of l.fn.self) (position_of l.self) (seen_by l.fn.self (view l.fn.link)) (seen_by l.self (view l.link));
    }

abbrev pub decreases-rows : goal.decreases-rows
decreases-rows g l = measure false (position_of l.self) (seen_by l.self (g.L.Link.view l.link))
