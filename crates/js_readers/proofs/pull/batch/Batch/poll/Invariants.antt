use Rattle.std.proofs.Common.{◌≡◌}
use Rattle.js_readers.proofs.BatchReads.{Passed}
use Rattle.js_readers.proofs.pull.batch.Batch.poll.Given as goal

-- heartbeats alone were taken so far, and the batch is what it was
abbrev pub invariant-arrivals : goal.invariant-arrivals
invariant-arrivals g l =
    let view = g.L.Link.view in
    record {
      same : l.self ≡ l.fn.self;
      passed : Passed l.inbox (view l.fn.link) (view l.link);
    }

abbrev pub decreases-arrivals : goal.decreases-arrivals
decreases-arrivals g l = (g.L.Link.view l.link).count l.inbox
