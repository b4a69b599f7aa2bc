use Rattle.js_readers.proofs.PushPolls.{Polled, measure}
use Rattle.js_readers.proofs.push.messages.Messages.poll.Given as goal

-- the rows so far have told nothing
abbrev pub invariant-rows : goal.invariant-rows
invariant-rows g l =
    let view = g.L.Link.view in
    record { polled : Polled l.now l.fn.self l.self (view l.fn.link) (view l.link) }

abbrev pub decreases-rows : goal.decreases-rows
decreases-rows g l = measure l.self (g.L.Link.view l.link)
