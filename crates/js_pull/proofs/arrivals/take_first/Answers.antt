use Rattle.std.proofs.Common.{◌∙◌}
use Rattle.js_pull.proofs.Meetings.{arrival_met, unread_as}
use Rattle.js_pull.proofs.arrivals.take_first.Goals as goal

pub returns-in-Ok-clause-met : goal.returns-in-Ok-clause-met
returns-in-Ok-clause-met g c =
    let view = g.L.Link.view in
    λ reply. arrival_met reply c.args.reader.now _ c.args.held.now (view c.args.link.now) (view c.take-met.new.link) c.requires c.take-met.ensures c.in-Ok.ensures

pub returns-in-Err-clause-refused : goal.returns-in-Err-clause-refused
returns-in-Err-clause-refused g c =
    let view = g.L.Link.view in
    unread_as c.args.reader.now.source.inbox _ c.hold.new.held (view c.args.link.now) (view c.take-met.new.link) (c.hold.ensures ∙ c.into_message.ensures) c.take-met.ensures
