use Rattle.std.proofs.Common.{Some, sym}
use Rattle.js_pull.specs.HeldMessage.{seen}
use Rattle.js_pull.proofs.Meetings.{due_met, held_none, held_some}
use Rattle.js_pull.proofs.arrivals.meet.Goals as goal

pub returns-in-None-clause-met : goal.returns-in-None-clause-met
returns-in-None-clause-met g c =
    let link = g.L.Link.view c.args.link.now in
    let inbox = c.args.reader.now.source.inbox in
    due_met _ c.args.due c.args.reply.now c.args.reader.now _ link _ c.in-CheckArrival.is (held_none c.args.held.now inbox link (sym c.in-None.ensures.value)) c.take_first.ensures.met

pub returns-in-Some-clause-met : goal.returns-in-Some-clause-met
returns-in-Some-clause-met g c =
    let link = g.L.Link.view c.args.link.now in
    let inbox = c.args.reader.now.source.inbox in
    due_met _ c.args.due c.args.reply.now c.args.reader.now _ (seen (Some c.in-Some.message) inbox link) _ c.in-CheckArrival.is
    (held_some c.args.held.now c.in-Some.message inbox link (sym c.in-Some.ensures.value)) c.take_held.ensures.met
