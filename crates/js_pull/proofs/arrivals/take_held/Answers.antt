use Rattle.std.proofs.Common.{Option, refl, ap, ◌∙◌}
use Rattle.js_base.specs.declared.message.Message.{Message}
use Rattle.js_pull.specs.HeldMessage.{seen}
use Rattle.js_pull.proofs.Meetings.{held_met, held_heard, held_passed, held_shut}
use Rattle.js_pull.proofs.arrivals.take_held.Goals as goal

pub returns-in-Err-clause-refused : goal.returns-in-Err-clause-refused
returns-in-Err-clause-refused g c =
    ap (λ (held : Option Message). seen held c.args.reader.now.source.inbox (g.L.Link.view c.args.link.now)) (c.hold.ensures ∙ c.into_message.ensures)

pub returns-in-Closed-clause-met : goal.returns-in-Closed-clause-met
returns-in-Closed-clause-met g c =
    let view = g.L.Link.view in
    λ reply. held_met reply _ _ _ _
    (held_shut c.args.reader.now.source.inbox c.args.message c.args.held.now (view c.args.link.now) (view c.take.new.self) c.requires c.in-Closed.ensures) refl

pub returns-in-Empty-clause-met : goal.returns-in-Empty-clause-met
returns-in-Empty-clause-met g c =
    let view = g.L.Link.view in
    λ reply. held_met reply _ _ _ _
    (held_heard c.args.reader.now.source.inbox c.args.message c.args.held.now (view c.args.link.now) (view c.take.new.self) c.requires c.in-Empty.ensures) c.in-Ok.ensures

pub returns-in-Message-clause-met : goal.returns-in-Message-clause-met
returns-in-Message-clause-met g c =
    let view = g.L.Link.view in
    λ reply. held_met reply _ _ _ _
    (held_passed c.args.reader.now.source.inbox c.args.message _ c.hold-in-Message.new.held (view c.args.link.now) (view c.take.new.self) c.hold-in-Message.ensures c.in-Message.ensures)
    c.in-Ok.ensures
