use Rattle.std.proofs.Common.{[], ◌∷◌, Some, refl}
use Rattle.js_tool_follow.proofs.ConversationEnds.{begun_stops}
use Rattle.js_tool_follow.proofs.TurnOutcomes.{began, opened_last, opening_ends}
use Rattle.js_tool_follow.proofs.conversation.open.Goals as goal

pub returns-in-Err : goal.returns-in-Err
returns-in-Err g c = λ from line reads begun. begun_stops c.args.options from (g.P.Peer.view c.args.peer.now) c.args.more line c.args.lines.now.left begun

pub returns-then-more : goal.returns-then-more
returns-then-more g c = λ from line reads begun.
    c.listen-status.ensures c.args.options from (line ∷ [])
    (began c.args.options from (g.P.Peer.view c.args.peer.now) (g.P.Peer.view c.answer_opening.new.peer) c.args.more line c.args.lines.now.left c.in-Ok.listener c.if-more.true begun c.in-None.ensures.writes
    (λ gone same cut. c.in-None.ensures.greeted c.args.options from c.args.setup.now line _ c.in-Ok.ensures.options c.in-Ok.ensures.come reads gone same cut)
    (λ has. c.in-None.ensures.said c.args.options c.args.setup.now line c.args.lines.now.left c.in-Ok.ensures.options c.in-Ok.ensures.come reads has refl))

pub returns-in-Some : goal.returns-in-Some
returns-in-Some g c = λ from line reads begun.
    opening_ends c.args.options from (g.P.Peer.view c.args.peer.now) (g.P.Peer.view c.answer_opening.new.peer) c.args.more line c.args.lines.now.left c.in-Some.status begun
    (λ left gone same cut. c.in-Some.ensures.greeted c.args.options from c.args.setup.now line left c.in-Ok.ensures.options c.in-Ok.ensures.come reads gone same cut) (c.in-Some.ensures.punctual c.args.options)

pub returns-else-more : goal.returns-else-more
returns-else-more g c = λ from line reads begun.
    opened_last c.args.options from (g.P.Peer.view c.args.peer.now) (g.P.Peer.view c.answer_opening.new.peer) (g.P.Peer.view c.answer_end-status.new.peer) c.args.more line c.args.lines.now.left c.in-Ok.listener c.answer_end-status.result c.if-more.false begun
    (λ gone same cut. c.in-None.ensures.greeted c.args.options from c.args.setup.now line (Some []) c.in-Ok.ensures.options c.in-Ok.ensures.come reads gone same cut)
    (λ stands cut. c.answer_end-status.ensures.ended c.args.options from (line ∷ []) (Some []) stands cut)
    (λ was. c.answer_end-status.ensures.punctual c.args.options (c.in-None.ensures.punctual c.args.options was))
