use Rattle.js_tool_follow.proofs.TurnOutcomes.{took_end, took_last, took_line}
use Rattle.js_tool_follow.proofs.conversation.take_turn.Goals as goal

pub returns-in-Line-clause-turn : goal.returns-in-Line-clause-turn
returns-in-Line-clause-turn g c = λ asked from told at.
    took_line asked from (g.P.Peer.view c.args.peer.now) (g.P.Peer.view c.next.new.peer) (g.P.Peer.view c.answer_line.new.peer) told c.line.result.now c.next.new.lines.line c.args.lines.now.left c.next.new.lines.left
    c.args.listener.now c.answer_line.new.listener c.answer_line.result c.in-Ok.next c.in-Line.is c.line.ensures at c.in-Ok.ensures.reads c.in-Ok.ensures.line (c.in-Ok.ensures.heard asked told)
    (λ stands cut. c.answer_line.ensures.told asked from told _ _ stands cut) c.answer_line.ensures.writes (λ has none. c.answer_line.ensures.said asked told c.next.new.lines.left at.stands.told has none) (c.answer_line.ensures.punctual asked)

pub returns-in-Last-clause-turn : goal.returns-in-Last-clause-turn
returns-in-Last-clause-turn g c = λ asked from told at.
    took_last asked from (g.P.Peer.view c.args.peer.now) (g.P.Peer.view c.next.new.peer) (g.P.Peer.view c.answer_last.new.peer) told c.line-in-Last.result.now c.next.new.lines.line c.args.lines.now.left c.next.new.lines.left
    c.args.listener.now c.answer_last.result c.in-Ok.next c.in-Last.is c.line-in-Last.ensures at c.in-Ok.ensures.reads c.in-Ok.ensures.line (c.in-Ok.ensures.heard asked told)
    (λ stands cut. c.answer_last.ensures.ended asked from told _ stands cut) (c.answer_last.ensures.punctual asked)

pub returns-in-End-clause-turn : goal.returns-in-End-clause-turn
returns-in-End-clause-turn g c = λ asked from told at.
    took_end asked from (g.P.Peer.view c.args.peer.now) (g.P.Peer.view c.next.new.peer) (g.P.Peer.view c.answer_end.new.peer) told c.next.new.lines.line c.args.lines.now.left c.next.new.lines.left
    c.args.listener.now c.answer_end.result c.in-Ok.next c.in-End.is at c.in-Ok.ensures.reads c.in-Ok.ensures.line (c.in-Ok.ensures.heard asked told)
    (λ stands cut. c.answer_end.ensures.ended asked from told _ stands cut) (c.answer_end.ensures.punctual asked)
