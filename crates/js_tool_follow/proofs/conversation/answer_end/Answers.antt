use Rattle.js_tool_follow.proofs.ConversationEnds.{finished, has_ending}
use Rattle.js_tool_follow.proofs.conversation.answer_end.Goals as goal

pub returns-in-Some-clause-ended : goal.returns-in-Some-clause-ended
returns-in-Some-clause-ended g c = λ asked from lines left stands cut.
    finished asked from (g.P.Peer.view c.args.peer.now) (g.P.Peer.view c.write_answer.new.peer) lines left c.in-Ok.answer.text.items c.in-Ok.answer.ending c.in-Some.status c.args.listener.now
    stands c.in-Some.ensures.writes cut (c.in-Ok.ensures.told asked lines stands.told) c.in-Some.ensures.replies

pub unreachable-requires : goal.unreachable-requires
unreachable-requires g c =
    has_ending (g.P.Peer.view c.args.peer.now) (g.P.Peer.view c.write_answer.new.peer) c.in-Ok.answer.text.items c.in-Ok.answer.ending c.in-Ok.ensures.over c.in-None.ensures.replies
