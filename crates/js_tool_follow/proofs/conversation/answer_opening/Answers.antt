use Rattle.std.proofs.Common.{List, ℕ, ◌∷◌, [], sym, subst}
use Rattle.js_tool.specs.declared.command.FollowOptions.{FollowOptions}
use Rattle.js_tool_follow.specs.Answer.{AnswersEvents}
use Rattle.js_tool_follow.specs.Punctuality.{Holds, TurnsSoFar}
use Rattle.js_tool_follow.proofs.LineAnswers.{answered_opening}
use Rattle.js_tool_follow.proofs.ConversationEnds.{replied, says_in, appends_same, out_of_memory, says_nothing}
use Rattle.js_tool_follow.proofs.conversation.answer_opening.Goals as goal

pub returns-in-Ok-clause-greeted : goal.returns-in-Ok-clause-greeted
returns-in-Ok-clause-greeted g c = λ asked from setup line left options come reads gone same cut.
    replied asked from (g.P.Peer.view c.args.peer.now) (g.P.Peer.view c.write_answer.new.peer) (line ∷ []) left [] c.in-Ok.answer.text.items c.in-Ok.answer.ending c.write_answer.result c.args.listener.now
    gone c.write_answer.ensures.writes cut (appends_same from.taken (g.P.Peer.view c.args.peer.now).taken same)
    (answered_opening asked setup line c.in-Ok.answer.text.items c.in-Ok.answer.ending c.args.listener.now options come reads
    (subst (λ (o : FollowOptions). AnswersEvents o [] setup [] c.in-Ok.answer.text.items c.in-Ok.answer.ending) options (c.in-Ok.ensures setup [] come))) c.write_answer.ensures.replies

pub returns-in-Err-clause-greeted : goal.returns-in-Err-clause-greeted
returns-in-Err-clause-greeted g c = λ asked from setup line left options come reads gone same cut.
    out_of_memory asked from (g.P.Peer.view c.args.peer.now) gone (says_nothing asked from (g.P.Peer.view c.args.peer.now) same)

pub returns-in-Ok-clause-said : goal.returns-in-Ok-clause-said
returns-in-Ok-clause-said g c = λ asked setup line held options come reads has none.
    subst (λ (t : List ℕ). Holds (g.P.Peer.view c.write_answer.new.peer).turns (TurnsSoFar asked (line ∷ []) held t t))
    (sym (says_in asked [] c.in-Ok.answer.text.items (line ∷ []) c.in-Ok.answer.ending c.args.listener.now
    (answered_opening asked setup line c.in-Ok.answer.text.items c.in-Ok.answer.ending c.args.listener.now options come reads
    (subst (λ (o : FollowOptions). AnswersEvents o [] setup [] c.in-Ok.answer.text.items c.in-Ok.answer.ending) options (c.in-Ok.ensures setup [] come)))))
    (c.write_answer.ensures.said asked (line ∷ []) held [] has none)
