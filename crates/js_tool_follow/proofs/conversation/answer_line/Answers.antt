use Rattle.std.proofs.Common.{List, ℕ, ◌++◌, ◌∷◌, [], sym, subst}
use Rattle.js_tool_follow.specs.Punctuality.{Holds, TurnsSoFar}
use Rattle.js_tool_follow.specs.Standing.{answered}
use Rattle.js_tool_follow.proofs.ConversationEnds.{has_no_ending, replied, says_in, out_of_memory, stands_stops}
use Rattle.js_tool_follow.proofs.conversation.answer_line.Goals as goal

pub returns-in-Ok-clause-told : goal.returns-in-Ok-clause-told
returns-in-Ok-clause-told g c = λ asked from lines before left stands cut.
    replied asked from (g.P.Peer.view c.args.peer.now) (g.P.Peer.view c.write_answer.new.peer) (lines ++ c.args.line.now ∷ []) left (answered asked lines) c.in-Ok.answer.text.items c.in-Ok.answer.ending c.write_answer.result c.hear.new.self
    stands.gone c.write_answer.ensures.writes cut stands.written (c.in-Ok.ensures.told asked lines stands.told) c.write_answer.ensures.replies

pub returns-in-Err-clause-told : goal.returns-in-Err-clause-told
returns-in-Err-clause-told g c = λ asked from lines before left stands cut.
    out_of_memory asked from (g.P.Peer.view c.args.peer.now) stands.gone (stands_stops asked from (g.P.Peer.view c.args.peer.now) lines before c.args.listener.now stands)

pub returns-in-Ok-clause-said : goal.returns-in-Ok-clause-said
returns-in-Ok-clause-said g c = λ asked lines held told has none.
    let all = lines ++ c.args.line.now ∷ [] in
    subst (λ (t : List ℕ). Holds (g.P.Peer.view c.write_answer.new.peer).turns (TurnsSoFar asked all held t t))
    (sym (says_in asked (answered asked lines) c.in-Ok.answer.text.items all c.in-Ok.answer.ending c.hear.new.self (c.in-Ok.ensures.told asked lines told)))
    (c.write_answer.ensures.said asked all held (answered asked lines) has none)

pub returns-in-Ok-clause-counted : goal.returns-in-Ok-clause-counted
returns-in-Ok-clause-counted g c = λ none.
    c.in-Ok.ensures.counted (has_no_ending (g.P.Peer.view c.args.peer.now) (g.P.Peer.view c.write_answer.new.peer) c.in-Ok.answer.text.items c.in-Ok.answer.ending c.write_answer.result c.write_answer.ensures.replies none)
