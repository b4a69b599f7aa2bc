use Rattle.std.proofs.Common.{refl}
use Rattle.js_tool_follow.proofs.ConversationEnds.{says_nothing}
use Rattle.js_tool_follow.proofs.Runs.{run_told}
use Rattle.js_tool_follow.proofs.ValidInput.{valid_told}
use Rattle.js_tool_follow.proofs.conversation.converse_with.Goals as goal

pub returns-in-Err-clause-lines : goal.returns-in-Err-clause-lines
returns-in-Err-clause-lines g c = says_nothing c.args.options (g.P.Peer.view c.args.peer.now) (g.P.Peer.view c.args.peer.now) refl

pub returns-clause-done : goal.returns-clause-done
returns-clause-done g c =
    run_told c.args.options (g.P.Peer.view c.args.peer.now).left (g.P.Peer.view c.args.peer.now).taken (g.P.Peer.view c.hear_all.new.peer).taken c.hear_all.result c.hear_all.ensures.ended.told

pub returns-clause-valid : goal.returns-clause-valid
returns-clause-valid g c =
    valid_told c.args.options (g.P.Peer.view c.args.peer.now).left (g.P.Peer.view c.args.peer.now).taken (g.P.Peer.view c.hear_all.new.peer).taken c.hear_all.result c.hear_all.ensures.ended.told
