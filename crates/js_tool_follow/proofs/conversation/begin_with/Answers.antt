use Rattle.std.proofs.Common.{rules}
use Rattle.js_tool_follow.proofs.ConversationEnds.{begun_stops, begun_unread}
use Rattle.js_tool_follow.proofs.conversation.begin_with.Goals as goal

pub returns-in-Ok : goal.returns-in-Ok
returns-in-Ok g c = λ from line reads begun.
    let read = rw c.in-Ok.is at reads in
    c.open.ensures from line read begun

pub returns-in-Err-BadLine : goal.returns-in-Err-BadLine
returns-in-Err-BadLine g c = λ from line reads begun.
    begun_unread c.args.options from (g.P.Peer.view c.args.peer.now) c.args.more line c.args.lines.now.left _ begun (search rules)

pub returns-in-Err-OutOfMemory : goal.returns-in-Err-OutOfMemory
returns-in-Err-OutOfMemory g c = λ from line reads begun. begun_stops c.args.options from (g.P.Peer.view c.args.peer.now) c.args.more line c.args.lines.now.left begun
