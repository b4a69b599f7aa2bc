use Rattle.std.proofs.Common.{[], Err, ap}
use Rattle.js_tool_follow.proofs.TurnOutcomes.{begun_line, begun_last, begun_none, begun_fails}
use Rattle.js_tool_follow.proofs.conversation.hear_all.Goals as goal

pub returns-in-Err : goal.returns-in-Err
returns-in-Err g c =
    begun_fails c.args.options (g.P.Peer.view c.args.peer.now) (g.P.Peer.view c.next.new.peer) c.args.lines.now.left c.in-Err.status c.requires c.in-Err.ensures.reads c.in-Err.ensures.stops (λ is. c.in-Err.ensures.fault (ap Err is)) (c.in-Err.ensures.heard c.args.options [])

pub returns-in-Line : goal.returns-in-Line
returns-in-Line g c =
    c.begin.ensures (g.P.Peer.view c.args.peer.now)
    (begun_line c.args.options (g.P.Peer.view c.args.peer.now) (g.P.Peer.view c.next.new.peer) c.args.lines.now.left c.next.new.lines.line c.next.new.lines.left c.in-Ok.first c.in-Line.is c.requires c.in-Ok.ensures.reads c.in-Ok.ensures.line (c.in-Ok.ensures.heard c.args.options []))

pub returns-in-Last : goal.returns-in-Last
returns-in-Last g c =
    c.begin-in-Last.ensures (g.P.Peer.view c.args.peer.now)
    (begun_last c.args.options (g.P.Peer.view c.args.peer.now) (g.P.Peer.view c.next.new.peer) c.args.lines.now.left c.next.new.lines.line c.next.new.lines.left c.in-Ok.first c.in-Last.is c.requires c.in-Ok.ensures.reads c.in-Ok.ensures.line (c.in-Ok.ensures.heard c.args.options []))

pub returns-in-End : goal.returns-in-End
returns-in-End g c =
    begun_none c.args.options (g.P.Peer.view c.args.peer.now) (g.P.Peer.view c.next.new.peer) c.args.lines.now.left c.next.new.lines.line c.next.new.lines.left c.in-Ok.first c.in-End.is c.requires c.in-Ok.ensures.reads c.in-Ok.ensures.line (c.in-Ok.ensures.heard c.args.options [])
