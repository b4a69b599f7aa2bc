use Rattle.std.proofs.Common.{◌≡◌, Ok, rules}
use Rattle.js_tool_transcript.specs.Event.{event_line}
use Rattle.js_tool_transcript.proofs.LinesAgree.{reads_alike}
use Rattle.js_tool_transcript.proofs.transcript.event.event_line_in.Goals as goal

pub returns-in-Some : goal.returns-in-Some
returns-in-Some c =
    let says : event_line c.args.line.now ≡ Ok c.in-Some.event = search rules in
    reads_alike c.args.lines c.args.line.now c.in-Some.event says
