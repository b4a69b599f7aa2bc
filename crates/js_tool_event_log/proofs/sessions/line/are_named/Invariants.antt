use Rattle.std.proofs.Common.{◌≡◌}
use Rattle.serde_json.specs.View.{members_view}
use Rattle.js_tool_event_log.specs.SessionLine.{members_named}
use Rattle.js_tool_event_log.proofs.sessions.line.are_named.Given as goal

abbrev pub invariant-loop-found : goal.invariant-loop-found
invariant-loop-found l = members_named l.name (members_view l.members.entries)
    ≡ members_named l.name (members_view l.found-iterator)
