use Rattle.js_tool_event_log.proofs.FilledMirrors.{relayed_is, relayed_serves}
use Rattle.js_tool_event_log.proofs.relay.relay.Goals as goal

pub returns-in_ok-text-in-Ok-clause-report : goal.returns-in_ok-text-in-Ok-clause-report
returns-in_ok-text-in-Ok-clause-report c =
    relayed_is c.args.stream.now c.args.name.now c.args.setup.now c.args.start c.args.entries c.in-Ok.mirror c.in_ok-text-in-Ok.text.items c.done.result
    c.in-Ok.ensures c.in_ok-text-in-Ok.ensures.text c.done.ensures

pub returns-in_ok-text-in-Ok-clause-serves : goal.returns-in_ok-text-in-Ok-clause-serves
returns-in_ok-text-in-Ok-clause-serves c =
    relayed_serves c.args.stream.now c.args.name.now c.args.setup.now c.args.start c.args.entries c.in-Ok.mirror c.in_ok-text-in-Ok.text.items c.done.result
    c.in-Ok.ensures.0 c.in_ok-text-in-Ok.ensures.reads c.in_ok-text-in-Ok.ensures.replays c.in_ok-text-in-Ok.ensures.honest c.done.ensures
