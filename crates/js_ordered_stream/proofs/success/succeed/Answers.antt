use Rattle.js_ordered_stream.proofs.success.succeed.Goals as goal

pub returns-in-Push : goal.returns-in-Push
returns-in-Push g c = c.succeed_push.ensures c.args.info.now (g.L.Link.view c.args.link.now)
