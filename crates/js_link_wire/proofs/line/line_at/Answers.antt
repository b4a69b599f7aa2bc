use Rattle.js_link_wire.proofs.Feeds.{line_found, line_short, line_long}
use Rattle.js_link_wire.proofs.line.line_at.Goals as goal

pub returns-in-Some-clause-value : goal.returns-in-Some-clause-value
returns-in-Some-clause-value c = line_found c.args.bytes.now c.min.result c.in-Some.end c.line_limit-limit.result c.line_limit-limit.ensures c.min.ensures c.in-Some.ensures

pub returns-in-None-clause-value : goal.returns-in-None-clause-value
returns-in-None-clause-value c = line_short c.args.bytes.now c.min.result c.line_limit-limit.result c.line_limit-limit.ensures c.min.ensures c.in-None.ensures c.if-bytes-limit.true

pub returns-in-None-2-clause-value : goal.returns-in-None-2-clause-value
returns-in-None-2-clause-value c = line_long c.args.bytes.now c.min.result c.line_limit-limit.result c.line_limit-limit.ensures c.min.ensures c.in-None-2.ensures c.if-bytes-limit.false
