use Rattle.js_store_table.proofs.IdleTables.{table_idles, table_reads}
use Rattle.js_store_table.proofs.table.Table.read.Goals as goal

pub returns-clause-reads : goal.returns-clause-reads
returns-clause-reads g c =
    let view = g.L.Link.view in
    table_reads g.R.Subscription.polls c.args.now c.args.self.now c.tell_answer.new.self c.poll_next-answer.new.self (view c.args.link.now) (view c.poll_next-answer.new.link) c.poll_next-answer.result c.tell_answer.result
    c.poll_next-answer.ensures.polls c.tell_answer.ensures.reader c.tell_answer.ensures.tells

pub returns-clause-idles : goal.returns-clause-idles
returns-clause-idles g c =
    let below = g.R.Subscription in
    let view = g.L.Link.view in
    table_idles below.due below.quiet c.args.now c.args.self.now c.tell_answer.new.self c.poll_next-answer.new.self (view c.args.link.now) (view c.poll_next-answer.new.link) c.poll_next-answer.result c.tell_answer.result
    c.requires c.poll_next-answer.ensures.idles c.tell_answer.ensures.reader c.tell_answer.ensures.tells
