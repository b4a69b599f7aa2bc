use Rattle.js_ordered_stream.proofs.LeftRows.{answer_stands, arrival_stands}
use Rattle.js_ordered_stream.proofs.task_row.stands.Goals as goal

pub returns-in-Answered : goal.returns-in-Answered
returns-in-Answered c = answer_stands c.args.task.now c.in-Answered.request c.args.seen.now c.answers.result c.in-Answered.is c.answers.ensures

pub returns-in-Hear : goal.returns-in-Hear
returns-in-Hear c = arrival_stands c.args.task.now c.in-Hear.inbox c.args.seen.now c.is_unheard_on.result c.in-Hear.is c.is_unheard_on.ensures
