use Rattle.std.proofs.Common.{rules}
use Rattle.js_link_outbox.proofs.Numerals.{none_written, reads_small, reads_written}
use Rattle.js_link_outbox.proofs.reply_subjects.read_number.Goals as goal

pub returns-then-not-is_written-clause-value : goal.returns-then-not-is_written-clause-value
returns-then-not-is_written-clause-value c = none_written c.args.text.now (search rules)

pub returns-clause-value : goal.returns-clause-value
returns-clause-value c = reads_written c.args.text.now c.parse.result c.ok.result (search rules) (search rules) (search rules)

pub returns-clause-small : goal.returns-clause-small
returns-clause-small c = reads_small c.args.text.now c.parse.result c.ok.result (search rules) (search rules) (search rules)
