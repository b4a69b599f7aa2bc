use Rattle.std.proofs.Common.{None, subst, sym}
use Rattle.js_link.specs.declared.wish.Met.TheVariants.{Unasked}
use Rattle.js_pull.specs.Rows.{ReadsTo, met_row, row_of}
use Rattle.js_pull.specs.declared.rows.Due.{Due}
use Rattle.js_ordered_stream.proofs.pull_rows.alone.Goals as goal

pub returns-in-Threshold : goal.returns-in-Threshold
returns-in-Threshold c = λ reply.
    subst (λ (d : Due). ReadsTo None None (met_row c.args.now (row_of reply d) Unasked c.args.reader.now) c.pass_threshold.new.self c.pass_threshold.result) (sym c.in-Threshold.is) (c.pass_threshold.ensures Unasked)

pub returns-in-CheckExpiry : goal.returns-in-CheckExpiry
returns-in-CheckExpiry c = λ reply.
    subst (λ (d : Due). ReadsTo None None (met_row c.args.now (row_of reply d) Unasked c.args.reader.now) c.pass_check_expiry.new.self c.pass_check_expiry.result) (sym c.in-CheckExpiry.is) (c.pass_check_expiry.ensures Unasked)

pub returns-in_default : goal.returns-in_default
returns-in_default c = λ reply. c.pass.ensures reply (c.requires reply c.args.reader.now).1
