use Rattle.std.proofs.Common.{None, Some, subst, ap, ◌∙◌}
use Rattle.js_pull.specs.Kind.{pull_kind}
use Rattle.js_pull.specs.Reader as rows
use Rattle.js_pull.specs.Rows.{ReadsTo}
use Rattle.js_pull.specs.declared.reader.Reader.{Reader}
use Rattle.js_pull.proofs.reader.Reader.hear_arrival.Goals as goal

pub returns : goal.returns
returns c =
    let message = c.args.message.now in
    subst (λ (r : Reader). ReadsTo None (Some message) (rows.hear message (pull_kind message) r) c.hear.new.self c.hear.result)
    (c.keep_pin.ensures ∙ ap (rows.with_pin message) c.arm_silence.ensures) (c.hear.ensures None)
