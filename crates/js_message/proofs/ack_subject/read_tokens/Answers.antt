use Rattle.std.proofs.Common.{◌+◌, arith}
use Rattle.js_base.specs.Subject.{tokens}
use Rattle.js_message.proofs.Cuts.{tokens_counted}
use Rattle.js_message.proofs.Forms.{other_form}
use Rattle.js_message.proofs.ack_subject.read_tokens.Goals as goal

pub returns-in_default-2 : goal.returns-in_default-2
returns-in_default-2 c =
    let text = c.args.text.now in
    let counted = tokens_counted 0 text in
    let dots = c.of-dots.ensures.counted in
    other_form (tokens text) (c.count.result + 1) (omega (arith, counted, dots)) (λ e. omega arith) (omega arith)
