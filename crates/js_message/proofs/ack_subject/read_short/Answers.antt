use Rattle.std.proofs.Common.{◌∙◌, arith}
use Rattle.js_base.specs.Subject.{tokens}
use Rattle.js_message.proofs.Cuts.{tokens_counted}
use Rattle.js_message.proofs.Forms.{short_form}
use Rattle.js_message.proofs.ack_subject.read_short.Goals as goal

pub returns : goal.returns
returns c =
    let counted = tokens_counted 0 c.args.text.now in
    c.read_seven.ensures ∙ short_form (tokens c.args.text.now) (omega (arith, counted))
