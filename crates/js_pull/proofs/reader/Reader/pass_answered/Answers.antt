use Rattle.std.proofs.Common.{sym, ◌∙◌}
use Rattle.js_link.specs.Wish.{message_of, reply_met}
use Rattle.js_pull.specs.Reader.{info_reply}
use Rattle.js_pull.proofs.InfoReplies.{gone_answered}
use Rattle.js_pull.proofs.reader.Reader.pass_answered.Goals as goal

pub returns-in-Gone : goal.returns-in-Gone
returns-in-Gone c = λ reply met is.
    gone_answered c.args.failures (info_reply reply) c.args.self.now c.pass_gone.new.self (reply_met met) (message_of met) c.pass_gone.result (sym c.in-Gone.is ∙ is) (c.pass_gone.ensures met)
