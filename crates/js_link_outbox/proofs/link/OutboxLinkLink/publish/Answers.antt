use Rattle.std.proofs.Common.{arith, rules}
use Rattle.std.proofs.lemmas.Grind.{common_steps}
use Rattle.std.specs.Option.{option_copied}
use Rattle.js_link_outbox.proofs.Views.{publishes}
use Rattle.js_link_outbox.proofs.link.OutboxLinkLink.publish.Goals as goal

pub returns-clause-call : goal.returns-clause-call
returns-clause-call c = publishes c.args.self.now c.send.new.self c.args.subject.now (option_copied c.args.reply) (option_copied c.args.headers) c.args.payload.now c.send.ensures.same (first_of (search rules, grind (arith, common_steps)))
