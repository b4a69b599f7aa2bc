use Rattle.std.proofs.Common.{arith, rules}
use Rattle.std.proofs.lemmas.Grind.{common_steps}
use Rattle.js_link_outbox.specs.NewOutbox.{front_of}
use Rattle.js_link_outbox.proofs.Views.{opened}
use Rattle.js_link_outbox.proofs.outbox.OutboxLink.new.Goals as goal

pub returns-clause-opened : goal.returns-clause-opened
returns-clause-opened c = record {
  same_front = first_of (search rules, grind (arith, common_steps));
  items = first_of (search rules, grind (arith, common_steps));
  view = opened c.from-front.result (front_of c.args.inbox_prefix.now c.args.token.now) c.new.result c.new-2.result c.push_back.new.self.items
      (first_of (search rules, grind (arith, common_steps)))
      c.new.ensures.values c.new.ensures.next c.new-2.ensures.values c.new-2.ensures.next
      (first_of (search rules, grind (arith, common_steps)));
}
