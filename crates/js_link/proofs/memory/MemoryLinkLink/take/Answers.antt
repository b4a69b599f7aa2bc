use Rattle.std.proofs.Common.{arith, ap, sym, ◌∙◌}
use Rattle.std.specs.Prelude.{Some}
use Rattle.std.proofs.lemmas.Option.{slice_get-get_or}
use Rattle.js_link.proofs.Views.{takes_front, finds_empty}
use Rattle.js_link.proofs.memory.MemoryLinkLink.take.Goals as goal

pub returns-in-Some-pop_front : goal.returns-in-Some-pop_front
returns-in-Some-pop_front c = takes_front c.args.self.now c.args.inbox.0 c.in-Some.messages c.pop_front.new.self c.in-Some-pop_front.message (omega arith)
    (slice_get-get_or c.args.self.now.inboxes.items c.args.inbox.0 _ (omega arith) ∙ ap Some (sym c.index_mut.ensures.value ∙ c.in-Some.is))
    c.in-Some-pop_front.ensures.items

pub returns-in-None-pop_front : goal.returns-in-None-pop_front
returns-in-None-pop_front c = finds_empty c.args.self.now c.args.inbox.0 c.in-Some.messages c.pop_front.new.self (omega arith)
    (slice_get-get_or c.args.self.now.inboxes.items c.args.inbox.0 _ (omega arith) ∙ ap Some (sym c.index_mut.ensures.value ∙ c.in-Some.is))
    c.in-None-pop_front.ensures.items c.in-None-pop_front.ensures.rest
