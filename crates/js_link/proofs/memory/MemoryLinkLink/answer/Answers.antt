use Rattle.std.proofs.Common.{arith, ap, sym, ◌∙◌}
use Rattle.std.specs.Prelude.{Some}
use Rattle.std.proofs.lemmas.Option.{slice_get-get_or}
use Rattle.js_link.proofs.Views.{answers_at}
use Rattle.js_link.proofs.memory.MemoryLinkLink.answer.Goals as goal

pub returns-in-Answered-replace : goal.returns-in-Answered-replace
returns-in-Answered-replace c = answers_at c.args.self.now c.args.request.0 c.replace.new.dest c.in-Answered-replace.message c.replace.ensures.after (omega arith) (omega arith)
    (slice_get-get_or c.args.self.now.requests.items _ _ (omega arith) ∙ ap Some (sym c.index_mut.ensures.value ∙ sym c.replace.ensures.value ∙ c.in-Answered-replace.is))
