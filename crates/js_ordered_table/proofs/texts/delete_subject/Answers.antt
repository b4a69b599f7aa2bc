use Rattle.std.proofs.Common.{◌≡◌, ℕ, List, Result, subst}
use Rattle.std.specs.Prelude.{IfOk, codes}
use Rattle.js_base.specs.declared.memory.OutOfMemory.{OutOfMemory}
use Rattle.js_ordered_table.specs.declared.consumer_context.ConsumerContext.{ConsumerContext}
use Rattle.js_base.specs.ApiSubject.{under, consumer_api_subject}
use Rattle.js_ordered_table.proofs.texts.delete_subject.Goals as goal

-- the subject speaks of the name that was lent
of_name : (requests_sent : Result (List ℕ) OutOfMemory) (context : ConsumerContext) (name lent : List ℕ) → lent ≡ name
    → IfOk requests_sent (λ subject. subject ≡ under context.settings.now.api_prefix (consumer_api_subject (codes "CONSUMER.DELETE") context.first.now.stream_name lent))
    → IfOk requests_sent (λ subject. subject ≡ under context.settings.now.api_prefix (consumer_api_subject (codes "CONSUMER.DELETE") context.first.now.stream_name name))
of_name requests_sent context name lent is =
    subst (λ x. IfOk requests_sent (λ subject. subject ≡ under context.settings.now.api_prefix (consumer_api_subject (codes "CONSUMER.DELETE") context.first.now.stream_name x))) is

-- src/texts.rt
pub returns : goal.returns
returns c = of_name c.consumer_subject.result c.args.context.now c.args.recreation.now.old_name c.as_str.result.now c.as_str.ensures c.consumer_subject.ensures
