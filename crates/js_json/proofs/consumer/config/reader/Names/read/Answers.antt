use Rattle.std.proofs.Common.{◌≡◌, rules}
use Rattle.std.specs.Prelude.{Err}
use Rattle.js_json_members.proofs.Gathered.{gathered_5}
use Rattle.js_json.specs.ConsumerConfig.{names}
use Rattle.js_json.proofs.consumer.config.reader.Names.read.Goals as goal

pub returns-in_err-deliver_subject : goal.returns-in_err-deliver_subject
unfolding names
returns-in_err-deliver_subject c =
    let is : c.from_residual.result ≡ Err c.in_err-deliver_subject.field-0.0 = search rules in
    rw (is) (gathered_5 _ _ _ _ _ _ _ _ _ _ _ c.in_err-deliver_subject.ensures.first c.optional.ensures c.optional-2.ensures c.optional-3.ensures c.optional-4.ensures c.optional-5.ensures _)
