use Rattle.std.proofs.Common.{◌==◌, not, rules}
use Rattle.std.proofs.lemmas.Fn.{filter_same}
use Rattle.jetstream_testing.proofs.consumer.Consumer.forget.Goals as goal

pub returns : goal.returns
returns c = filter_same _ (λ unacked. not (unacked.sequence == c.args.sequence)) _ (λ x b f' k. search rules) _ _ c.retain.ensures.filtered
