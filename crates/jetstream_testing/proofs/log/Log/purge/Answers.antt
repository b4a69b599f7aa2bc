use Rattle.std.proofs.Common.{◌||◌, nat_le, not, rules}
use Rattle.std.proofs.lemmas.Fn.{filter_same}
use Rattle.js_base.specs.Subject.{subject_matches}
use Rattle.jetstream_testing.proofs.log.Log.purge.Goals as goal

pub returns : goal.returns
returns c = filter_same _ (λ stored. nat_le c.args.below stored.sequence || not (subject_matches c.args.pattern.now stored.subject)) _ (λ x b f' k. search rules) _ _ c.retain.ensures.filtered
