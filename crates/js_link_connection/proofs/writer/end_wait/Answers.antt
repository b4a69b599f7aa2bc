use Rattle.std.proofs.Common.{◌==◌, not, rules}
use Rattle.std.proofs.lemmas.Fn.{filter_same}
use Rattle.js_link_connection.proofs.writer.end_wait.Goals as goal

pub returns : goal.returns
returns c = filter_same _ (λ number. not (number == c.args.request)) _ (λ x b f' k. search rules) _ _ c.retain.ensures.filtered
