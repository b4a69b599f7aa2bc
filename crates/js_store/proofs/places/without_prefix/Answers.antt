use Rattle.js_store.proofs.Trims.{trims}
use Rattle.js_store.proofs.places.without_prefix.Goals as goal

pub returns : goal.returns
returns c = trims c.args.name.now c.trim_start_matches.result.now c.trim_start_matches.ensures.matches
