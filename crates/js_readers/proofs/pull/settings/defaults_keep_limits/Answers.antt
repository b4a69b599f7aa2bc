use Rattle.js_readers.proofs.DefaultLimits.{keeps_limits}
use Rattle.js_readers.proofs.pull.settings.defaults_keep_limits.Goals as goal

pub returns : goal.returns
returns c = keeps_limits
