use Rattle.std.proofs.Common.{None}
use Rattle.js_pull.proofs.RequestBodies.{lacks_memory}
use Rattle.js_readers.proofs.pull.request.body_of.Goals as goal

pub memory_error-requires : goal.memory_error-requires
memory_error-requires c = lacks_memory c.in-Err.error None c.args.config.now c.in-Err.ensures
