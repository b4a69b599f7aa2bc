use Rattle.std.proofs.Common.{◌∙◌}
use Rattle.js_ordered.proofs.drive.pass_left.Goals as goal

pub rows-preserved : goal.rows-preserved
rows-preserved c = c.rows.invariant ∙ c.pass_next.ensures.leads
