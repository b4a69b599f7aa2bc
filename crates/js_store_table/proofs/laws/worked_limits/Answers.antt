use Rattle.js_store_table.proofs.BucketLimits.{removes_overtaken, removes_by_age}
use Rattle.js_store_table.proofs.laws.worked_limits.Goals as goal

pub returns-clause-by_history : goal.returns-clause-by_history
returns-clause-by_history c = removes_overtaken

pub returns-clause-by_age : goal.returns-clause-by_age
returns-clause-by_age c = removes_by_age
