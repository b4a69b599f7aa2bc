use Rattle.js_store_table.proofs.BucketLimits.{limits_overtake}
use Rattle.js_store_table.proofs.HonestBucket.{logs_rows}
use Rattle.js_store_table.proofs.laws.rows_are_those_of_the_log.Goals as goal

pub returns-clause-rows : goal.returns-clause-rows
returns-clause-rows c = λ s setup yields history rows told. logs_rows s setup yields history rows told

pub returns-clause-by_limits : goal.returns-clause-by_limits
returns-clause-by_limits c = λ s setup yields limits rows told prefix start log whole configured bucket tells keeps within is.
    logs_rows s setup yields limits.messages_per_subject rows told prefix start log whole configured bucket tells (limits_overtake limits s.removed log keeps within) is
