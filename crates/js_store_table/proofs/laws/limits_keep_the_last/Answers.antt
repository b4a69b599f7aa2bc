use Rattle.js_store_table.proofs.BucketLimits.{limits_overtake, limits_keep_last}
use Rattle.js_store_table.proofs.laws.limits_keep_the_last.Goals as goal

pub returns-clause-overtaken : goal.returns-clause-overtaken
returns-clause-overtaken c = λ limits removed log. limits_overtake limits removed log

pub returns-clause-last : goal.returns-clause-last
returns-clause-last c = λ limits removed log. limits_keep_last limits removed log
