use Rattle.jetstream_event_log.proofs.KeptBuckets as buckets
use Rattle.jetstream_event_log.specs.BucketLimits.{bucket_limits}
use Rattle.jetstream_event_log.proofs.bucket_limits.buckets_keep_the_last.Goals as goal

pub returns-clause-kept : goal.returns-clause-kept
returns-clause-kept c = buckets.kept

pub returns-clause-only : goal.returns-clause-only
returns-clause-only c = buckets.only

pub returns-clause-history : goal.returns-clause-history
returns-clause-history c = buckets.history

pub returns-clause-overtaken : goal.returns-clause-overtaken
returns-clause-overtaken c = λ config removed log nothing within.
    c.limits_keep_the_last.ensures.overtaken (bucket_limits config) removed log (buckets.kept config nothing) within

pub returns-clause-last : goal.returns-clause-last
returns-clause-last c = λ config removed log nothing within.
    c.limits_keep_the_last.ensures.last (bucket_limits config) removed log (buckets.kept config nothing) within

pub returns-clause-rows : goal.returns-clause-rows
returns-clause-rows c = λ s setup yields config rows told prefix start log nothing whole configured bucket tells within is.
    c.rows_are_those_of_the_log.ensures.by_limits s setup yields (bucket_limits config) rows told prefix start log whole configured bucket tells (buckets.kept config nothing) within is
