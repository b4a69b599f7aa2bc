use Rattle.std.proofs.Common.{◌≡◌, ◌++◌, map}
use Rattle.js_store.specs.SourceBuckets.{of_bucket}
use Rattle.js_store.proofs.source_buckets.each_of_bucket.Given as goal

abbrev pub invariant-loop-source : goal.invariant-loop-source
invariant-loop-source l = map of_bucket l.fn.sources.items ≡ l.there.items ++ map of_bucket l.source-iterator.rest.items
