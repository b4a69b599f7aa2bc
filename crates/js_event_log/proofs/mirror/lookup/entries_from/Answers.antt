use Rattle.std.proofs.Common.{◌≡◌, true, false, ltb, rules}
use Rattle.std.proofs.lemmas.List.Sorted.{IsPartitionPoint-from_clause, IsPartitionedBy-ltb}
use Rattle.std.specs.List.Sorted.{IsPartitionPoint}
use Rattle.js_base.specs.declared.message.Entry.{Entry}
use Rattle.js_event_log.proofs.MirrorLookup.{non_decreasing, past_from}
use Rattle.js_event_log.proofs.mirror.lookup.entries_from.Goals as goal

-- the point parts the entries below the sequence from those at or past it
parts : (c : goal.After-result-1) → IsPartitionPoint (λ (e : Entry). ltb e.sequence c.args.sequence ≡ true) (λ (e : Entry). ltb e.sequence c.args.sequence ≡ false) c.args.entries.now c.partition_point-below.result
parts c =
    let parted = IsPartitionedBy-ltb (λ (e : Entry). e.sequence) c.args.entries.now c.args.sequence (non_decreasing 0 c.args.entries.now c.requires) in
    IsPartitionPoint-from_clause (λ (e : Entry). ltb e.sequence c.args.sequence) _ _ c.partition_point-below.ensures.partitioned parted (λ a r q k. search rules)

pub returns : goal.returns
returns c = past_from c.args.sequence c.args.entries.now c.partition_point-below.result (parts c).0 (parts c).1
