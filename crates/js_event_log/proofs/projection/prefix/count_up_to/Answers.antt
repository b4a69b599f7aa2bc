use Rattle.std.proofs.Common.{◌≡◌, true, false, leb, rules, sym}
use Rattle.std.proofs.lemmas.List.Sorted.{IsPartitionPoint-from_clause, IsPartitionedBy-leb}
use Rattle.std.specs.List.Sorted.{IsPartitionPoint}
use Rattle.js_base.specs.declared.message.Entry.{Entry}
use Rattle.js_event_log.proofs.ProjectionOrder.{non_decreasing, filter_first, filter_rest, not_above, above}
use Rattle.js_event_log.proofs.projection.prefix.count_up_to.Goals as goal

-- the count parts the entries up to the sequence from those above it
parts : (c : goal.After-partition_point) → IsPartitionPoint (λ (e : Entry). leb e.sequence c.args.sequence ≡ true) (λ (e : Entry). leb e.sequence c.args.sequence ≡ false) c.args.entries.now c.partition_point.result
parts c =
    let parted = IsPartitionedBy-leb (λ (e : Entry). e.sequence) c.args.entries.now c.args.sequence (non_decreasing 0 c.args.entries.now c.requires) in
    IsPartitionPoint-from_clause (λ (e : Entry). leb e.sequence c.args.sequence) _ _ c.partition_point.ensures.partitioned parted (λ a r q k. search rules)

pub returns-clause-first : goal.returns-clause-first
returns-clause-first c = sym (filter_first (λ (e : Entry). leb e.sequence c.args.sequence) c.args.entries.now c.partition_point.result (parts c).0 (parts c).1)

pub returns-clause-rest : goal.returns-clause-rest
returns-clause-rest c =
    sym (filter_rest _ c.args.entries.now c.partition_point.result (λ i d a b. not_above _ _ ((parts c).0 i d a b)) (λ i d a b. above _ _ ((parts c).1 i d a b)))
