use Rattle.js_ordered_table.proofs.Honest.{in_order_leaves_no_gap, gap_leaves_no_gap, held_leaves_no_gap, removed_leaves_no_gap, filtered_leaves_no_gap}
use Rattle.js_ordered_table.proofs.worked.worked_runs_leave_no_gap.Goals as goal

pub returns-clause-in_order : goal.returns-clause-in_order
returns-clause-in_order c = in_order_leaves_no_gap

pub returns-clause-gap : goal.returns-clause-gap
returns-clause-gap c = gap_leaves_no_gap

pub returns-clause-held : goal.returns-clause-held
returns-clause-held c = held_leaves_no_gap

pub returns-clause-removed : goal.returns-clause-removed
returns-clause-removed c = removed_leaves_no_gap

pub returns-clause-filtered : goal.returns-clause-filtered
returns-clause-filtered c = filtered_leaves_no_gap
