use Rattle.std.proofs.Common.{◌∙◌, rules}
use Rattle.crossbeam_utils.specs.Seq.{cell_view}
use Rattle.js_window.specs.Steps.{Looked}
use Rattle.js_window.proofs.Callers.{own_terms, same_table, same_capacity_known, watches}
use Rattle.js_window.proofs.Rules.{looks}
use Rattle.js_window.proofs.Totals.{turns_kept}
use Rattle.js_window.proofs.window.Window.look_to_give.Goals as goal

pub load_as-requires : goal.load_as-requires
load_as-requires g c = (search rules, (search rules, (same_table _ _ _ _ _ (cell_view c.pass.inside.seat) c.pass.view_is c.requires c.self.view_is, turns_kept _ _ _ Looked (looks _ _ _ _ c.pass.invariant.pass))))

pub invariant_of-pass : goal.invariant_of-pass
invariant_of-pass g c = own_terms _ _ _ (c.load_as.ensures.rule _ _ c.pass.invariant.pass).0.caller

pub returns-clause-look : goal.returns-clause-look
returns-clause-look g c = watches _ _ _ _ _ c.pass.view_is c.load_as.ensures.cell.0 (c.load_as.ensures.rule _ _ c.pass.invariant.pass).0

pub returns-clause-free : goal.returns-clause-free
returns-clause-free g c = (c.load_as.ensures.rule _ _ c.pass.invariant.pass).1 ∙ same_capacity_known _ _ _ (cell_view c.pass.inside.seat) c.pass.view_is c.requires
