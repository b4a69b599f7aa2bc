use Rattle.std.proofs.Common.{◌∙◌, rules}
use Rattle.crossbeam_utils.specs.Seq.{cell_view}
use Rattle.js_window.specs.declared.history.Call.TheVariants.{Full}
use Rattle.js_window.specs.Steps.{Refused}
use Rattle.js_window.proofs.Callers.{same_capacity_known, same_table, watches, makes}
use Rattle.js_window.proofs.Rules.{refuses}
use Rattle.js_window.proofs.Totals.{turns_kept}
use Rattle.js_window.proofs.Tries.{caller_after_look}
use Rattle.js_window.proofs.window.Window.look_to_take.Goals as goal

pub load_as-requires : goal.load_as-requires
load_as-requires g c = (search rules, (search rules, (same_table _ _ _ _ _ (cell_view c.pass.inside.seat) c.pass.view_is c.requires c.self.view_is, turns_kept _ _ _ Refused (refuses _ _ _ _ c.pass.invariant.pass))))

pub invariant_of-pass : goal.invariant_of-pass
invariant_of-pass g c = let told = c.load_as.ensures.rule _ _ c.pass.invariant.pass in caller_after_look _ _ _ (cell_view c.pass.inside.seat) _ told.0 told.1

pub returns-clause-none : goal.returns-clause-none
returns-clause-none g c none = makes _ _ _ _ _ c.pass.view_is c.load_as.ensures.cell.0 Full c.pass.invariant ((c.load_as.ensures.rule _ _ c.pass.invariant.pass).0 none)

pub returns-clause-some : goal.returns-clause-some
returns-clause-some g c some = watches _ _ _ _ _ c.pass.view_is c.load_as.ensures.cell.0 ((c.load_as.ensures.rule _ _ c.pass.invariant.pass).1 some)

pub returns-clause-free : goal.returns-clause-free
returns-clause-free g c = (c.load_as.ensures.rule _ _ c.pass.invariant.pass).2 ∙ same_capacity_known _ _ _ (cell_view c.pass.inside.seat) c.pass.view_is c.requires
