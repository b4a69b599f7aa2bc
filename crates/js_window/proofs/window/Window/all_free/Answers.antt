use Rattle.std.proofs.Common.{rules}
use Rattle.crossbeam_utils.specs.Seq.{cell_view}
use Rattle.js_window.specs.Steps.{AllFreeAsked}
use Rattle.js_window.proofs.Callers.{own_terms, same_table, makes}
use Rattle.js_window.proofs.Rules.{asks_all_free}
use Rattle.js_window.proofs.Totals.{turns_kept}
use Rattle.js_window.proofs.window.Window.all_free.Goals as goal

pub load_as-found-requires : goal.load_as-found-requires
load_as-found-requires g c = (search rules, (search rules, (same_table _ _ _ _ _ (cell_view c.pass.inside.seat) c.pass.view_is c.requires c.self.view_is, turns_kept _ _ _ AllFreeAsked (asks_all_free _ _ _ _ c.pass.invariant.pass))))

pub invariant_of-pass : goal.invariant_of-pass
invariant_of-pass g c = own_terms _ _ _ (c.load_as-found.ensures.rule _ _ c.pass.invariant.pass).caller

pub returns : goal.returns
returns g c = makes _ _ _ _ _ c.pass.view_is c.load_as-found.ensures.cell.0 _ c.pass.invariant (c.load_as-found.ensures.rule _ _ c.pass.invariant.pass)
