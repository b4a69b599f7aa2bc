use Rattle.std.proofs.Common.{rules, refl}
use Rattle.crossbeam_utils.specs.Seq.{cell_view}
use Rattle.js_window.specs.declared.history.Call.TheVariants.{Give}
use Rattle.js_window.specs.Steps.{Given}
use Rattle.js_window.proofs.Callers.{same_table, held_one}
use Rattle.js_window.proofs.Rules.{gives}
use Rattle.js_window.proofs.Totals.{turns_kept}
use Rattle.js_window.proofs.Tries.{gave, caller_after, try_tells}
use Rattle.js_window.proofs.window.Window.try_give.Goals as goal

pub compare_exchange_as-requires : goal.compare_exchange_as-requires
compare_exchange_as-requires g c = (search rules, (search rules, (same_table _ _ _ _ _ (cell_view c.pass.inside.seat) c.pass.view_is c.requires.window c.self.view_is, turns_kept _ _ _ Given (gives _ _ _ _ _ _ c.pass.invariant.pass (held_one _ _ (cell_view c.pass.inside.seat) c.pass.view_is c.requires.holds) refl refl))))

pub invariant_of-pass : goal.invariant_of-pass
invariant_of-pass g c = caller_after _ _ _ Give _ _ (gave c.args.free _ _ _ _ _ _ c.pass.invariant.pass c.compare_exchange_as.ensures.rule _ c.is_ok.ensures.value)

pub returns : goal.returns
returns g c = try_tells _ Give _ _ _ _ _ c.pass.view_is c.compare_exchange_as.ensures.cell.0 c.pass.invariant (gave c.args.free _ _ _ _ _ _ c.pass.invariant.pass c.compare_exchange_as.ensures.rule _ c.is_ok.ensures.value)
