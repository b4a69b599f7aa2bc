use Rattle.std.proofs.Common.{rules}
use Rattle.crossbeam_utils.specs.Seq.{cell_view}
use Rattle.js_window.specs.Steps.{Named}
use Rattle.js_window.proofs.Callers.{own_terms, numbered, numbered_later}
use Rattle.js_window.proofs.Rules.{names}
use Rattle.js_window.proofs.Totals.{turns_kept}
use Rattle.js_window.proofs.window.numbered.Goals as goal

pub load_as-requires : goal.load_as-requires
load_as-requires g c = (search rules, (search rules, (c.requires.cell, turns_kept _ _ _ Named (names _ _ _ c.requires.unnumbered))))

pub invariant_of-result : goal.invariant_of-result
invariant_of-result g c = let told = c.load_as.ensures.rule _ c.requires.unnumbered in own_terms _ _ _ told.2

pub returns-clause-new : goal.returns-clause-new
returns-clause-new g c = numbered _ _ (cell_view c.args.seat) _ c.load_as.ensures.cell.0 c.requires.unnumbered c.load_as.ensures.rule

pub returns-clause-later : goal.returns-clause-later
returns-clause-later g c = numbered_later (cell_view c.args.seat) _ c.requires.unnumbered c.load_as.ensures.rule
