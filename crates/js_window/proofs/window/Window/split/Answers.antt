use Rattle.std.proofs.Common.{rules, sym, ◌∙◌, subst}
use Rattle.crossbeam_utils.specs.Seq.{cell_view}
use Rattle.js_window.specs.declared.rule.View.{View}
use Rattle.js_window.specs.Rule.{number_of, capacity_of, caller_of}
use Rattle.js_window.specs.Steps.{IsCaller}
use Rattle.js_window.proofs.Callers.{same_table, copy_is_unnumbered, splits, splits_later, stays}
use Rattle.js_window.proofs.Seats.{copies}
use Rattle.js_window.proofs.Totals.{forks_kept}
use Rattle.js_window.proofs.window.Window.split.Goals as goal

pub split_pass-seat-requires : goal.split_pass-seat-requires
split_pass-seat-requires g c = (search rules, (search rules, (same_table _ _ _ _ _ (cell_view c.pass.inside.seat) c.pass.view_is c.requires c.self.view_is, forks_kept _ _ _ _ (copies _ _ _ _ c.pass.invariant.pass))))

pub numbered-requires : goal.numbered-requires
numbered-requires g c =
    let given = c.split_pass-seat.ensures.given in
    record {
      cell = given.0 ∙ same_table _ _ _ _ _ (cell_view c.pass.inside.seat) c.pass.view_is c.requires c.self.view_is;
      unnumbered = copy_is_unnumbered (cell_view c.pass.inside.seat) _ given.1 c.pass.invariant;
    }

pub invariant_of-pass : goal.invariant_of-pass
invariant_of-pass g c = subst (λ (v : View). IsCaller (number_of v) (capacity_of v) v) (sym c.split_pass-seat.ensures.kept.1) c.pass.invariant

pub returns-clause-same : goal.returns-clause-same
returns-clause-same g c = (λ i. caller_of (c.split_pass-seat.ensures.kept.0.0 i) (c.split_pass-seat.ensures.kept.1 i)) ∙ c.pass.view_is

pub returns-clause-legal : goal.returns-clause-legal
returns-clause-legal g c = let kept = c.split_pass-seat.ensures.kept in stays _ _ _ (cell_view c.pass.inside.seat) _ c.pass.view_is c.pass.invariant kept.0.0 kept.1

pub returns-clause-new : goal.returns-clause-new
returns-clause-new g c =
    let given = c.split_pass-seat.ensures.given in
    splits _ _ _ _ (cell_view c.pass.inside.seat) _ c.pass.view_is given.0 given.1 c.numbered.ensures.new

pub returns-clause-later : goal.returns-clause-later
returns-clause-later g c = splits_later _ _ (cell_view c.pass.inside.seat) _ _ c.pass.view_is c.split_pass-seat.ensures.given.1 c.pass.invariant c.numbered.ensures.later
