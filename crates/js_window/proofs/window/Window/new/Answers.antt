use Rattle.std.proofs.Common.{◌∷◌, [], rules, sym, ap, ◌∙◌, subst}
use Rattle.crossbeam_utils.specs.Register.{Turns}
use Rattle.crossbeam_utils.specs.Seq.{cell_view}
use Rattle.js_window.specs.declared.rule.View.{View}
use Rattle.js_window.specs.Rule.{IsKept}
use Rattle.js_window.specs.Steps.{Opened}
use Rattle.js_window.proofs.Callers.{opened_is_unnumbered, of_new_window}
use Rattle.js_window.proofs.Rules.{begins, opens}
use Rattle.js_window.proofs.Totals.{kept, turns_kept}
use Rattle.js_window.proofs.window.Window.new.Goals as goal

pub ruled-requires : goal.ruled-requires
ruled-requires g c = (search rules, (search rules, kept _ _ begins))

pub swap_as-requires : goal.swap_as-requires
swap_as-requires g c =
    let made = c.in_ok-cell.ensures in
    (search rules, (search rules, (made.0, subst (λ (v : View). Turns IsKept c.in_ok-cell.seat.id v (λ _. c.args.capacity ∷ c.args.capacity ∷ []) Opened) (sym made.1) (turns_kept _ _ _ Opened (opens _ _ c.requires.least)))))

pub numbered-pass-requires : goal.numbered-pass-requires
numbered-pass-requires g c =
    let made = c.in_ok-cell.ensures in
    let told = c.swap_as.ensures in
    record {
      cell = told.cell.0 ∙ made.0;
      unnumbered = opened_is_unnumbered c.args.capacity _ _ made.1 told.rule;
    }

pub returns-clause-own : goal.returns-clause-own
returns-clause-own g c =
    of_new_window c.numbered-pass.result c.in_ok-cell.cell.table.shared.table_id c.swap_as.new.pass.table_id c.args.capacity (cell_view c.in_ok-cell.seat) (cell_view c.swap_as.new.pass) (c.swap_as.ensures.cell.0 ∙ c.in_ok-cell.ensures.0) c.swap_as.ensures.rule c.numbered-pass.ensures.new

pub returns-clause-seen : goal.returns-clause-seen
returns-clause-seen g c = c.numbered-pass.ensures.new.seen ∙ ap (λ (v : View). v.seen) c.swap_as.ensures.rule ∙ ap (λ (v : View). v.seen) c.in_ok-cell.ensures.1
