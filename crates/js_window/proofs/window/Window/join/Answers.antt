use Rattle.std.proofs.Common.{rules, sym, ap, ◌∙◌}
use Rattle.crossbeam_utils.specs.Seq.{cell_view}
use Rattle.js_window.specs.declared.rule.View.{View}
use Rattle.js_window.specs.Caller.{held}
use Rattle.js_window.specs.Steps.{Recalled}
use Rattle.js_window.proofs.Callers.{own_terms, same_table, joined_pass, joins}
use Rattle.js_window.proofs.Rules.{recalling}
use Rattle.js_window.proofs.Seats.{cuts_off, takes_in}
use Rattle.js_window.proofs.Totals.{forks_kept, merges_kept, turns_kept}
use Rattle.js_window.proofs.window.Window.join.Goals as goal

pub split_pass-copy-requires : goal.split_pass-copy-requires
split_pass-copy-requires g c =
    let there = same_table _ _ _ _ _ (cell_view c.other.inside.seat) c.other.view_is c.requires.other c.self.view_is in
    (search rules, (search rules, (there, forks_kept _ _ _ _ (cuts_off _ _ _ _ c.other.invariant.pass (ap held c.other.view_is ∙ c.requires.holds_none)))))

pub join_pass-requires : goal.join_pass-requires
join_pass-requires g c =
    let given = c.split_pass-copy.ensures.given in
    let here = same_table _ _ _ _ _ (cell_view c.pass.inside.seat) c.pass.view_is c.requires.window c.self.view_is in
    let there = same_table _ _ _ _ _ (cell_view c.other.inside.seat) c.other.view_is c.requires.other c.self.view_is in
    (search rules, (search rules, ((here, given.0 ∙ there ∙ sym here, given.2), merges_kept _ _ _ _ _ _ (takes_in _ _ _ _ _ _ c.pass.invariant.pass (ap (λ (v : View). v.standing) given.1) (ap (λ (v : View). v.mine) given.1)))))

pub load_as-requires : goal.load_as-requires
load_as-requires g c =
    let here = same_table _ _ _ _ _ (cell_view c.pass.inside.seat) c.pass.view_is c.requires.window c.self.view_is in
    let both = c.join_pass.ensures in
    (search rules, (search rules, (both.0.0 ∙ here, turns_kept _ _ _ Recalled (recalling _ _ _ _ (joined_pass _ _ (cell_view c.pass.inside.seat) (cell_view c.split_pass-copy.result) _ both.1 c.pass.invariant.pass)))))

pub invariant_of-pass : goal.invariant_of-pass
invariant_of-pass g c = own_terms _ _ _ (c.load_as.ensures.rule _ _ (joined_pass _ _ (cell_view c.pass.inside.seat) (cell_view c.split_pass-copy.result) _ c.join_pass.ensures.1 c.pass.invariant.pass)).1

pub returns : goal.returns
returns g c =
    let both = c.join_pass.ensures in
    joins _ _ _ _ _ (cell_view c.pass.inside.seat) (cell_view c.other.inside.seat) _ _ _ c.pass.view_is c.other.view_is c.pass.invariant c.split_pass-copy.ensures.given.1 both.1 (c.load_as.ensures.cell.0 ∙ both.0.0) c.load_as.ensures.rule
