-- What a row and the rows that follow it at once come to, step by step.
use Rattle.std.proofs.Common.{◌≡◌, ℕ, zero, suc, ◌+◌, ◌-◌, ◌<◌, List, sym, ap, ◌∙◌, arith, append-nil}
use Rattle.js_ordered_table.specs.Consumer.{Matter, Passed}
use Rattle.js_ordered_table.specs.declared.row.Row.{Row}
use Rattle.js_ordered_table.specs.declared.consumer.ReplayInput.{ReplayInput}
use Rattle.js_ordered_table.specs.declared.replay_state.ReplayState.{ReplayState}
use Rattle.js_ordered_table.specs.Passes.{ran, from}
use Rattle.js_ordered_table.specs.Fold.{Ran, passing, after, stays, and_then, rank, pass_each, pass_to}
use Rattle.js_ordered_table.specs.Table.{pass}
use Rattle.js_ordered_table.specs.declared.run.Output.{Output}
use Rattle.js_ordered_table.proofs.Ranks.{settled, row_falls, each_same}

same_depth : (g : ReplayInput) (now : ℕ) (m : Matter) (depth other : ℕ) (row : Row) (w : ReplayState) → depth ≡ other → pass_to g now m depth row w ≡ pass_to g now m other row w
same_depth g now m depth other row w is = ap (λ (d : ℕ). pass_to g now m d row w) is

deeper : (g : ReplayInput) (now : ℕ) (m : Matter) (more depth : ℕ) (row : Row) (w : ReplayState) → rank row < depth → pass_to g now m depth row w ≡ pass_to g now m (more + depth) row w
deeper g now m zero depth row w below = same_depth g now m depth (zero + depth) row w (omega arith)
deeper g now m (suc more) depth row w below =
    deeper g now m more depth row w below ∙ settled g now m (more + depth) row w (omega arith)
    ∙ same_depth g now m (suc (more + depth)) (suc more + depth) row w (omega arith)

-- at any depth that is enough
at_depth : (g : ReplayInput) (now : ℕ) (m : Matter) (depth : ℕ) (row : Row) (w : ReplayState) → rank row < depth → pass_to g now m depth row w ≡ ran g now m row w
unfolding ran
at_depth g now m depth row w below =
    sym (deeper g now m (depth - suc (rank row)) (suc (rank row)) row w (omega arith)
    ∙ same_depth g now m (depth - suc (rank row) + suc (rank row)) depth row w (omega arith))

-- a row comes to what comes of passing it
pub ran_from : (g : ReplayInput) (now : ℕ) (m : Matter) (row : Row) (w : ReplayState) (passed : Passed) → pass g (passing g now w) m row w.consumer ≡ passed
    → ran g now m row w ≡ from g now m passed w
unfolding ran from
ran_from g now m row w passed is =
    let here : Passed = pass g (passing g now w) m row w.consumer in
    ap (λ (rest : Ran). and_then here.outputs rest)
    (each_same (pass_to g now m (rank row)) (ran g now m) (rank row)
    (λ next w' lower. at_depth g now m (rank row) next w' lower)
    here.next (after w here) (row_falls g (passing g now w) m row w.consumer.phase w.consumer))
    ∙ ap (λ (p : Passed). and_then p.outputs (pass_each (ran g now m) p.next (after w p))) is

-- ---- what comes of a row that was passed

-- nothing comes after it
pub no_more : (r : Ran) → and_then r.outputs (stays r.state) ≡ r
no_more r =
    let with_outputs : List Output → Ran = λ outputs. record { state = r.state; outputs = outputs } in
    ap with_outputs (append-nil r.outputs)
