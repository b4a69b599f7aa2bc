-- A row that was passed, and what is left in its place of what was looked at.
use Rattle.std.proofs.Common.{◌≡◌, ℕ, Bool, List, [], ◌∷◌, refl, sym, ap, ◌∙◌, subst}
use Rattle.std.specs.Prelude.{Result, Ok, Err}
use Rattle.js_link.specs.LinkView.{LinkView}
use Rattle.js_ordered_table.specs.declared.transitions.task.Task.{Task}
use Rattle.js_ordered_table.specs.Tasks.{rows_of}
use Rattle.js_ordered_stream.specs.declared.remaining_rows.Seen.{Seen}
use Rattle.js_ordered_stream.specs.declared.remaining_rows.Seen.TheVariants as sight
use Rattle.js_ordered_stream.specs.declared.rows.Stepped.{Stepped}
use Rattle.js_ordered_stream.specs.declared.rows.Stop.{Stop}
use Rattle.js_ordered_stream.specs.declared.rows.Stop.TheVariants as stop
use Rattle.js_ordered_stream.specs.Rows.{IfAlone, PassesRow, PassesRows, Steps, is_something, kept_if, seen_after}
use Rattle.js_ordered_table.specs.declared.consumer.Consumer.{Consumer}
use Rattle.js_ordered_table.specs.declared.consumer.Phase.{Phase}
use Rattle.js_ordered_table.specs.declared.consumer.ReplayInput.{ReplayInput}
use Rattle.js_ordered_table.specs.declared.row.Row.{Row}
use Rattle.js_ordered_table.specs.Consumer.{Matter, at_phase}

-- ---- what is left in its place

-- what lies there after a row that has looked at it
kept_seen : (seen : Seen) → kept_if (is_something seen) seen ≡ seen
kept_seen sight.Nothing = refl
kept_seen (sight.Reply reply) = refl
kept_seen (sight.Message unheard message) = refl

pub seen_kept : (g : ReplayInput) (now : ℕ) (row : Row) (c d : Consumer) (v u : LinkView) (seen : Seen) (done : Stepped)
    → PassesRow g now row c d v u seen (Ok done) → PassesRow g now row c d v u (kept_if done.looked seen) (Ok done)
seen_kept g now row c d v u seen done (met, meets, is_open, steps) =
    subst (λ (s : Seen). PassesRow g now row c d v u s (Ok done)) (sym (ap (λ (b : Bool). kept_if b seen) steps.looked ∙ kept_seen seen)) (met, meets, is_open, steps)

-- ---- any row

-- a row that a task stands for alone
pub row_alone : (g : ReplayInput) (now : ℕ) (one : Row) (c d : Consumer) (v u : LinkView) (seen : Seen) (result : Result Stepped Stop) → PassesRow g now one c d v u seen result → PassesRows g now (one ∷ []) c d v u seen result
row_alone g now one c d v u seen (Ok done) passes = passes
row_alone g now one c d v u seen (Err stop.Closed) passes = passes
row_alone g now one c d v u seen (Err stop.OutOfMemory) passes = passes

-- what an earlier row looked at is let go after a row that looked at nothing
pub passes_blind : (g : ReplayInput) (now : ℕ) (one : Row) (c d : Consumer) (v u : LinkView) (seen : Seen) (result : Result Stepped Stop) → PassesRow g now one c d v u sight.Nothing result
    → PassesRow g now one c d v u (seen_after result seen) result
passes_blind g now one c d v u seen (Ok done) (met, meets, is_open, steps) =
    (met, meets, is_open, subst (λ (b : Bool). Steps g now one met c d (kept_if b seen) done) (sym steps.looked) steps)
passes_blind g now one c d v u seen (Err stop.Closed) passes = passes
passes_blind g now one c d v u seen (Err stop.OutOfMemory) passes = passes

pub blind_alone : (g : ReplayInput) (now : ℕ) (one : Row) (c d : Consumer) (v u : LinkView) (seen : Seen) (result : Result Stepped Stop) → PassesRow g now one c d v u sight.Nothing result
    → PassesRows g now (one ∷ []) c d v u (seen_after result seen) result
blind_alone g now one c d v u seen result passes = row_alone g now one c d v u (seen_after result seen) result (passes_blind g now one c d v u seen result passes)

pub blind_rows : (g : ReplayInput) (now : ℕ) (rows : List Row) (c d : Consumer) (v u : LinkView) (seen : Seen) (result : Result Stepped Stop) → PassesRows g now rows c d v u sight.Nothing result
    → PassesRows g now rows c d v u (seen_after result seen) result
blind_rows g now rows c d v u seen (Ok done) passes = by_rows rows passes
  where
    by_rows : (rows : List Row) → IfAlone rows (λ (one : Row). PassesRow g now one c d v u sight.Nothing (Ok done)) → IfAlone rows (λ (one : Row). PassesRow g now one c d v u (kept_if done.looked seen) (Ok done))
    by_rows [] passes = absurd passes
    by_rows (one ∷ []) passes = passes_blind g now one c d v u seen (Ok done) passes
    by_rows (one ∷ second ∷ rows) passes = absurd passes
blind_rows g now rows c d v u seen (Err stop.Closed) passes = passes
blind_rows g now rows c d v u seen (Err stop.OutOfMemory) passes = passes

-- where the phase is known
pub row_open : (g : ReplayInput) (now : ℕ) (rows : List Row) (phase : Phase) (c d : Consumer) (v u : LinkView) (seen : Seen) (result : Result Stepped Stop) → c.phase ≡ phase
    → PassesRows g now rows (at_phase phase c) d v u seen result → PassesRows g now rows c d v u seen result
row_open g now rows phase c d v u seen result is passes = subst (λ (q : Phase). PassesRows g now rows (at_phase q c) d v u seen result) (sym is) passes

pub row_at_phase : (g : ReplayInput) (now : ℕ) (one : Row) (phase : Phase) (c d : Consumer) (v u : LinkView) (seen : Seen) (result : Result Stepped Stop) → c.phase ≡ phase
    → PassesRow g now one (at_phase phase c) d v u seen result → PassesRow g now one c d v u seen result
row_at_phase g now one phase c d v u seen result is passes = subst (λ (q : Phase). PassesRow g now one (at_phase q c) d v u seen result) (sym is) passes

-- a task that is known
pub rows_known : (g : ReplayInput) (now : ℕ) (m : Matter) (one known : Task) (c d : Consumer) (v u : LinkView) (seen : Seen) (result : Result Stepped Stop) → one ≡ known
    → PassesRows g now (rows_of m known) c d v u seen result → PassesRows g now (rows_of m one) c d v u seen result
rows_known g now m one known c d v u seen result is passes = subst (λ (t : Task). PassesRows g now (rows_of m t) c d v u seen result) (sym is) passes
