-- A replay's event is a walk: each row at the event's moment, met as it asks by what the event brings.
use Rattle.std.proofs.Common.{◌≡◌, ℕ, zero, suc, ◌<◌, List, [], ◌∷◌, ◌++◌, refl, sym, ◌∙◌, ap, subst, arith, append_assoc}
use Rattle.js_ordered_table.specs.declared.replay_state.ReplayState.{ReplayState}
use Rattle.js_ordered_table.specs.Consumer.{Matter, Passed}
use Rattle.js_ordered_table.specs.declared.row.Row.{Row}
use Rattle.js_ordered_table.specs.declared.row.Row.TheVariants.{Event}
use Rattle.js_ordered_table.specs.declared.consumer.ReplayInput.{ReplayInput}
use Rattle.js_ordered_table.specs.Table.{pass}
use Rattle.js_ordered_table.specs.Fold.{Ran, passing, after, rank, pass_each, pass_to}
use Rattle.js_link.specs.Wish.{row_input}
use Rattle.js_ordered_table.specs.Wishes.{wish, matter_of, met_in}
use Rattle.js_ordered_table.specs.Walk.{Position, Stride, Moved, walk, IsTold}
use Rattle.js_ordered_table.specs.declared.run.Output.{Output}
use Rattle.js_ordered_table.proofs.Ranks.{AreBelow, row_falls}
use Rattle.js_ordered_table.proofs.EventMeetings.{pass_told}

-- the strides of rows, each with what follows it
abbrev strides_each : (Row → ReplayState → Ran) → (Row → ReplayState → List Stride) → List Row → ReplayState → List Stride
strides_each one strides [] w = []
strides_each one strides (row ∷ rows) w = strides row w ++ strides_each one strides rows (one row w).state

-- a row meets what the event brings
abbrev met_stride : ReplayInput → ℕ → Matter → Row → ReplayState → Stride
met_stride g now m row w = record {
  passing = row_input now (met_in g (passing g now w) m row w.consumer);
  matter = matter_of (wish g row w.consumer) (met_in g (passing g now w) m row w.consumer);
}

abbrev pub strides_to : ReplayInput → ℕ → Matter → ℕ → Row → ReplayState → List Stride
strides_to g now m zero row w = []
strides_to g now m (suc depth) row w =
    let passed = pass g (passing g now w) m row w.consumer in
    met_stride g now m row w ∷ strides_each (pass_to g now m depth) (strides_to g now m depth) passed.next (after w passed)

abbrev at : ReplayState → List Row → Position
at w rows = record { consumer = w.consumer; todo = rows }

abbrev moved_then : List Output → Moved → Moved
moved_then outputs moved = record { position = moved.position; outputs = outputs ++ moved.outputs }

then_then : (first second : List Output) (moved : Moved) → moved_then first (moved_then second moved) ≡ moved_then (first ++ second) moved
then_then first second moved = ap (λ (outputs : List Output). record { position = moved.position; outputs = outputs }) (sym (append_assoc first second moved.outputs))

-- the strides of a row lead past it and all that follows it
abbrev LeadsPast : ReplayInput → (Row → ReplayState → Ran) → (Row → ReplayState → List Stride) → ℕ → Type 0
LeadsPast g one strides n = (row : Row) (w : ReplayState) (rows : List Row) (more : List Stride) → rank row < n
    → walk g (strides row w ++ more) (at w (row ∷ rows)) ≡ moved_then (one row w).outputs (walk g more (at (one row w).state rows))

walk_each : (g : ReplayInput) (one : Row → ReplayState → Ran) (strides : Row → ReplayState → List Stride) (n : ℕ) → LeadsPast g one strides n
    → (first : List Row) (w : ReplayState) (rows : List Row) (more : List Stride) → AreBelow n first
    → walk g (strides_each one strides first w ++ more) (at w (first ++ rows)) ≡ moved_then (pass_each one first w).outputs (walk g more (at (pass_each one first w).state rows))
walk_each g one strides n leads [] w rows more below = refl
walk_each g one strides n leads (row ∷ first) w rows more below =
    let ran : Ran = one row w in
    let rest : Ran = pass_each one first ran.state in
    ap (λ (all : List Stride). walk g all (at w (row ∷ first ++ rows))) (append_assoc (strides row w) (strides_each one strides first ran.state) more)
    ∙ leads row w (first ++ rows) (strides_each one strides first ran.state ++ more) below.0
    ∙ ap (λ (moved : Moved). moved_then ran.outputs moved) (walk_each g one strides n leads first ran.state rows more below.1)
    ∙ then_then ran.outputs rest.outputs (walk g more (at rest.state rows))

below_more : (n m : ℕ) (rows : List Row) → n < suc m → AreBelow n rows → AreBelow m rows
below_more n m [] less below = tt
below_more n m (row ∷ rows) less below = ((let h = below.0 in omega arith), below_more n m rows less below.1)

pub walk_to : (g : ReplayInput) (now : ℕ) (m : Matter) (depth : ℕ) → LeadsPast g (pass_to g now m depth) (strides_to g now m depth) depth
walk_to g now m zero row w rows more below = absurd (omega arith)
walk_to g now m (suc depth) row w rows more below =
    let passed : Passed = pass g (passing g now w) m row w.consumer in
    let rest : Ran = pass_each (pass_to g now m depth) passed.next (after w passed) in
    ap (λ (one : Passed). moved_then one.outputs (walk g (strides_each (pass_to g now m depth) (strides_to g now m depth) passed.next (after w passed) ++ more)
    (record { consumer = one.consumer; todo = one.next ++ rows }))) (sym (pass_told g (passing g now w) m row w.consumer))
    ∙ ap (λ (moved : Moved). moved_then passed.outputs moved)
    (walk_each g (pass_to g now m depth) (strides_to g now m depth) depth (walk_to g now m depth) passed.next (after w passed) rows more
    (below_more (rank row) depth passed.next below (row_falls g (passing g now w) m row w.consumer.phase w.consumer)))
    ∙ then_then passed.outputs rest.outputs (walk g more (at rest.state rows))

-- ---- and each of its rows meets what the event brings

abbrev ToldPast : ReplayInput → ℕ → Matter → (Row → ReplayState → Ran) → (Row → ReplayState → List Stride) → ℕ → Type 0
ToldPast g now m one strides n = (row : Row) (w : ReplayState) (rows : List Row) (more : List Stride) → rank row < n
    → IsTold g now m more (one row w).state rows → IsTold g now m (strides row w ++ more) w (row ∷ rows)

told_each : (g : ReplayInput) (now : ℕ) (m : Matter) (one : Row → ReplayState → Ran) (strides : Row → ReplayState → List Stride) (n : ℕ) → ToldPast g now m one strides n
    → (first : List Row) (w : ReplayState) (rows : List Row) (more : List Stride) → AreBelow n first
    → IsTold g now m more (pass_each one first w).state rows → IsTold g now m (strides_each one strides first w ++ more) w (first ++ rows)
told_each g now m one strides n past [] w rows more below h = h
told_each g now m one strides n past (row ∷ first) w rows more below h =
    let ran : Ran = one row w in
    subst (λ (all : List Stride). IsTold g now m all w (row ∷ first ++ rows)) (sym (append_assoc (strides row w) (strides_each one strides first ran.state) more))
    (past row w (first ++ rows) (strides_each one strides first ran.state ++ more) below.0 (told_each g now m one strides n past first ran.state rows more below.1 h))

told_to : (g : ReplayInput) (now : ℕ) (m : Matter) (depth : ℕ) → ToldPast g now m (pass_to g now m depth) (strides_to g now m depth) depth
told_to g now m zero row w rows more below h = absurd (omega arith)
told_to g now m (suc depth) row w rows more below h =
    let passed : Passed = pass g (passing g now w) m row w.consumer in
    let rest : List Stride = strides_each (pass_to g now m depth) (strides_to g now m depth) passed.next (after w passed) ++ more in (
      record { passing = refl; matter = refl },
      subst (λ (one : Passed). IsTold g now m rest (after w one) (one.next ++ rows)) (pass_told g (passing g now w) m row w.consumer)
          (told_each g now m (pass_to g now m depth) (strides_to g now m depth) depth (told_to g now m depth) passed.next (after w passed) rows more
          (below_more (rank row) depth passed.next below (row_falls g (passing g now w) m row w.consumer.phase w.consumer)) h),
    )

-- an event of a replay is a walk from its first row until nothing is left to do, with the same outputs; each row meets what the event brings
pub event_walks : (g : ReplayInput) (now : ℕ) (m : Matter) (w : ReplayState) → (strides : List Stride)
    × (walk g strides (at w (Event ∷ [])) ≡ record { position = at (pass_to g now m 10 Event w).state []; outputs = (pass_to g now m 10 Event w).outputs ++ [] })
    × IsTold g now m strides w (Event ∷ [])
event_walks g now m w =
    (strides_to g now m 10 Event w ++ [], walk_to g now m 10 Event w [] [] (omega arith), told_to g now m 10 Event w [] [] (omega arith) tt)
