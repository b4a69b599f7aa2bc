-- Lists of events, one after another.
use Rattle.std.proofs.Common.{◌≡◌, ℕ, ◌+◌, ◌*◌, List, [], ◌∷◌, ◌++◌, length, map, refl, sym, ap, ◌∙◌, arith, append_assoc}
use Rattle.js_ordered_table.specs.declared.consumer.ReplayInput.{ReplayInput}
use Rattle.js_ordered_table.specs.declared.event.Event as events
use Rattle.js_ordered_table.specs.declared.event.EventKind.{EventKind}
use Rattle.js_ordered_table.specs.declared.run.Output.{Output}
use Rattle.js_ordered_table.specs.declared.replay_state.ReplayState.{ReplayState}
use Rattle.js_ordered_table.specs.Fold.{Ran, stays, and_then, event, run_events, step_of}
use Rattle.js_ordered_table.specs.Gapless.{joined}
use Rattle.js_tool_generate.specs.Transcript.{at_places}

-- what happens from a place on
abbrev pub plays : ReplayInput → ℕ → List EventKind → ReplayState → Ran
plays g place [] w = stays w
plays g place (what ∷ whats) w =
    let ran = event g (record { at = place * 1_000_000; what = what }) w in
    and_then ran.outputs (plays g (place + 1) whats ran.state)

abbrev pub outputs_of : List Ran → List Output
outputs_of rans = joined (map step_of rans)

pub plays_outputs : (g : ReplayInput) (place : ℕ) (whats : List EventKind) (w : ReplayState) → (plays g place whats w).outputs ≡ outputs_of (run_events g (at_places place whats) w)
unfolding run_events
plays_outputs g place [] w = refl
plays_outputs g place (what ∷ whats) w =
    let ran : Ran = event g (record { at = place * 1_000_000; what = what }) w in
    ap (λ (outputs : List Output). ran.outputs ++ outputs) (plays_outputs g (place + 1) whats ran.state)

then_then : (first second : List Output) (ran : Ran) → and_then first (and_then second ran) ≡ and_then (first ++ second) ran
then_then first second ran = ap (λ (outputs : List Output). record { state = ran.state; outputs = outputs }) (sym (append_assoc first second ran.outputs))

pub plays_append : (g : ReplayInput) (place place_then : ℕ) (first second : List EventKind) (w : ReplayState) → place_then ≡ place + length first
    → plays g place (first ++ second) w ≡ and_then (plays g place first w).outputs (plays g place_then second (plays g place first w).state)
plays_append g place place_then [] second w e = ap (λ (p : ℕ). plays g p second w) (omega (arith, e))
plays_append g place place_then (what ∷ first) second w e =
    let ran : Ran = event g (record { at = place * 1_000_000; what = what }) w in
    let rest : Ran = plays g (place + 1) first ran.state in
    ap (λ (r : Ran). and_then ran.outputs r) (plays_append g (place + 1) place_then first second ran.state (omega (arith, e)))
    ∙ then_then ran.outputs rest.outputs (plays g place_then second rest.state)

-- what a front of the events puts out is a front
pub run_front : (g : ReplayInput) (first second : List events.Event) (w : ReplayState)
    → (rest : List Output) × (outputs_of (run_events g (first ++ second) w) ≡ outputs_of (run_events g first w) ++ rest)
unfolding run_events
run_front g [] second w = (outputs_of (run_events g second w), refl)
run_front g (e ∷ first) second w =
    let ran : Ran = event g e w in
    let more = run_front g first second ran.state in
    (more.0, ap (λ (outputs : List Output). ran.outputs ++ outputs) more.1 ∙ sym (append_assoc ran.outputs (outputs_of (run_events g first ran.state)) more.0))
