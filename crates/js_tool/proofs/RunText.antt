-- The text of a run as it grows: the opening's, that of each event more, and the end.
use Rattle.std.proofs.Common.{◌≡◌, ℕ, Bool, suc, ◌+◌, List, [], ◌∷◌, ◌++◌, length, flat_map, sym, ap, ◌∙◌, append_assoc, append-nil, length-append, arith}
use Rattle.js_ordered_table.specs.declared.consumer.ReplayInput.{ReplayInput}
use Rattle.js_ordered.specs.declared.incremental_replay.IncrementalReplay.{IncrementalReplay}
use Rattle.js_ordered_table.specs.declared.event.Event.{Event}
use Rattle.js_ordered_table.specs.declared.run.Output.{Output}
use Rattle.js_ordered_table.specs.declared.run.Step.{Step}
use Rattle.js_ordered.specs.IncrementalReplay.{HasCome, last}
use Rattle.js_ordered_table.specs.Fold.{fold, step_of}
use Rattle.js_ordered.proofs.EventByEvent.{no_steps, steps_on, opening_is, steps_count}
use Rattle.js_tool_transcript.specs.Text.{text_so_far, output_text, step_text, steps_text, last_line, run_text}

-- the opening's alone
pub text_first : (g : ReplayInput) (start : ℕ) → text_so_far (fold g start []) ≡ flat_map (output_text 0) (last g start []).outputs
text_first g start =
    ap (λ (steps : List Step). step_text 0 (fold g start []).opening ++ steps_text 1 steps) (no_steps g start)
    ∙ append-nil (step_text 0 (fold g start []).opening)
    ∙ ap (step_text 0) (opening_is g start [])

steps_text_on : (n : ℕ) (steps : List Step) (step : Step) → steps_text n (steps ++ step ∷ []) ≡ steps_text n steps ++ step_text (n + length steps) step
steps_text_on n [] step =
    let at : n ≡ n + 0 = omega arith in
    append-nil (step_text n step) ∙ ap (λ (k : ℕ). step_text k step) at
steps_text_on n (x ∷ steps) step =
    let at : n + 1 + length steps ≡ n + suc (length steps) = omega arith in
    ap (λ (rest : List ℕ). step_text n x ++ rest) (steps_text_on (n + 1) steps step ∙ ap (λ (k : ℕ). steps_text (n + 1) steps ++ step_text k step) at)
    ∙ sym (append_assoc (step_text n x) (steps_text (n + 1) steps) (step_text (n + suc (length steps)) step))

-- so the opening's text is there at first
pub text_opens : (g : ReplayInput) (start number : ℕ) (replay : IncrementalReplay) (outputs : List Output) (text : List ℕ) → HasCome g start [] replay → number ≡ 0 → outputs ≡ replay.outputs → text ≡ flat_map (output_text number) outputs
    → text ≡ text_so_far (fold g start [])
text_opens g start number replay outputs text come first put says =
    says ∙ ap (λ (n : ℕ). flat_map (output_text n) outputs) first ∙ ap (flat_map (output_text 0)) (put ∙ come.outputs) ∙ sym (text_first g start)

-- one event adds the text of its step
pub text_on : (g : ReplayInput) (start : ℕ) (es : List Event) (e : Event)
    → text_so_far (fold g start (es ++ e ∷ [])) ≡ text_so_far (fold g start es) ++ flat_map (output_text (length (es ++ e ∷ []))) (last g start (es ++ e ∷ [])).outputs
text_on g start es e =
    let all : List Event = es ++ e ∷ [] in
    let step : Step = step_of (last g start all) in
    let before : List Step = (fold g start es).steps in
    let opening : (some : List Event) → step_text 0 (fold g start some).opening ≡ step_text 0 (step_of (last g start [])) = λ some. ap (step_text 0) (opening_is g start some) in
    let at : 1 + length before ≡ length all = ap (λ (n : ℕ). 1 + n) (steps_count g start es) ∙ one_more es e in
    ap (λ (text : List ℕ). text ++ steps_text 1 (fold g start all).steps) (opening all ∙ sym (opening es))
    ∙ ap (λ (steps : List Step). step_text 0 (fold g start es).opening ++ steps_text 1 steps) (steps_on g start es e)
    ∙ ap (λ (text : List ℕ). step_text 0 (fold g start es).opening ++ text) (steps_text_on 1 before step ∙ ap (λ (n : ℕ). steps_text 1 before ++ step_text n step) at)
    ∙ sym (append_assoc (step_text 0 (fold g start es).opening) (steps_text 1 before) (step_text (length all) step))
  where
    one_more : (es : List Event) (e : Event) → 1 + length es ≡ length (es ++ e ∷ [])
    one_more es e = sym (simp length-append (omega arith))

-- and the last line makes the run's text of it
pub text_ends : (g : ReplayInput) (start : ℕ) (es : List Event) → run_text (fold g start es) ≡ text_so_far (fold g start es) ++ last_line (fold g start es).ended (length es)
unfolding run_text
text_ends g start es =
    ap (λ (n : ℕ). text_so_far (fold g start es) ++ last_line (fold g start es).ended n) (steps_count g start es)

-- so it is there after one more
pub text_passes : (g : ReplayInput) (start : ℕ) (es : List Event) (e : Event) (before : List ℕ) (number : ℕ) (replay : IncrementalReplay) (outputs : List Output) (text : List ℕ)
    → before ≡ text_so_far (fold g start es) → HasCome g start (es ++ e ∷ []) replay → number ≡ replay.count → outputs ≡ replay.outputs → text ≡ before ++ flat_map (output_text number) outputs
    → text ≡ text_so_far (fold g start (es ++ e ∷ []))
text_passes g start es e before number replay outputs text told come counted put says =
    says
    ∙ ap (λ (front : List ℕ). front ++ flat_map (output_text number) outputs) told
    ∙ ap (λ (n : ℕ). text_so_far (fold g start es) ++ flat_map (output_text n) outputs) (counted ∙ come.count)
    ∙ ap (λ (last : List Output). text_so_far (fold g start es) ++ flat_map (output_text (length (es ++ e ∷ []))) last) (put ∙ come.outputs)
    ∙ sym (text_on g start es e)

-- and so the whole text is there at the end
pub text_done : (g : ReplayInput) (start : ℕ) (es : List Event) (before : List ℕ) (ended : Bool) (number : ℕ) (text : List ℕ) → before ≡ text_so_far (fold g start es) → ended ≡ (fold g start es).ended → number ≡ length es
    → text ≡ before ++ last_line ended number → text ≡ run_text (fold g start es)
text_done g start es before ended number text told ends counted says =
    says
    ∙ ap (λ (front : List ℕ). front ++ last_line ended number) told
    ∙ ap (λ (b : Bool). text_so_far (fold g start es) ++ last_line b number) ends
    ∙ ap (λ (n : ℕ). text_so_far (fold g start es) ++ last_line (fold g start es).ended n) counted
    ∙ sym (text_ends g start es)
