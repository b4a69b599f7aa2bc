-- One line more: its events, what is saved, and what the run has yielded.
use Rattle.std.proofs.Common.{◌≡◌, ℕ, suc, ◌≤◌, List, [], ◌∷◌, ◌++◌, Option, Some, None, refl, sym, ap, ◌∙◌, length, take, drop, append_assoc, append-nil, arith}
use Rattle.std.proofs.lemmas.List.{take_all, take-append-le, take-append-drop}
use Rattle.std.specs.Prelude.{IfSome, option_map, unwrap_or}
use Rattle.js_ordered.specs.IncrementalReplay.{last}
use Rattle.js_ordered.proofs.EventByEvent.{steps_on, opening_is, steps_count}
use Rattle.js_ordered_table.specs.declared.consumer.ReplayInput.{ReplayInput}
use Rattle.js_ordered_table.specs.declared.event.Event.{Event}
use Rattle.js_ordered_table.specs.declared.run.Output.{Output}
use Rattle.js_ordered_table.specs.declared.run.Output.TheVariants as out
use Rattle.js_ordered_table.specs.declared.run.Run.{Run}
use Rattle.js_ordered_table.specs.declared.run.Step.{Step}
use Rattle.js_ordered_table.specs.Fold.{fold, step_of}
use Rattle.js_ordered_table.specs.Gapless.{Entry, yields, joined, all_outputs}
use Rattle.js_event_log_sessions.specs.declared.session.Line.{Line}
use Rattle.js_event_log_sessions.specs.declared.session.Line.TheVariants as line
use Rattle.js_event_log_sessions.specs.Bookmark.{events_of, saved, committed_of}

-- ---- lines

events_append : (xs ys : List Line) → events_of (xs ++ ys) ≡ events_of xs ++ events_of ys
events_append [] ys = refl
events_append (line.Event e ∷ xs) ys = ap (λ (es : List Event). e ∷ es) (events_append xs ys)
events_append (line.Save ∷ xs) ys = events_append xs ys

pub events_event : (lines : List Line) (e : Event) → events_of (lines ++ line.Event e ∷ []) ≡ events_of lines ++ e ∷ []
events_event lines e = events_append lines (line.Event e ∷ [])

pub events_save : (lines : List Line) → events_of (lines ++ line.Save ∷ []) ≡ events_of lines
events_save lines = events_append lines (line.Save ∷ []) ∙ append-nil (events_of lines)

-- an event leaves what is saved
pub saved_event : (lines : List Line) (e : Event) → saved (lines ++ line.Event e ∷ []) ≡ saved lines
saved_event [] e = refl
saved_event (line.Event x ∷ lines) e = ap (option_map suc) (saved_event lines e)
saved_event (line.Save ∷ lines) e = ap (λ (n : Option ℕ). Some (unwrap_or n 0)) (saved_event lines e)

-- a save saves all events
pub saved_save : (lines : List Line) → saved (lines ++ line.Save ∷ []) ≡ Some (length (events_of lines))
saved_save [] = refl
saved_save (line.Event x ∷ lines) = ap (option_map suc) (saved_save lines)
saved_save (line.Save ∷ lines) = ap (λ (n : Option ℕ). Some (unwrap_or n 0)) (saved_save lines)

within_event : (n : Option ℕ) (events : ℕ) → IfSome n (λ k. k ≤ events) → IfSome (option_map suc n) (λ k. k ≤ suc events)
within_event None events within = tt
within_event (Some n) events within = omega arith

within_save : (n : Option ℕ) (events : ℕ) → IfSome n (λ k. k ≤ events) → unwrap_or n 0 ≤ events
within_save None events within = omega arith
within_save (Some n) events within = within

-- only events that there are are saved
pub saved_within : (lines : List Line) → IfSome (saved lines) (λ n. n ≤ length (events_of lines))
saved_within [] = tt
saved_within (line.Event x ∷ lines) = within_event (saved lines) (length (events_of lines)) (saved_within lines)
saved_within (line.Save ∷ lines) = within_save (saved lines) (length (events_of lines)) (saved_within lines)

-- ---- yields

pub yields_append : (xs ys : List Output) → yields (xs ++ ys) ≡ yields xs ++ yields ys
yields_append [] ys = refl
yields_append (out.Yield sequence number subject payload ∷ xs) ys =
    let entry : Entry = record { subject = subject; sequence = sequence; payload = payload } in
    ap (λ (entries : List Entry). entry ∷ entries) (yields_append xs ys)
yields_append (out.Item kind ∷ xs) ys = yields_append xs ys
yields_append (out.Recreate recreation_count start ∷ xs) ys = yields_append xs ys
yields_append (out.Request number subject payload ∷ xs) ys = yields_append xs ys
yields_append (out.Publish subject reply payload ∷ xs) ys = yields_append xs ys
yields_append (out.Subscribe inbox subject ∷ xs) ys = yields_append xs ys

joined_append : (xs ys : List Step) → joined (xs ++ ys) ≡ joined xs ++ joined ys
joined_append [] ys = refl
joined_append (x ∷ xs) ys = ap (λ (outputs : List Output). x.outputs ++ outputs) (joined_append xs ys) ∙ sym (append_assoc x.outputs (joined xs) (joined ys))

-- what is committed stands first among all yields
pub committed_first : (n : Option ℕ) (run : Run) → (rest : List Entry) × (yields (all_outputs run) ≡ committed_of n run ++ rest)
committed_first None run = (yields (all_outputs run), refl)
committed_first (Some n) run = (
  yields (joined (drop n run.steps)),
  ap (λ (steps : List Step). yields (run.opening.outputs ++ joined steps)) (sym (take-append-drop n run.steps))
      ∙ ap (λ (outputs : List Output). yields (run.opening.outputs ++ outputs)) (joined_append (take n run.steps) (drop n run.steps))
      ∙ ap yields (sym (append_assoc run.opening.outputs (joined (take n run.steps)) (joined (drop n run.steps))))
      ∙ yields_append (run.opening.outputs ++ joined (take n run.steps)) (joined (drop n run.steps)),
)

-- ---- the run

outputs_grow : (opening : List Output) (steps : List Step) (step : Step) → yields (opening ++ joined (steps ++ step ∷ [])) ≡ yields (opening ++ joined steps) ++ yields step.outputs
outputs_grow opening steps step =
    ap (λ (outputs : List Output). yields (opening ++ outputs)) (joined_append steps (step ∷ []) ∙ ap (λ (outputs : List Output). joined steps ++ outputs) (append-nil step.outputs))
    ∙ ap yields (sym (append_assoc opening (joined steps) step.outputs))
    ∙ yields_append (opening ++ joined steps) step.outputs

same_opening : (g : ReplayInput) (start : ℕ) (es more : List Event) → (fold g start es).opening ≡ (fold g start more).opening
same_opening g start es more = opening_is g start es ∙ sym (opening_is g start more)

-- one event more adds what it has put out
pub yields_grow : (g : ReplayInput) (start : ℕ) (es : List Event) (e : Event)
    → yields (all_outputs (fold g start (es ++ e ∷ []))) ≡ yields (all_outputs (fold g start es)) ++ yields (last g start (es ++ e ∷ [])).outputs
yields_grow g start es e =
    let all : List Event = es ++ e ∷ [] in
    ap (λ (steps : List Step). yields ((fold g start all).opening.outputs ++ joined steps)) (steps_on g start es e)
    ∙ ap (λ (step : Step). yields (step.outputs ++ joined ((fold g start es).steps ++ step_of (last g start all) ∷ []))) (same_opening g start all es)
    ∙ outputs_grow (fold g start es).opening.outputs (fold g start es).steps (step_of (last g start all))

-- and leaves what is committed
pub committed_grow : (n : Option ℕ) (g : ReplayInput) (start : ℕ) (es : List Event) (e : Event) → IfSome n (λ k. k ≤ length es)
    → committed_of n (fold g start (es ++ e ∷ [])) ≡ committed_of n (fold g start es)
committed_grow None g start es e within = refl
committed_grow (Some n) g start es e within =
    let all : List Event = es ++ e ∷ [] in
    let before : List Step = (fold g start es).steps in
    let count : length before ≡ length es = steps_count g start es in
    let inside : n ≤ length before = omega arith in
    ap (λ (steps : List Step). yields ((fold g start all).opening.outputs ++ joined (take n steps))) (steps_on g start es e)
    ∙ ap (λ (step : Step). yields (step.outputs ++ joined (take n (before ++ step_of (last g start all) ∷ [])))) (same_opening g start all es)
    ∙ ap (λ (steps : List Step). yields ((fold g start es).opening.outputs ++ joined steps)) (take-append-le n before (step_of (last g start all) ∷ []) inside)

-- a save commits all yields
pub committed_all : (g : ReplayInput) (start : ℕ) (es : List Event) → committed_of (Some (length es)) (fold g start es) ≡ yields (all_outputs (fold g start es))
committed_all g start es =
    let count : length (fold g start es).steps ≡ length es = steps_count g start es in
    let inside : length (fold g start es).steps ≤ length es = omega arith in
    ap (λ (steps : List Step). yields ((fold g start es).opening.outputs ++ joined steps)) (take_all (length es) (fold g start es).steps inside)
