-- Step after step: what is said of a replay grows by what is said of each step.
use Rattle.std.proofs.Common.{◌≡◌, ℕ, List, [], ◌∷◌, ◌++◌, Bool, length, refl, sym, ap, ◌∙◌, append_assoc, append-nil}
use Rattle.js_ordered_table.specs.declared.consumer.Consumer.{Consumer}
use Rattle.js_ordered_table.specs.declared.consumer.ReplayInput.{ReplayInput}
use Rattle.js_ordered_table.specs.declared.event.Event.{Event}
use Rattle.js_ordered_table.specs.declared.replay_state.ReplayState.{ReplayState}
use Rattle.js_ordered_table.specs.declared.run.Output.{Output}
use Rattle.js_ordered_table.specs.declared.setup.OrderedSetup.{OrderedSetup}
use Rattle.js_ordered_table.specs.Fold.{Ran, event, fold, last_state, opening, run_events}
use Rattle.js_ordered.specs.IncrementalReplay.{last, last_ran}
use Rattle.js_ordered.proofs.EventByEvent.{run_on}
use Rattle.js_tool_explain.specs.declared.step.Before.{Before}
use Rattle.js_tool_explain.specs.Sentences.{before, causes_text, explained, last_line, opening_lines, opening_text, replay_text, results_text, steps_text, text_so_far}

-- ---- the state after some events

last_of_more : (first : Ran) (rans : List Ran) (ran : Ran) → last_ran first (rans ++ ran ∷ []) ≡ ran
last_of_more first [] ran = refl
last_of_more first (x ∷ rans) ran = last_of_more x rans ran

last_state_is : (first : Ran) (rans : List Ran) → (last_ran first rans).state ≡ last_state first.state rans
last_state_is first [] = refl
last_state_is first (x ∷ rans) = last_state_is x rans

last_is : (g : ReplayInput) (start : ℕ) (es : List Event) → (last g start es).state ≡ last_state (opening g start).state (run_events g es (opening g start).state)
unfolding last
last_is g start es = last_state_is (opening g start) (run_events g es (opening g start).state)

last_on : (g : ReplayInput) (start : ℕ) (es : List Event) (e : Event) → last g start (es ++ e ∷ []) ≡ event g e (last_state (opening g start).state (run_events g es (opening g start).state))
unfolding last
last_on g start es e =
    let first : Ran = opening g start in
    ap (λ (rans : List Ran). last_ran first rans) (run_on g es e first.state)
    ∙ last_of_more first (run_events g es first.state) (event g e (last_state first.state (run_events g es first.state)))

last_first : (g : ReplayInput) (start : ℕ) → last g start [] ≡ opening g start
unfolding last run_events
last_first g start = refl

-- ---- the text

steps_on : (g : ReplayInput) (w : ReplayState) (es : List Event) (e : Event)
    → steps_text g w (es ++ e ∷ []) ≡ steps_text g w es ++ explained g.setup (last_state w (run_events g es w)).consumer e (event g e (last_state w (run_events g es w)))
unfolding run_events
steps_on g w [] e = append-nil (explained g.setup w.consumer e (event g e w))
steps_on g w (x ∷ es) e =
    let ran : Ran = event g x w in
    let here : List ℕ = explained g.setup w.consumer x ran in
    let then : ReplayState = last_state ran.state (run_events g es ran.state) in
    ap (λ (rest : List ℕ). here ++ rest) (steps_on g ran.state es e)
    ∙ sym (append_assoc here (steps_text g ran.state es) (explained g.setup then.consumer e (event g e then)))

-- one event more is explained by the state before it and by what it led to
text_on : (g : ReplayInput) (start : ℕ) (es : List Event) (e : Event)
    → text_so_far g start (es ++ e ∷ []) ≡ text_so_far g start es ++ explained g.setup (last g start es).state.consumer e (last g start (es ++ e ∷ []))
unfolding text_so_far
text_on g start es e =
    let w : ReplayState = (opening g start).state in
    let then : ReplayState = last_state w (run_events g es w) in
    let front : List ℕ = opening_text g start in
    ap (λ (rest : List ℕ). front ++ rest) (steps_on g w es e)
    ∙ sym (append_assoc front (steps_text g w es) (explained g.setup then.consumer e (event g e then)))
    ∙ ap (λ (v : ReplayState). front ++ steps_text g w es ++ explained g.setup v.consumer e (event g e then)) (sym (last_is g start es))
    ∙ ap (λ (ran : Ran). front ++ steps_text g w es ++ explained g.setup (last g start es).state.consumer e ran) (sym (last_on g start es e))

-- so what the code adds in a step is what is said of it
pub text_passes : (g : ReplayInput) (start : ℕ) (es : List Event) (e : Event) (setup : OrderedSetup) (consumer : Consumer) (standing : Before) (w : ReplayState) (outputs : List Output) (old between new : List ℕ)
    → setup ≡ g.setup → consumer ≡ (last g start es).state.consumer → w ≡ (last g start (es ++ e ∷ [])).state → outputs ≡ (last g start (es ++ e ∷ [])).outputs
    → standing ≡ before setup consumer e
    → old ≡ text_so_far g start es → between ≡ old ++ causes_text setup consumer e → new ≡ between ++ results_text e.at standing w outputs
    → new ≡ text_so_far g start (es ++ e ∷ [])
text_passes g start es e setup consumer standing w outputs old between new set_up was is put stood told caused came =
    let step : OrderedSetup → Consumer → ReplayState → List Output → List ℕ = λ s c v o. causes_text s c e ++ results_text e.at (before s c e) v o in
    let after : Ran = last g start (es ++ e ∷ []) in
    came
    ∙ ap (λ (b : Before). between ++ results_text e.at b w outputs) stood
    ∙ ap (λ (text : List ℕ). text ++ results_text e.at (before setup consumer e) w outputs) caused
    ∙ append_assoc old (causes_text setup consumer e) (results_text e.at (before setup consumer e) w outputs)
    ∙ ap (λ (text : List ℕ). text ++ step setup consumer w outputs) told
    ∙ ap (λ (s : OrderedSetup). text_so_far g start es ++ step s consumer w outputs) set_up
    ∙ ap (λ (c : Consumer). text_so_far g start es ++ step g.setup c w outputs) was
    ∙ ap (λ (v : ReplayState). text_so_far g start es ++ step g.setup (last g start es).state.consumer v outputs) is
    ∙ ap (λ (o : List Output). text_so_far g start es ++ step g.setup (last g start es).state.consumer after.state o) put
    ∙ sym (text_on g start es e)

-- and what it adds at the opening is what is said of that
pub text_opens : (g : ReplayInput) (start : ℕ) (w : ReplayState) (outputs : List Output) (text : List ℕ)
    → w ≡ (last g start []).state → outputs ≡ (last g start []).outputs → text ≡ opening_lines start g.setup g.first w outputs
    → text ≡ text_so_far g start []
unfolding text_so_far
text_opens g start w outputs text is put says =
    says
    ∙ ap (λ (v : ReplayState). opening_lines start g.setup g.first v outputs) (is ∙ ap (λ (ran : Ran). ran.state) (last_first g start))
    ∙ ap (λ (o : List Output). opening_lines start g.setup g.first (opening g start).state o) (put ∙ ap (λ (ran : Ran). ran.outputs) (last_first g start))
    ∙ sym (append-nil (opening_text g start))

-- and the last line makes it whole
pub text_done : (g : ReplayInput) (start : ℕ) (es : List Event) (ended : Bool) (number : ℕ) (old new : List ℕ)
    → ended ≡ (fold g start es).ended → number ≡ length es → old ≡ text_so_far g start es → new ≡ old ++ last_line ended number
    → new ≡ replay_text g start es
unfolding replay_text
text_done g start es ended number old new ends counted told says =
    says
    ∙ ap (λ (text : List ℕ). text ++ last_line ended number) told
    ∙ ap (λ (b : Bool). text_so_far g start es ++ last_line b number) ends
    ∙ ap (λ (n : ℕ). text_so_far g start es ++ last_line (fold g start es).ended n) counted
