-- Where a recorder stands after an act, and after all acts of a poll.
use Rattle.std.proofs.Common.{◌≡◌, ℕ, ◌+◌, ◌<◌, ◌∙◌, List, [], ◌∷◌, ◌++◌, drop, Option, Some, None, refl, sym, ap, subst, append_assoc, append-nil}
use Rattle.std.specs.Prelude.{OnSome, slice_get, Result, Ok, Err, ⊤}
use Rattle.std.proofs.lemmas.List.{drop_more}
use Rattle.std.proofs.lemmas.Option.{slice_get_within, get_or_from_slice_get}
use Rattle.js_base.specs.declared.turn.Next.{Next}
use Rattle.js_base.specs.declared.turn.Next.TheVariants as next
use Rattle.js_base.specs.declared.message.Message.{Message}
use Rattle.js_base.specs.declared.error.Error.{Error}
use Rattle.js_ordered.proofs.EventByEvent.{no_steps, opening_is, steps_on, within_first}
use Rattle.js_ordered.specs.IncrementalReplay.{HasCome, IsWithin, last}
use Rattle.js_ordered.specs.declared.incremental_replay.IncrementalReplay.{IncrementalReplay}
use Rattle.js_ordered_stream.specs.declared.error.OrderedErrorKind.{OrderedErrorKind}
use Rattle.js_ordered_table.specs.Fold.{fold, step_of}
use Rattle.js_ordered_table.specs.Gapless.{all_outputs, joined}
use Rattle.js_ordered_table.specs.declared.consumer.ReplayInput.{ReplayInput}
use Rattle.js_ordered_table.specs.declared.event.Event.{Event}
use Rattle.js_ordered_table.specs.declared.run.Output.{Output}
use Rattle.js_ordered_table.specs.declared.run.Output.TheVariants as out
use Rattle.js_ordered_table.specs.declared.run.Step.{Step}
use Rattle.js_ordered_recorder.specs.Acts.{Act, Does, DoesAll, PassesEvent, Stops, StopsWithin, Takes, TakesOne, Passes, Works, WorksOff, World, Writes, WritesDown, events_of, left_of, outputs_of, queue}
use Rattle.js_ordered_recorder.specs.Recorder.{Answers, EndsAs, Goes, HandsError, HandsMessage, HandsOver, IsAt, Stands, half_passed}
use Rattle.js_ordered_recorder.specs.declared.recorder.Recorder.{Recorder}
use Rattle.js_ordered_recorder.specs.declared.link_event.Taken.{Taken}

-- ---- what a fold puts out

joined_on : (steps : List Step) (step : Step) → joined (steps ++ step ∷ []) ≡ joined steps ++ step.outputs
joined_on [] step = append-nil step.outputs
joined_on (first ∷ steps) step = ap (λ (more : List Output). first.outputs ++ more) (joined_on steps step) ∙ sym (append_assoc first.outputs (joined steps) step.outputs)

-- an event puts out what its turn does, behind the rest
pub outputs_on : (g : ReplayInput) (start : ℕ) (es : List Event) (e : Event) → all_outputs (fold g start (es ++ e ∷ [])) ≡ all_outputs (fold g start es) ++ (last g start (es ++ e ∷ [])).outputs
outputs_on g start es e =
    let turn : Step = step_of (last g start (es ++ e ∷ [])) in
    ap (λ (steps : List Step). (fold g start (es ++ e ∷ [])).opening.outputs ++ joined steps) (steps_on g start es e)
    ∙ ap (λ (opening : Step). opening.outputs ++ joined ((fold g start es).steps ++ turn ∷ [])) (opening_is g start (es ++ e ∷ []) ∙ sym (opening_is g start es))
    ∙ ap (λ (more : List Output). (fold g start es).opening.outputs ++ more) (joined_on (fold g start es).steps turn)
    ∙ sym (append_assoc (fold g start es).opening.outputs (joined (fold g start es).steps) turn.outputs)

-- the first of what is left
pub drop_first : (os : List Output) (n : ℕ) (o : Output) → slice_get os n ≡ Some o → drop n os ≡ o ∷ drop (n + 1) os
drop_first os n o here = drop_more os n o (slice_get_within os n o here) ∙ ap (λ (x : Output). x ∷ drop (n + 1) os) (get_or_from_slice_get os n o o here)

-- ---- optional values

where_some : (P : Type 0) (o : Option Taken) (x : Taken) → o ≡ Some x → OnSome o P → P
where_some P o x is holds = let C : Option Taken → Type 0 = λ v. OnSome v P in subst C is holds

where_none : (P : Type 0) (o : Option Taken) → o ≡ None → OnSome o P
where_none P o is = let C : Option Taken → Type 0 = λ v. OnSome v P in subst C (sym is) tt

where_ever : (P : Type 0) (o : Option Taken) → P → OnSome o P
where_ever P None holds = tt
where_ever P (Some x) holds = holds

pub some_none : {P : Type 0} (e : Event) → Some e ≡ None → P
some_none e same = cc

-- where an event is half passed nothing is taken
apart : (taken : Option Taken) (event : Option Event) (e : Event) → event ≡ Some e → OnSome taken (event ≡ None) → taken ≡ None
apart None event e is none = refl
apart (Some one) event e is none = some_none e (sym is ∙ none)

-- ---- one act

takes_come : (g : ReplayInput) (start now : ℕ) (es : List Event) (done : List Output) (one : Taken) (a b : World) → TakesOne now one a b → IsAt g start es done a.recorder → IsAt g start es done b.recorder
takes_come g start now es done one a b step at =
    let P : Recorder → Type 0 = λ r. IsAt g start es done r in
    subst P (sym step.kept) (record { passed = at.passed; written = at.written; stands = at.stands; outputs = at.outputs; brought = step.rests.event; empty = step.empty })

writes_come : (g : ReplayInput) (start now : ℕ) (es : List Event) (done : List Output) (e : Event) (a b : World) → WritesDown now e a b → IsAt g start es done a.recorder → IsAt g start (es ++ e ∷ []) done b.recorder
writes_come g start now es done e a b step at =
    let P : Recorder → Type 0 = λ r. IsAt g start (es ++ e ∷ []) done r in
    let none : a.recorder.event ≡ None = where_some (a.recorder.event ≡ None) a.recorder.taken step.one step.brought at.brought in
    let empty : queue a.recorder ≡ [] = where_some (queue a.recorder ≡ []) a.recorder.taken step.one step.brought at.empty in
    let S : Option Event → Type 0 = λ v. Stands g start at.passed v a.recorder.replay.value in
    subst P (sym step.kept) (record {
      passed = at.passed;
      written = ap (λ (front : List Event). front ++ e ∷ []) (at.written ∙ ap (λ (v : Option Event). at.passed ++ half_passed v) none ∙ append-nil at.passed);
      stands = within_first g start at.passed e a.recorder.replay.value (subst S none at.stands);
      outputs = at.outputs ∙ ap (λ (left : List Output). done ++ left) empty;
      brought = tt;
      empty = tt;
    })

passes_come : (g : ReplayInput) (start : ℕ) (es : List Event) (done : List Output) (a b : World) → PassesEvent a b → IsAt g start es done a.recorder → IsAt g start es done b.recorder
passes_come g start es done a b step at =
    let P : Recorder → Type 0 = λ r. IsAt g start es done r in
    let S : Option Event → Type 0 = λ v. Stands g start at.passed v a.recorder.replay.value in
    let e : Event = step.event in
    let gone : Option Event = None in
    let come : HasCome g start (at.passed ++ e ∷ []) b.recorder.replay.value = step.passed g start at.passed (subst S step.is at.stands) in
    subst P (sym step.kept) (record {
      passed = at.passed ++ e ∷ [];
      written = at.written ∙ ap (λ (v : Option Event). at.passed ++ half_passed v) step.is ∙ sym (append-nil (at.passed ++ e ∷ []));
      stands = come;
      outputs =
          outputs_on g start at.passed e
          ∙ ap (λ (front : List Output). front ++ (last g start (at.passed ++ e ∷ [])).outputs)
          (at.outputs ∙ ap (λ (v : Option Event). done ++ left_of v a.recorder.worked a.recorder.replay.value.outputs) step.is ∙ append-nil done)
          ∙ ap (λ (left : List Output). done ++ left) (sym come.outputs);
      brought = where_ever (gone ≡ None) a.recorder.taken refl;
      empty = where_none (drop 0 b.recorder.replay.value.outputs ≡ []) a.recorder.taken (apart a.recorder.taken a.recorder.event e step.is at.brought);
    })

stops_come : (g : ReplayInput) (start : ℕ) (es : List Event) (done : List Output) (a b : World) → StopsWithin a b → IsAt g start es done a.recorder → IsAt g start es done b.recorder
stops_come g start es done a b step at =
    let P : Recorder → Type 0 = λ r. IsAt g start es done r in
    let S : Option Event → Type 0 = λ v. Stands g start at.passed v a.recorder.replay.value in
    let T : Option Event → Type 0 = λ v. Stands g start at.passed v b.recorder.replay.value in
    let none : left_of a.recorder.event a.recorder.worked b.recorder.replay.value.outputs ≡ [] = ap (λ (v : Option Event). left_of v a.recorder.worked b.recorder.replay.value.outputs) step.is in
    subst P (sym step.kept) (record {
      passed = at.passed;
      written = at.written;
      stands = subst T (sym step.is) (step.stays g start at.passed (subst S step.is at.stands));
      outputs =
          at.outputs ∙ ap (λ (v : Option Event). done ++ left_of v a.recorder.worked a.recorder.replay.value.outputs) step.is
          ∙ ap (λ (left : List Output). done ++ left) (sym none);
      brought = at.brought;
      empty = where_ever (left_of a.recorder.event a.recorder.worked b.recorder.replay.value.outputs ≡ []) a.recorder.taken none;
    })

works_come : (g : ReplayInput) (start : ℕ) (es : List Event) (done : List Output) (o : Output) (a b : World) → WorksOff o a b → IsAt g start es done a.recorder → IsAt g start es (done ++ o ∷ []) b.recorder
works_come g start es done o a b step at =
    let P : Recorder → Type 0 = λ r. IsAt g start es (done ++ o ∷ []) r in
    let r : Recorder = a.recorder in
    let os : List Output = r.replay.value.outputs in
    let rest : List Output = left_of r.event (r.worked + 1) os in
    let first : queue r ≡ o ∷ rest =
    ap (λ (v : Option Event). left_of v r.worked os) step.rests.event ∙ drop_first os r.worked o step.first
    ∙ ap (λ (v : Option Event). o ∷ left_of v (r.worked + 1) os) (sym step.rests.event) in
    subst P (sym step.kept) (record {
      passed = at.passed;
      written = at.written;
      stands = at.stands;
      outputs = at.outputs ∙ ap (λ (left : List Output). done ++ left) first ∙ sym (append_assoc done (o ∷ []) rest);
      brought = at.brought;
      empty = where_none (rest ≡ []) r.taken step.rests.taken;
    })

-- ---- acts in order

pub at_same : (g : ReplayInput) (start : ℕ) (es fs : List Event) (done more : List Output) (r : Recorder) → es ≡ fs → done ≡ more → IsAt g start es done r → IsAt g start fs more r
at_same g start es fs done more r same_events same_outputs at =
    let P : List Event → Type 0 = λ x. IsAt g start x done r in
    let Q : List Output → Type 0 = λ x. IsAt g start fs x r in
    subst Q same_outputs (subst P same_events at)

acts_come : (g : ReplayInput) (start now : ℕ) (es : List Event) (done : List Output) (acts : List Act) (a b : World) → DoesAll now acts a b → IsAt g start es done a.recorder
    → IsAt g start (es ++ events_of acts) (done ++ outputs_of acts) b.recorder
acts_come g start now es done [] a b does at =
    let P : World → Type 0 = λ w. IsAt g start (es ++ []) (done ++ []) w.recorder in
    subst P (sym does) (at_same g start es (es ++ []) done (done ++ []) a.recorder (sym (append-nil es)) (sym (append-nil done)) at)
acts_come g start now es done (Takes one ∷ acts) a b does at =
    acts_come g start now es done acts does.0 b does.2 (takes_come g start now es done one a does.0 does.1 at)
acts_come g start now es done (Writes e ∷ acts) a b does at =
    at_same g start ((es ++ e ∷ []) ++ events_of acts) (es ++ e ∷ events_of acts) (done ++ outputs_of acts) (done ++ outputs_of acts) b.recorder (append_assoc es (e ∷ []) (events_of acts)) refl
    (acts_come g start now (es ++ e ∷ []) done acts does.0 b does.2 (writes_come g start now es done e a does.0 does.1 at))
acts_come g start now es done (Passes ∷ acts) a b does at =
    acts_come g start now es done acts does.0 b does.2 (passes_come g start es done a does.0 does.1 at)
acts_come g start now es done (Stops ∷ acts) a b does at =
    acts_come g start now es done acts does.0 b does.2 (stops_come g start es done a does.0 does.1 at)
acts_come g start now es done (Works o ∷ acts) a b does at =
    at_same g start (es ++ events_of acts) (es ++ events_of acts) ((done ++ o ∷ []) ++ outputs_of acts) (done ++ o ∷ outputs_of acts) b.recorder refl (append_assoc done (o ∷ []) (outputs_of acts))
    (acts_come g start now es (done ++ o ∷ []) acts does.0 b does.2 (works_come g start es done o a does.0 does.1 at))

-- ---- a poll

abbrev pub Comes : World → List Event → List Output → World → Type 0
Comes a es worked b = (g : ReplayInput) → (start : ℕ) → (earlier : List Event) → (done : List Output) → IsAt g start earlier done a.recorder → IsAt g start (earlier ++ es) (done ++ worked) b.recorder

pub goes_come : (now : ℕ) (a b : World) (es : List Event) (worked : List Output) → Goes now a es worked b → Comes a es worked b
goes_come now a b es worked goes = λ g start earlier done at.
    at_same g start (earlier ++ events_of goes.acts) (earlier ++ es) (done ++ outputs_of goes.acts) (done ++ worked) b.recorder
    (ap (λ (x : List Event). earlier ++ x) goes.written) (ap (λ (x : List Output). done ++ x) goes.outputs)
    (acts_come g start now earlier done goes.acts a b goes.does at)

pub hands_come : (now : ℕ) (o : Output) (a b : World) (es : List Event) (worked : List Output) → HandsOver now o a es worked b → Comes a es worked b
hands_come now o a b es worked hands = λ g start earlier done at.
    at_same g start (earlier ++ es) (earlier ++ es) ((done ++ hands.before) ++ o ∷ []) (done ++ worked) b.recorder refl
    (append_assoc done hands.before (o ∷ []) ∙ ap (λ (x : List Output). done ++ x) (sym hands.outputs))
    (works_come g start (earlier ++ es) (done ++ hands.before) o hands.between b hands.last (goes_come now a hands.between es hands.before hands.goes g start earlier done at))

-- a message that is handed out leaves the rest as it is
handed_at : (g : ReplayInput) (start : ℕ) (es : List Event) (done : List Output) (r : Recorder) (message : Option Message) → IsAt g start es done r → IsAt g start es done (record r { message = message })
handed_at g start es done r message at = record { passed = at.passed; written = at.written; stands = at.stands; outputs = at.outputs; brought = at.brought; empty = at.empty }

handed_come : (a b c : World) (es : List Event) (worked : List Output) (message : Option Message) → Comes a es worked b → c ≡ record b { recorder = record b.recorder { message = message } } → Comes a es worked c
handed_come a b c es worked message comes kept = λ g start earlier done at.
    let P : World → Type 0 = λ w. IsAt g start (earlier ++ es) (done ++ worked) w.recorder in
    subst P (sym kept) (handed_at g start (earlier ++ es) (done ++ worked) b.recorder message (comes g start earlier done at))

pub answers_come : (now : ℕ) (answer : Next (Result Message (Error OrderedErrorKind))) (a b : World) (es : List Event) (worked : List Output) → Answers now answer a es worked b → Comes a es worked b
answers_come now next.Pending a b es worked answers = goes_come now a b es worked answers.0
answers_come now next.End a b es worked answers = goes_come now a b es worked answers.0
answers_come now next.OutOfMemory a b es worked answers = goes_come now a b es worked answers
answers_come now (next.Item (Ok message)) a b es worked answers =
    handed_come a answers.between b es worked None (hands_come now (out.Yield answers.yields.stream_sequence answers.yields.consumer_sequence answers.yields.subject answers.yields.payload) a answers.between es worked answers.yields.hands) answers.kept
answers_come now (next.Item (Err e)) a b es worked answers =
    handed_come a answers.between b es worked b.recorder.message (hands_come now (out.Item answers.kind) a answers.between es worked answers.hands) answers.kept

-- ---- the opening

pub opens_at : (g : ReplayInput) (start : ℕ) (r : Recorder) (c : IncrementalReplay) → HasCome g start [] c → r.replay.value ≡ c → r.taken ≡ None → r.event ≡ None → r.worked ≡ 0 → IsAt g start [] [] r
opens_at g start r c come same taken event worked =
    let S : Option Event → Type 0 = λ v. Stands g start [] v r.replay.value in
    let T : IncrementalReplay → Type 0 = λ x. HasCome g start [] x in
    let os : List Output = r.replay.value.outputs in
    record {
      passed = [];
      written = ap half_passed (sym event);
      stands = subst S (sym event) (subst T (sym same) come);
      outputs =
          ap (λ (steps : List Step). (fold g start []).opening.outputs ++ joined steps) (no_steps g start)
          ∙ append-nil (fold g start []).opening.outputs
          ∙ ap (λ (step : Step). step.outputs) (opening_is g start [])
          ∙ sym come.outputs ∙ ap (λ (x : IncrementalReplay). x.outputs) (sym same)
          ∙ sym (ap (λ (v : Option Event). left_of v r.worked os) event ∙ ap (λ (n : ℕ). drop n os) worked);
      brought = where_none (r.event ≡ None) r.taken taken;
      empty = where_none (queue r ≡ []) r.taken taken;
    }
