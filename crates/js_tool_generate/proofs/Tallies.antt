-- Counts with one output more.
use Rattle.std.proofs.Common.{◌≡◌, ℕ, ◌+◌, suc, Result, Ok, Err, OnOk, ◌<◌, ◌≤◌, Bool, true, false, List, [], ◌∷◌, ◌++◌, length, take, get_or, count_by, refl, sym, ap, ◌∙◌, arith, append-nil, append_assoc}
use Rattle.std.proofs.Math.Seq.{take-suc}
use Rattle.std.proofs.lemmas.List.{take_all}
use Rattle.std.specs.Prelude.{cond}
use Rattle.std.proofs.lemmas.List.Sums.{sum_by_push}
use Rattle.js_ordered_table.specs.declared.run.Output.{Output}
use Rattle.js_ordered_table.specs.declared.run.Step.{Step}
use Rattle.js_ordered_table.specs.declared.run.Output.TheVariants as out
use Rattle.js_ordered_table.specs.Fold.{is_request, is_subscribe}
use Rattle.js_ordered_table.specs.Gapless.{joined}
use Rattle.js_tool_generate.specs.declared.summary.Summary.{Summary}
use Rattle.js_tool_generate.specs.Summary.{is_yield, is_item, is_recreation, is_publish, last_yielded, counts}

one : (p : Output → Bool) (outputs : List Output) (o : Output) → p o ≡ true → count_by p (outputs ++ o ∷ []) ≡ count_by p outputs + 1
one p outputs o is = sum_by_push (λ x. cond (p x) 1 0) outputs o ∙ ap (λ (b : Bool). count_by p outputs + cond b 1 0) is

none : (p : Output → Bool) (outputs : List Output) (o : Output) → p o ≡ false → count_by p (outputs ++ o ∷ []) ≡ count_by p outputs
none p outputs o is =
    let more : count_by p (outputs ++ o ∷ []) ≡ count_by p outputs + 0 = sum_by_push (λ x. cond (p x) 1 0) outputs o ∙ ap (λ (b : Bool). count_by p outputs + cond b 1 0) is in
    omega (arith, more)

last_push : (last : ℕ) (outputs : List Output) (o : Output) → last_yielded last (outputs ++ o ∷ []) ≡ last_yielded (last_yielded last outputs) (o ∷ [])
last_push last [] o = refl
last_push last (out.Yield sequence number subject payload ∷ outputs) o = last_push sequence outputs o
last_push last (out.Item kind ∷ outputs) o = last_push last outputs o
last_push last (out.Recreate recreation_count start ∷ outputs) o = last_push last outputs o
last_push last (out.Request number subject payload ∷ outputs) o = last_push last outputs o
last_push last (out.Publish subject reply payload ∷ outputs) o = last_push last outputs o
last_push last (out.Subscribe inbox subject ∷ outputs) o = last_push last outputs o

-- the counts with one output more
abbrev pub tallied : Output → Summary → Summary
tallied (out.Yield sequence number subject payload) s = record s { yields = s.yields + 1; last = sequence }
tallied (out.Item kind) s = record s { items = s.items + 1 }
tallied (out.Recreate recreation_count start) s = record s { recreations = s.recreations + 1 }
tallied (out.Request number subject payload) s = record s { requests = s.requests + 1 }
tallied (out.Publish subject reply payload) s = record s { publishes = s.publishes + 1 }
tallied (out.Subscribe inbox subject) s = record s { subscribes = s.subscribes + 1 }

counts_push : (events : ℕ) (outputs : List Output) (o : Output) → counts events (outputs ++ o ∷ []) ≡ tallied o (counts events outputs)
counts_push events outputs (out.Yield sequence number subject payload) =
    let o = out.Yield sequence number subject payload in
    rw (one is_yield outputs o refl, none is_item outputs o refl, none is_recreation outputs o refl, none is_request outputs o refl, none is_publish outputs o refl, none is_subscribe outputs o refl, last_push 0 outputs o) refl
counts_push events outputs (out.Item kind) =
    let o = out.Item kind in
    rw (none is_yield outputs o refl, one is_item outputs o refl, none is_recreation outputs o refl, none is_request outputs o refl, none is_publish outputs o refl, none is_subscribe outputs o refl, last_push 0 outputs o) refl
counts_push events outputs (out.Recreate recreation_count start) =
    let o = out.Recreate recreation_count start in
    rw (none is_yield outputs o refl, none is_item outputs o refl, one is_recreation outputs o refl, none is_request outputs o refl, none is_publish outputs o refl, none is_subscribe outputs o refl, last_push 0 outputs o) refl
counts_push events outputs (out.Request number subject payload) =
    let o = out.Request number subject payload in
    rw (none is_yield outputs o refl, none is_item outputs o refl, none is_recreation outputs o refl, one is_request outputs o refl, none is_publish outputs o refl, none is_subscribe outputs o refl, last_push 0 outputs o) refl
counts_push events outputs (out.Publish subject reply payload) =
    let o = out.Publish subject reply payload in
    rw (none is_yield outputs o refl, none is_item outputs o refl, none is_recreation outputs o refl, none is_request outputs o refl, one is_publish outputs o refl, none is_subscribe outputs o refl, last_push 0 outputs o) refl
counts_push events outputs (out.Subscribe inbox subject) =
    let o = out.Subscribe inbox subject in
    rw (none is_yield outputs o refl, none is_item outputs o refl, none is_recreation outputs o refl, none is_request outputs o refl, none is_publish outputs o refl, one is_subscribe outputs o refl, last_push 0 outputs o) refl

-- what was counted stays counted with one output more, where that was counted
pub counted : {T E P : Type 0} (r : Result T E) (o : Output) (old new : Summary) → (P → new ≡ tallied o old)
    → (events : ℕ) (before : List Output) → old ≡ counts events before → OnOk r P → OnOk r (new ≡ counts events (before ++ o ∷ []))
counted (Ok done) o old new is events before was more = is more ∙ ap (tallied o) was ∙ sym (counts_push events before o)
counted (Err e) o old new is events before was more = tt

-- a list so far, with what is at this place
take_next : {A : Type 0} → (list : List A) (i : ℕ) (x : A) → i < length list → x ≡ get_or list i x → take (i + 1) list ≡ take i list ++ x ∷ []
take_next list i x within is =
    let next : i + 1 ≡ suc i = omega arith in
    ap (λ n. take n list) next ∙ take-suc list i x within ∙ ap (λ y. take i list ++ y ∷ []) (sym is)

pub counted_next : (before step : List Output) (i : ℕ) (o : Output) (events : ℕ) (new : Summary) → i < length step → o ≡ get_or step i o
    → new ≡ counts events ((before ++ take i step) ++ o ∷ []) → new ≡ counts events (before ++ take (i + 1) step)
counted_next before step i o events new within is was =
    was ∙ ap (counts events) (append_assoc before (take i step) (o ∷ []) ∙ ap (λ more. before ++ more) (sym (take_next step i o within is)))

pub counted_all : (before step : List Output) (i : ℕ) (events : ℕ) (new : Summary) → length step ≤ i
    → new ≡ counts events (before ++ take i step) → new ≡ counts events (before ++ step)
counted_all before step i events new past was = was ∙ ap (λ more. counts events (before ++ more)) (take_all i step past)

joined_push : (steps : List Step) (step : Step) → joined (steps ++ step ∷ []) ≡ joined steps ++ step.outputs
joined_push [] step = append-nil step.outputs
joined_push (first ∷ steps) step = ap (λ more. first.outputs ++ more) (joined_push steps step) ∙ sym (append_assoc first.outputs (joined steps) step.outputs)

-- what the opening put out
pub counted_opening : (outputs : List Output) (steps : List Step) (events : ℕ) (new : Summary) → new ≡ counts events outputs
    → new ≡ counts events (outputs ++ joined (take 0 steps))
counted_opening outputs steps events new was = was ∙ ap (counts events) (sym (append-nil outputs))

-- and what one step more did
pub counted_step : (outputs : List Output) (steps : List Step) (i : ℕ) (step : Step) (events : ℕ) (new : Summary) → i < length steps → step ≡ get_or steps i step
    → new ≡ counts events ((outputs ++ joined (take i steps)) ++ step.outputs) → new ≡ counts events (outputs ++ joined (take (i + 1) steps))
counted_step outputs steps i step events new within is was =
    let taken = ap joined (take_next steps i step within is) ∙ joined_push (take i steps) step in
    was ∙ ap (counts events) (append_assoc outputs (joined (take i steps)) step.outputs ∙ ap (λ more. outputs ++ more) (sym taken))
