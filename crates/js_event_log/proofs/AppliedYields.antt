-- What is applied, one yield after another.
use Rattle.std.proofs.Common.{◌≡◌, ℕ, ◌+◌, ◌<◌, ◌≤◌, nat_lt, Bool, true, false, cond, List, [], ◌∷◌, ◌++◌, Option, Some, None, Result, Ok, Err, refl, sym, ap, ◌∙◌, subst, arith, append-nil, append_assoc, length, get_or, take}
use Rattle.std.proofs.lemmas.Grind.{common_steps}
use Rattle.std.specs.Prelude.{fold, IfOk}
use Rattle.std.specs.Option.{option_or}
use Rattle.js_base.specs.declared.message.Entry.{Entry}
use Rattle.js_event_log.specs.Projection.{RisesAbove, last_sequence}
use Rattle.js_event_log.specs.declared.projection.error.ApplyError.{ApplyError}
use Rattle.js_event_log.specs.declared.projection.error.ApplyError.TheVariants.{NotRising, OutOfMemory}
use Rattle.js_ordered_table.specs.declared.run.Output.{Output}
use Rattle.js_ordered_table.specs.declared.run.Output.TheVariants as out
use Rattle.js_ordered_table.specs.declared.run.Step.{Step}
use Rattle.js_ordered_table.specs.Gapless.{joined}
use Rattle.std.proofs.lemmas.List.{take_more}
use Rattle.js_event_log.specs.RunProjection.{yielded, not_rising, unless_refused, projected, IsProjected}

-- one list of outputs after another
pub yielded_append : (first second : List Output) → yielded (first ++ second) ≡ yielded first ++ yielded second
yielded_append [] second = refl
yielded_append (out.Yield sequence number subject payload ∷ first) second =
    ap (λ (es : List Entry). record { subject = subject; sequence = sequence; payload = payload } ∷ es) (yielded_append first second)
yielded_append (out.Item kind ∷ first) second = yielded_append first second
yielded_append (out.Recreate recreation_count start ∷ first) second = yielded_append first second
yielded_append (out.Request number subject payload ∷ first) second = yielded_append first second
yielded_append (out.Publish subject reply payload ∷ first) second = yielded_append first second
yielded_append (out.Subscribe inbox subject ∷ first) second = yielded_append first second

-- ---- one entry more

abbrev last_from : ℕ → List Entry → ℕ
last_from low es = fold (λ _ (e : Entry). e.sequence) low es

abbrev found_after : ℕ → Entry → Option ℕ
found_after last e = cond (nat_lt last e.sequence) None (Some last)

not_rising_push : (low : ℕ) (es : List Entry) (e : Entry) → not_rising low (es ++ e ∷ []) ≡ option_or (not_rising low es) (found_after (last_from low es) e)
not_rising_push low [] e = refl
not_rising_push low (x ∷ es) e = by_test (not_rising_push x.sequence es e) (nat_lt low x.sequence)
  where
    by_test : not_rising x.sequence (es ++ e ∷ []) ≡ option_or (not_rising x.sequence es) (found_after (last_from x.sequence es) e)
        → (b : Bool) → cond b (not_rising x.sequence (es ++ e ∷ [])) (Some low) ≡ option_or (cond b (not_rising x.sequence es) (Some low)) (found_after (last_from x.sequence es) e)
    by_test rest true = rest
    by_test rest false = refl

-- all were applied
record AllApplied (es xs : List Entry) : Type 0 where
  risen : not_rising 0 es ≡ None
  same : xs ≡ es

all_applied : (es xs : List Entry) (found : Option ℕ) → not_rising 0 es ≡ found → Ok xs ≡ unless_refused es found → AllApplied es xs
all_applied es xs None is same = record { risen = is; same = ok_inside xs es same }
  where
    as_ok : List Entry → Result (List Entry) ApplyError
    as_ok ys = Ok ys

    ok_inside : (x y : List Entry) → as_ok x ≡ as_ok y → x ≡ y
    ok_inside x y same = cc
all_applied es xs (Some last) is same = cc

applied_of : (es xs : List Entry) → Ok xs ≡ projected es → AllApplied es xs
applied_of es xs same = all_applied es xs (not_rising 0 es) refl same

-- the next entry is above the last one
applies_next : (es xs : List Entry) (e : Entry) → Ok xs ≡ projected es → last_sequence xs < e.sequence → Ok (xs ++ e ∷ []) ≡ projected (es ++ e ∷ [])
applies_next es xs e same above =
    let all : AllApplied es xs = applied_of es xs same in
    let over : last_sequence es < e.sequence = subst (λ ys. last_sequence ys < e.sequence) all.same above in
    let test : nat_lt (last_sequence es) e.sequence ≡ true = grind (arith, common_steps) in
    let risen : not_rising 0 (es ++ e ∷ []) ≡ None =
    not_rising_push 0 es e ∙ ap (λ o. option_or o (found_after (last_sequence es) e)) all.risen ∙ ap (λ b. cond b None (Some (last_sequence es))) test in
    ap (λ ys. Ok (ys ++ e ∷ [])) all.same ∙ sym (ap (unless_refused (es ++ e ∷ [])) risen)

-- it is not
refuses_next : (es xs : List Entry) (e : Entry) → Ok xs ≡ projected es → e.sequence ≤ last_sequence xs → Err (NotRising (last_sequence xs)) ≡ projected (es ++ e ∷ [])
refuses_next es xs e same below =
    let all : AllApplied es xs = applied_of es xs same in
    let under : e.sequence ≤ last_sequence es = subst (λ ys. e.sequence ≤ last_sequence ys) all.same below in
    let test : nat_lt (last_sequence es) e.sequence ≡ false = grind (arith, common_steps) in
    let found : not_rising 0 (es ++ e ∷ []) ≡ Some (last_sequence es) =
    not_rising_push 0 es e ∙ ap (λ o. option_or o (found_after (last_sequence es) e)) all.risen ∙ ap (λ b. cond b None (Some (last_sequence es))) test in
    ap (λ ys. Err (NotRising (last_sequence ys))) all.same ∙ sym (ap (unless_refused (es ++ e ∷ [])) found)

-- what was refused stays so
stays : (low : ℕ) (es more : List Entry) (last : ℕ) → not_rising low es ≡ Some last → not_rising low (es ++ more) ≡ Some last
stays low [] more last is = cc
stays low (x ∷ es) more last is = by_test (stays x.sequence es more last) (nat_lt low x.sequence) is
  where
    by_test : (not_rising x.sequence es ≡ Some last → not_rising x.sequence (es ++ more) ≡ Some last)
        → (b : Bool) → cond b (not_rising x.sequence es) (Some low) ≡ Some last → cond b (not_rising x.sequence (es ++ more)) (Some low) ≡ Some last
    by_test rest true is = rest is
    by_test rest false is = is

stays_refused : (es more : List Entry) (refusal : ApplyError) → Err refusal ≡ projected es → Err refusal ≡ projected (es ++ more)
stays_refused es more refusal same = by_found (not_rising 0 es) refl same
  where
    by_found : (found : Option ℕ) → not_rising 0 es ≡ found → Err refusal ≡ unless_refused es found → Err refusal ≡ projected (es ++ more)
    by_found None is same = cc
    by_found (Some last) is same = same ∙ sym (ap (unless_refused (es ++ more)) (stays 0 es more last is))

-- ---- one output more

-- after a refusal
pub over_refused : (before : List Output) (output : Output) (refusal : ApplyError) → Err refusal ≡ projected (yielded before) → Err refusal ≡ projected (yielded (before ++ output ∷ []))
over_refused before output refusal same = stays_refused (yielded before) (yielded (output ∷ [])) refusal same ∙ ap projected (sym (yielded_append before (output ∷ [])))

-- one that is no yield
pub over_other : (before : List Output) (output : Output) (so_far : Result (List Entry) ApplyError) → [] ≡ yielded (output ∷ []) → so_far ≡ projected (yielded before)
    → so_far ≡ projected (yielded (before ++ output ∷ []))
over_other before output so_far none same =
    same ∙ ap projected (sym (yielded_append before (output ∷ []) ∙ ap (λ es. yielded before ++ es) (sym none) ∙ append-nil (yielded before)))

-- a yield above the last one
pub over_yield : (before : List Output) (output : Output) (xs : List Entry) (e : Entry) → e ∷ [] ≡ yielded (output ∷ []) → Ok xs ≡ projected (yielded before)
    → last_sequence xs < e.sequence → Ok (xs ++ e ∷ []) ≡ projected (yielded (before ++ output ∷ []))
over_yield before output xs e one same above =
    applies_next (yielded before) xs e same above ∙ ap projected (ap (λ es. yielded before ++ es) one ∙ sym (yielded_append before (output ∷ [])))

-- a yield that is not
pub over_falling : (before : List Output) (output : Output) (xs : List Entry) (e : Entry) (last : ℕ) → e ∷ [] ≡ yielded (output ∷ []) → Ok xs ≡ projected (yielded before)
    → e.sequence ≤ last_sequence xs → last ≡ last_sequence xs → Err (NotRising last) ≡ projected (yielded (before ++ output ∷ []))
over_falling before output xs e last one same below is =
    ap (λ n. Err (NotRising n)) is ∙ refuses_next (yielded before) xs e same below
    ∙ ap projected (ap (λ es. yielded before ++ es) one ∙ sym (yielded_append before (output ∷ [])))

-- entries that rise are all applied
none_refused : (low : ℕ) (es : List Entry) → RisesAbove low es → not_rising low es ≡ None
none_refused low [] rises = refl
none_refused low (e ∷ es) rises =
    let test : nat_lt low e.sequence ≡ true = let above = rises.0 in grind (arith, common_steps) in
    ap (λ b. cond b (not_rising e.sequence es) (Some low)) test ∙ none_refused e.sequence es rises.1

pub projected_rising : (es : List Entry) → RisesAbove 0 es → projected es ≡ Ok es
projected_rising es rises = ap (unless_refused es) (none_refused 0 es rises)

-- what was answered in place of want of memory
pub applied_all : (es : List Entry) (result : Result (List Entry) ApplyError) → IsProjected es result → (P : List Entry → Type 0) → P es → IfOk result P
applied_all es (Ok xs) is P p = subst P (sym (applied_of es xs is).same) p
applied_all es (Err refusal) is P p = tt

pub none_refuses : (es : List Entry) (result : Result (List Entry) ApplyError) → IsProjected es result → RisesAbove 0 es → (last : ℕ) → result ≡ Err (NotRising last) → ⊥
none_refuses es result is rises last refused =
    let both : Err (NotRising last) ≡ Ok es = subst (IsProjected es) refused is ∙ projected_rising es rises in
    cc

pub is_projected : (es : List Entry) (result : Result (List Entry) ApplyError) → result ≡ projected es → IsProjected es result
is_projected es (Ok xs) same = same
is_projected es (Err (NotRising last)) same = same
is_projected es (Err OutOfMemory) same = tt

-- ---- one step more

-- it adds what it puts out
pub joined_push : (steps : List Step) (step : Step) → joined (steps ++ step ∷ []) ≡ joined steps ++ step.outputs
joined_push [] step = append-nil step.outputs
joined_push (first ∷ steps) step = ap (λ outputs. first.outputs ++ outputs) (joined_push steps step) ∙ sym (append_assoc first.outputs (joined steps) step.outputs)

pub one_step_more : (opening : List Output) (steps : List Step) (i : ℕ) (step : Step) → i < length steps → step ≡ get_or steps i step
    → (opening ++ joined (take i steps)) ++ step.outputs ≡ opening ++ joined (take (i + 1) steps)
one_step_more opening steps i step inside is =
    append_assoc opening (joined (take i steps)) step.outputs
    ∙ ap (λ outputs. opening ++ outputs) (sym (joined_push (take i steps) step) ∙ ap (λ x. joined (take i steps ++ x ∷ [])) is ∙ ap joined (sym (take_more steps i step inside)))
