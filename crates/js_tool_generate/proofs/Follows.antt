-- Outputs that go on: each yield is the next sequence, and each inbox starts where the last recreation asked.
use Rattle.std.proofs.Common.{◌≡◌, ℕ, ◌+◌, List, [], ◌∷◌, ◌++◌, count_by, refl, sym, subst, arith}
use Rattle.std.specs.Prelude.{cond}
use Rattle.std.proofs.lemmas.List.Sums.{sum_by-cons}
use Rattle.js_ordered_table.specs.declared.run.Output.{Output}
use Rattle.js_ordered_table.specs.declared.run.Output.TheVariants as out
use Rattle.js_ordered_table.specs.Gapless.{FollowsStarts, start_sequence}
use Rattle.js_tool_generate.specs.Summary.{is_yield, last_yielded}

-- from the last sequence so far and the start of the last recreation to those after the outputs
abbrev pub Follows : (ℕ → ℕ) → ℕ → ℕ → List Output → ℕ → ℕ → Type 0
Follows starts last from [] last_now from_now = (last ≡ last_now) × (from ≡ from_now)
Follows starts last from (out.Yield sequence number subject payload ∷ outputs) last_now from_now =
    (sequence ≡ last + 1) × Follows starts sequence from outputs last_now from_now
Follows starts last from (out.Item kind ∷ outputs) last_now from_now = Follows starts last from outputs last_now from_now
Follows starts last from (out.Recreate recreation_count start ∷ outputs) last_now from_now = Follows starts last (start_sequence start) outputs last_now from_now
Follows starts last from (out.Request number subject payload ∷ outputs) last_now from_now = Follows starts last from outputs last_now from_now
Follows starts last from (out.Publish subject reply payload ∷ outputs) last_now from_now = Follows starts last from outputs last_now from_now
Follows starts last from (out.Subscribe inbox subject ∷ outputs) last_now from_now =
    (starts inbox ≡ from) × Follows starts last from outputs last_now from_now

pub follows_append : (starts : ℕ → ℕ) (last from : ℕ) (first second : List Output) (last_then from_then last_now from_now : ℕ)
    → Follows starts last from first last_then from_then → Follows starts last_then from_then second last_now from_now
    → Follows starts last from (first ++ second) last_now from_now
follows_append starts last from [] second l f ln fn h k =
    subst (λ (last : ℕ). Follows starts last from second ln fn) (sym h.0) (subst (λ (from : ℕ). Follows starts l from second ln fn) (sym h.1) k)
follows_append starts last from (out.Yield sequence number subject payload ∷ first) second l f ln fn h k =
    (h.0, follows_append starts sequence from first second l f ln fn h.1 k)
follows_append starts last from (out.Item kind ∷ first) second l f ln fn h k = follows_append starts last from first second l f ln fn h k
follows_append starts last from (out.Recreate recreation_count start ∷ first) second l f ln fn h k = follows_append starts last (start_sequence start) first second l f ln fn h k
follows_append starts last from (out.Request number subject payload ∷ first) second l f ln fn h k = follows_append starts last from first second l f ln fn h k
follows_append starts last from (out.Publish subject reply payload ∷ first) second l f ln fn h k = follows_append starts last from first second l f ln fn h k
follows_append starts last from (out.Subscribe inbox subject ∷ first) second l f ln fn h k =
    (h.0, follows_append starts last from first second l f ln fn h.1 k)

-- a front of outputs that go on goes on
pub follows_front : (starts : ℕ → ℕ) (last from : ℕ) (first second : List Output) (last_now from_now : ℕ)
    → Follows starts last from (first ++ second) last_now from_now → (l : ℕ) × (f : ℕ) × Follows starts last from first l f
follows_front starts last from [] second ln fn h = (last, from, (refl, refl))
follows_front starts last from (out.Yield sequence number subject payload ∷ first) second ln fn h =
    let more = follows_front starts sequence from first second ln fn h.1 in (more.0, more.1, (h.0, more.2))
follows_front starts last from (out.Item kind ∷ first) second ln fn h = follows_front starts last from first second ln fn h
follows_front starts last from (out.Recreate recreation_count start ∷ first) second ln fn h = follows_front starts last (start_sequence start) first second ln fn h
follows_front starts last from (out.Request number subject payload ∷ first) second ln fn h = follows_front starts last from first second ln fn h
follows_front starts last from (out.Publish subject reply payload ∷ first) second ln fn h = follows_front starts last from first second ln fn h
follows_front starts last from (out.Subscribe inbox subject ∷ first) second ln fn h =
    let more = follows_front starts last from first second ln fn h.1 in (more.0, more.1, (h.0, more.2))

pub follows_starts : (starts : ℕ → ℕ) (last from : ℕ) (outputs : List Output) (last_now from_now : ℕ) → Follows starts last from outputs last_now from_now → FollowsStarts starts from outputs
follows_starts starts last from [] ln fn h = tt
follows_starts starts last from (out.Yield sequence number subject payload ∷ outputs) ln fn h = follows_starts starts sequence from outputs ln fn h.1
follows_starts starts last from (out.Item kind ∷ outputs) ln fn h = follows_starts starts last from outputs ln fn h
follows_starts starts last from (out.Recreate recreation_count start ∷ outputs) ln fn h = follows_starts starts last (start_sequence start) outputs ln fn h
follows_starts starts last from (out.Request number subject payload ∷ outputs) ln fn h = follows_starts starts last from outputs ln fn h
follows_starts starts last from (out.Publish subject reply payload ∷ outputs) ln fn h = follows_starts starts last from outputs ln fn h
follows_starts starts last from (out.Subscribe inbox subject ∷ outputs) ln fn h = (h.0, follows_starts starts last from outputs ln fn h.1)

-- as many are yielded as the last sequence is larger than the one before
pub follows_count : (starts : ℕ → ℕ) (last from : ℕ) (outputs : List Output) (last_now from_now : ℕ) → Follows starts last from outputs last_now from_now
    → last_yielded last outputs ≡ last + count_by is_yield outputs
follows_count starts last from [] ln fn h = omega arith
follows_count starts last from (out.Yield sequence number subject payload ∷ outputs) ln fn h =
    let more : last_yielded sequence outputs ≡ sequence + count_by is_yield outputs = follows_count starts sequence from outputs ln fn h.1 in
    let next : sequence ≡ last + 1 = h.0 in
    let same : last_yielded last (out.Yield sequence number subject payload ∷ outputs) ≡ last_yielded sequence outputs = refl in
    let one : count_by is_yield (out.Yield sequence number subject payload ∷ outputs) ≡ 1 + count_by is_yield outputs =
    sum_by-cons (λ x. cond (is_yield x) 1 0) (out.Yield sequence number subject payload) outputs in
    omega (arith, more, next, same, one)
follows_count starts last from (out.Item kind ∷ outputs) ln fn h = let more = follows_count starts last from outputs ln fn h in omega (arith, more)
follows_count starts last from (out.Recreate recreation_count start ∷ outputs) ln fn h = let more = follows_count starts last (start_sequence start) outputs ln fn h in omega (arith, more)
follows_count starts last from (out.Request number subject payload ∷ outputs) ln fn h = let more = follows_count starts last from outputs ln fn h in omega (arith, more)
follows_count starts last from (out.Publish subject reply payload ∷ outputs) ln fn h = let more = follows_count starts last from outputs ln fn h in omega (arith, more)
follows_count starts last from (out.Subscribe inbox subject ∷ outputs) ln fn h = let more = follows_count starts last from outputs ln fn h.1 in omega (arith, more)
