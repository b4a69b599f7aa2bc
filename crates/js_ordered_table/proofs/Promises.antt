-- Both halves of what a replay answers.
use Rattle.std.proofs.Common.{◌≡◌, ℕ, List, ◌∷◌, None, sym, subst, Some, refl, ◌∙◌}
use Rattle.std.specs.Prelude.{Result, Ok, Err, IfErr}
use Rattle.std.specs.List.{AllByRecursion}
use Rattle.js_ordered_table.specs.declared.run.Run.{Run}
use Rattle.js_ordered_table.specs.declared.consumer.ReplayInput.{ReplayInput}
use Rattle.js_ordered_table.specs.declared.event.Event as events
use Rattle.js_ordered_table.specs.Fold.{fold}
use Rattle.js_ordered_table.specs.Refusal.{refuse}
use Rattle.js_ordered_table.specs.Gapless.{IsHonest, IsGapless, yields, all_outputs}
use Rattle.js_ordered_table.specs.declared.run.ReplayError.{ReplayError}
use Rattle.js_ordered_table.specs.declared.run.ReplayError.TheVariants as error
use Rattle.js_ordered_table.specs.Replay.{IsReplay, IsAnswer, IsFolded, IsValid, CountsUp, HasOneRecreation}
use Rattle.js_ordered_table.proofs.Accepted.{valid_accepted}
use Rattle.js_ordered_table.proofs.Headline.{replay_gapless}
use Rattle.js_ordered_table.proofs.Numbers.{fold_counts_up}
use Rattle.js_ordered_table.proofs.OneRecreation.{fold_single}

-- a run that is the fold is all that a replay promises
pub fold_replays : (g : ReplayInput) (start : ℕ) (es : List events.Event) (run : Run) → refuse g start es ≡ None → run ≡ fold g start es → IsReplay g start es run
fold_replays g start es run accepted folded = record {
  accepted = accepted;
  folded = folded;
  gapless = λ s honest.
      subst (λ (run : Run). IsGapless s g.setup (yields (all_outputs run))) (sym folded)
      (replay_gapless g start es s (subst (λ (run : Run). IsHonest s g.setup es run) folded honest));
  numbered = subst (λ (run : Run). CountsUp 0 (all_outputs run)) (sym folded) (fold_counts_up g start es);
  single = subst (λ (run : Run). AllByRecursion HasOneRecreation (run.opening ∷ run.steps)) (sym folded) (fold_single g start es);
}

-- what follows the table keeps all promises of a replay
pub folded_answers : (g : ReplayInput) (start : ℕ) (es : List events.Event) (result : Result Run ReplayError) → IsFolded g start es result → IsAnswer g start es result
folded_answers g start es (Ok run) folded = fold_replays g start es run folded.0 folded.1
folded_answers g start es (Err error.OutOfMemory) folded = tt
folded_answers g start es (Err error.NoDeliverSubject) folded = folded
folded_answers g start es (Err (error.BadSettings field)) folded = folded
folded_answers g start es (Err (error.BadEvent place)) folded = folded
folded_answers g start es (Err (error.SequenceEnd place)) folded = folded

-- so valid input gives a run, or want of memory
pub valid_answers : (g : ReplayInput) (start : ℕ) (es : List events.Event) (refusal : ReplayError) → IsValid g start es → IsAnswer g start es (Err refusal) → refusal ≡ error.OutOfMemory
valid_answers g start es error.OutOfMemory valid answer = refl
valid_answers g start es error.NoDeliverSubject valid answer = absurd (never (sym (valid_accepted g start es valid) ∙ answer))
  where
    never : None ≡ Some error.NoDeliverSubject → ⊥
    never e = cc
valid_answers g start es (error.BadSettings field) valid answer = absurd (never (sym (valid_accepted g start es valid) ∙ answer))
  where
    never : None ≡ Some (error.BadSettings field) → ⊥
    never e = cc
valid_answers g start es (error.BadEvent place) valid answer = absurd (never (sym (valid_accepted g start es valid) ∙ answer))
  where
    never : None ≡ Some (error.BadEvent place) → ⊥
    never e = cc
valid_answers g start es (error.SequenceEnd place) valid answer = absurd (never (sym (valid_accepted g start es valid) ∙ answer))
  where
    never : None ≡ Some (error.SequenceEnd place) → ⊥
    never e = cc

-- and what follows the table does so
pub folded_valid : (g : ReplayInput) (start : ℕ) (es : List events.Event) (result : Result Run ReplayError) → IsFolded g start es result → IsValid g start es
    → IfErr result (λ (refusal : ReplayError). refusal ≡ error.OutOfMemory)
folded_valid g start es (Ok run) folded valid = tt
folded_valid g start es (Err refusal) folded valid = valid_answers g start es refusal valid (folded_answers g start es (Err refusal) folded)
