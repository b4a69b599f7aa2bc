-- How many messages a batch gives, and that it ends for good.
use Rattle.std.proofs.Common.{◌≡◌, ℕ, ◌+◌, ◌<◌, ◌≤◌, ◌==◌, Bool, true, false, cond, List, [], ◌∷◌, Option, Some, None, refl, subst, arith}
use Rattle.std.proofs.lemmas.Bool.{eqb-false}
use Rattle.std.proofs.lemmas.List.Sums.{sum_by-cons}
use Rattle.std.specs.List.{AllByRecursion}
use Rattle.js_base.specs.declared.turn.Next.TheVariants as next
use Rattle.js_link.specs.LinkView.{LinkView}
use Rattle.js_readers.specs.declared.pull.batch.Batch.{Batch}
use Rattle.js_readers.specs.declared.pull.batch.BatchOutcome.{BatchOutcome}
use Rattle.js_readers.specs.declared.pull.batch.BatchOutcome.TheVariants.{Skips, Hands, Refuses}
use Rattle.js_readers.specs.declared.pull.batch.BatchOutcome.TheVariants as heard_as
use Rattle.js_readers.specs.Batch.{BatchAnswer, PollsFrom, AnswersTo, heard}
use Rattle.js_readers.specs.BatchRuns.{IsPolled, Runs, is_message, KeepsItsNumber, StaysEnded}

-- one message more is one fewer to come
abbrev counted : BatchAnswer → ℕ
counted answer = cond (is_message answer) 1 0

abbrev Counts : BatchAnswer → Batch → Batch → Type 0
Counts answer old new = counted answer + new.left ≤ old.left

heard_counts : (h : BatchOutcome) (inbox : ℕ) (old new : Batch) (answer : BatchAnswer) (v u : LinkView) → 0 < old.left → AnswersTo h inbox old answer new v u → Counts answer old new
heard_counts Skips inbox old new answer v u some answers = absurd answers
heard_counts heard_as.Waits inbox old new answer v u some answers = rw (answers.0, answers.1) (omega arith)
heard_counts (Hands m) inbox old new answer v u some answers = rw (answers.0, answers.1) (omega (arith, some))
heard_counts (Refuses e) inbox old new answer v u some answers = rw (answers.0, answers.1) (omega arith)
heard_counts heard_as.Ends inbox old new answer v u some answers = rw (answers.0, answers.1) (omega arith)

poll_counts : (i : Option ℕ) (none_left : Bool) (now : ℕ) (old new : Batch) (answer : BatchAnswer) (v u : LinkView) → (old.left == 0) ≡ none_left → PollsFrom i none_left now old answer new v u → Counts answer old new
poll_counts None none_left now old new answer v u is polls = rw (polls.0, polls.1) (omega arith)
poll_counts (Some inbox) true now old new answer v u is polls = rw (polls.0, polls.1) (omega arith)
poll_counts (Some inbox) false now old new answer v u is polls =
    heard_counts (heard now old polls.found) inbox old new answer polls.between u (omega (arith, eqb-false old.left 0 is)) polls.answers

polled_counts : (answer : BatchAnswer) (old new : Batch) → IsPolled old answer new → Counts answer old new
polled_counts answer old new p = poll_counts old.inbox (old.left == 0) p.now old new answer p.before p.after refl p.polls

pub keeps_its_number : KeepsItsNumber
keeps_its_number [] first last runs = omega arith
keeps_its_number (answer ∷ answers) first last runs =
    let one = polled_counts answer first runs.0 runs.1.0 in
    let rest = keeps_its_number answers runs.0 last runs.1.1 in
    rw (sum_by-cons (λ x. cond (is_message x) 1 0) answer answers) (omega (arith, one, rest))

-- ---- the end

heard_ends : (h : BatchOutcome) (inbox : ℕ) (old new : Batch) (v u : LinkView) → AnswersTo h inbox old next.End new v u → new.inbox ≡ None
heard_ends Skips inbox old new v u answers = absurd answers
heard_ends heard_as.Waits inbox old new v u answers = absurd (let no : next.End ≡ next.Pending = answers.0 in cc)
heard_ends (Hands m) inbox old new v u answers = absurd (let no = answers.0 in cc)
heard_ends (Refuses e) inbox old new v u answers = absurd (let no = answers.0 in cc)
heard_ends heard_as.Ends inbox old new v u answers = rw answers.1 refl

poll_ends : (i : Option ℕ) (none_left : Bool) (now : ℕ) (old new : Batch) (v u : LinkView) → old.inbox ≡ i → PollsFrom i none_left now old next.End new v u → new.inbox ≡ None
poll_ends None none_left now old new v u is polls = rw polls.1 is
poll_ends (Some inbox) true now old new v u is polls = rw polls.1 refl
poll_ends (Some inbox) false now old new v u is polls = heard_ends (heard now old polls.found) inbox old new polls.between u polls.answers

-- one that has ended ends again, and has ended
pub record EndsAgain (answer : BatchAnswer) (new : Batch) : Type 0 where
  pub answer_is : answer ≡ next.End
  pub ended_is : new.inbox ≡ None

ends_again : (old new : Batch) (answer : BatchAnswer) → old.inbox ≡ None → IsPolled old answer new → EndsAgain answer new
ends_again old new answer is p =
    let polls = subst (λ i. PollsFrom i (old.left == 0) p.now old answer new p.before p.after) is p.polls in
    record { answer_is = polls.0; ended_is = rw polls.1 is }

all_end : (answers : List BatchAnswer) (first last : Batch) → first.inbox ≡ None → Runs answers first last → AllByRecursion (λ answer. answer ≡ next.End) answers
all_end [] first last is runs = tt
all_end (answer ∷ answers) first last is runs =
    let one = ends_again first runs.0 answer is runs.1.0 in
    (one.answer_is, all_end answers runs.0 last one.ended_is runs.1.1)

pub stays_ended : StaysEnded
stays_ended answers first last runs =
    let p = runs.1.0 in
    all_end answers runs.0 last (poll_ends first.inbox (first.left == 0) p.now first runs.0 p.before p.after refl p.polls) runs.1.1
