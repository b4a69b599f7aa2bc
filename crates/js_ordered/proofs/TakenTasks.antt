-- A task is taken, passed or put back, and less is left to do.
use Rattle.std.proofs.Common.{◌≡◌, ℕ, ◌+◌, ◌*◌, ◌<◌, List, [], ◌∷◌, ◌++◌, Bool, true, false, Option, Some, None, drop, is_some, length, length-append, refl, sym, ap, ◌∙◌, arith, subst}
use Rattle.std.specs.Prelude.{◌≤◌, option_to_list, Result, Ok, Err}
use Rattle.std.proofs.lemmas.List.{drop_all, drop_more}
use Rattle.js_base.specs.declared.message.Message.{Message}
use Rattle.js_ordered_table.specs.declared.transitions.task.Held.{Held}
use Rattle.js_ordered_table.specs.declared.transitions.task.NextTasks.{NextTasks}
use Rattle.js_ordered_table.specs.declared.transitions.task.Task.{Task}
use Rattle.js_ordered.specs.Drive.{IsLeft, Leads, PassesOn, PassesTo, first_held, heard_first, left_rows, left_to_do, matter_now, row_count}
use Rattle.js_ordered_table.specs.Tasks.{answered_rows, heard_rows, hearings_of, next_rows, rows_of}
use Rattle.js_ordered_table.specs.declared.consumer.ReplayInput.{ReplayInput}
use Rattle.js_ordered_table.specs.declared.row.Row.{Row}
use Rattle.js_ordered_table.specs.declared.run.Output.{Output}
use Rattle.js_ordered.specs.declared.event_context.EventContext.{EventContext}
use Rattle.js_ordered_table.specs.declared.replay_state.ReplayState.{ReplayState}
use Rattle.js_ordered_table.specs.Fold.{and_then, pass_each}
use Rattle.js_ordered_table.specs.Passes.{hearings, input_of, ran}
use Rattle.js_ordered_table.specs.Consumer.{Matter}
use Rattle.js_ordered.proofs.DrivenRows.{left_first}

-- ---- a task that was taken

pub refused_on : (g : ReplayInput) (now : ℕ) (m : Matter) (tasks after : List Task) (one : Task) (w u : ReplayState) (earlier later : List Output) → u ≡ w → later ≡ earlier
    → left_rows m after ≡ left_rows m (tasks ++ one ∷ []) → Leads g now m (left_rows m (tasks ++ one ∷ [])) w earlier (left_rows m after) u later
refused_on g now m tasks after one w u earlier later to put same =
    ap (λ (rows : List Row). and_then earlier (pass_each (ran g now m) rows w)) (sym same)
    ∙ ap (λ (v : ReplayState). and_then earlier (pass_each (ran g now m) (left_rows m after) v)) (sym to)
    ∙ ap (λ (o : List Output). and_then o (pass_each (ran g now m) (left_rows m after) u)) (sym put)

-- a row that was passed, and one that was refused
pub ok_passes : {E : Type 0} (context : EventContext) (rows : List Row) (w u : ReplayState) (before after : List Output) (result : Result NextTasks E) (rest : NextTasks) → result ≡ Ok rest → PassesTo context rows w u before after result
    → PassesOn context rows w before (next_rows (matter_now context) rest) u after
ok_passes {E} context rows w u before after result rest is passes = subst (λ (r : Result NextTasks E). PassesTo context rows w u before after r) is passes

pub err_passes : {E : Type 0} (context : EventContext) (rows : List Row) (w u : ReplayState) (before after : List Output) (result : Result NextTasks E) (e : E) → result ≡ Err e → PassesTo context rows w u before after result
    → (u ≡ w) × (after ≡ before)
err_passes {E} context rows w u before after result e is passes = subst (λ (r : Result NextTasks E). PassesTo context rows w u before after r) is passes

pub tasks_same : (m : Matter) (tasks other : List Task) → tasks ≡ other → left_rows m tasks ≡ left_rows m other
tasks_same m tasks other is = ap (left_rows m) is

-- what was put back is left
pub left_again : (tasks after : List Task) (one : Task) → after ≡ tasks ++ one ∷ [] → IsLeft after
left_again tasks after one is = subst IsLeft (sym is) (more tasks one)
  where
    more : (tasks : List Task) (one : Task) → IsLeft (tasks ++ one ∷ [])
    more [] one = tt
    more (x ∷ tasks) one = tt

-- what is left has a first task
pub left_counts : (tasks : List Task) → IsLeft tasks → 0 < length tasks
left_counts [] left = absurd left
left_counts (one ∷ tasks) left = omega arith

pub popped : (old new : List Task) (taken : Option Task) (one : Task) → old ≡ new ++ option_to_list taken → taken ≡ Some one → old ≡ new ++ one ∷ []
popped old new taken one is some = is ∙ ap (λ (o : Option Task). new ++ option_to_list o) some

took : (old room new : List Task) (one : Task) → room ≡ old → room ≡ new ++ one ∷ [] → new ++ one ∷ [] ≡ old
took old room new one same is = sym is ∙ same

-- a task was taken, and passed
pub took_on : (g : ReplayInput) (now : ℕ) (m : Matter) (old room new : List Task) (one : Task) (after : List Task) (w u : ReplayState) (before given later : List Output)
    → room ≡ old → room ≡ new ++ one ∷ [] → given ≡ before
    → Leads g now m (left_rows m (new ++ one ∷ [])) w given (left_rows m after) u later → Leads g now m (left_rows m old) w before (left_rows m after) u later
took_on g now m old room new one after w u before given later same is put leads =
    subst (λ (o : List Output). Leads g now m (left_rows m old) w o (left_rows m after) u later) put
    (subst (λ (tasks : List Task). Leads g now m (left_rows m tasks) w given (left_rows m after) u later) (took old room new one same is) leads)

-- ---- what is left to do

grown : (tasks : List Task) (one : Task) → length (tasks ++ one ∷ []) ≡ length tasks + 1
grown tasks one = length-append tasks (one ∷ [])

falls : (was now first : ℕ) (tasks middle after more : ℕ) → was ≡ first + now → first ≡ 1 → middle ≤ tasks + 2 → after ≤ middle + 2 → more ≡ tasks + 1 → 4 * now + after < 4 * was + more
falls was now first tasks middle after more fewer is left next grows = omega (arith, fewer, is, left, next, grows)

-- a row was passed, and at most four tasks were put in place of one
pub less_by_row : (was now first : ℕ) (tasks middle after : List Task) (one : Task) → was ≡ first + now → first ≡ 1 → length middle ≤ length tasks + 2 → length after ≤ length middle + 2
    → 4 * now + length after < 4 * was + length (tasks ++ one ∷ [])
less_by_row was now first tasks middle after one fewer is left next =
    falls was now first (length tasks) (length middle) (length after) (length (tasks ++ one ∷ [])) fewer is left next (grown tasks one)

-- the task that was passed was one that was left
pub less_taken : (context : EventContext) (old room new after : List Task) (one : Task) (w u : ReplayState) → room ≡ old → room ≡ new ++ one ∷ []
    → left_to_do context after u < left_to_do context (new ++ one ∷ []) w → left_to_do context after u < left_to_do context old w
less_taken context old room new after one w u same is less =
    subst (λ (tasks : List Task). left_to_do context after u < left_to_do context tasks w) (took old room new one same is) less

-- ---- a task that stands for no row

no_row : (m : Matter) (tasks : List Task) (one : Task) → rows_of m one ≡ [] → left_rows m (tasks ++ one ∷ []) ≡ left_rows m tasks
no_row m tasks one none = left_first m tasks one ∙ ap (λ (rows : List Row). rows ++ left_rows m tasks) none

-- it is let go,
pub leads_without : (g : ReplayInput) (now : ℕ) (m : Matter) (tasks : List Task) (one : Task) (w : ReplayState) (outputs : List Output) → rows_of m one ≡ []
    → Leads g now m (left_rows m (tasks ++ one ∷ [])) w outputs (left_rows m tasks) w outputs
leads_without g now m tasks one w outputs none = ap (λ (rows : List Row). and_then outputs (pass_each (ran g now m) rows w)) (no_row m tasks one none)

one_less : (was now tasks more : ℕ) → was ≡ now → more ≡ tasks + 1 → 4 * now + tasks < 4 * was + more
one_less was now tasks more same grows = omega (arith, same, grows)

-- and so one task less is left
pub less_without : (context : EventContext) (tasks : List Task) (one : Task) (w : ReplayState) → rows_of (matter_now context) one ≡ []
    → left_to_do context tasks w < left_to_do context (tasks ++ one ∷ []) w
less_without context tasks one w none =
    let m : Matter = matter_now context in
    let rows : List Row → ℕ = λ all. row_count (input_of context.consumer) context.consumer.moment m all w in
    one_less (rows (left_rows m (tasks ++ one ∷ []))) (rows (left_rows m tasks)) (length tasks) (length (tasks ++ one ∷ [])) (ap rows (no_row m tasks one none)) (grown tasks one)

-- where the event does not answer the request, or does
pub no_answer : (reply : Option (Option Message)) (there : Bool) → there ≡ is_some reply → there ≡ false → answered_rows reply ≡ []
no_answer None there is none = refl
no_answer (Some reply) there is none = cc

pub one_answer : (reply : Option (Option Message)) (there : Bool) → there ≡ is_some reply → there ≡ true → length (answered_rows reply) ≡ 1
one_answer None there is some = cc
one_answer (Some reply) there is some = refl

-- where it brings nothing on the inbox, or something
pub no_arrival : (inbox : ℕ) (message : Option Message) (there : Bool) → there ≡ is_some message → there ≡ false → heard_rows inbox message ≡ []
no_arrival inbox None there is none = refl
no_arrival inbox (Some message) there is none = cc

pub one_arrival : (inbox : ℕ) (message : Option Message) (there : Bool) → there ≡ is_some message → there ≡ true → length (heard_rows inbox message) ≡ 1
one_arrival inbox None there is some = cc
one_arrival inbox (Some message) there is some = refl

-- where all that was held was heard, or something was not
pub no_held : (held : Held) → length held.messages ≤ held.place → hearings_of held ≡ []
no_held held over = ap (hearings held.inbox) (drop_all held.place held.messages over)

pub one_held : (held : Held) → held.place < length held.messages → length (first_held held) ≡ 1
one_held held below = heard held.messages below
  where
    heard : (messages : List Message) → held.place < length messages → length (heard_first held.inbox (drop held.place messages)) ≡ 1
    heard [] low = absurd (omega (arith, low))
    heard (x ∷ xs) low = ap (λ (ms : List Message). length (heard_first held.inbox ms)) (drop_more (x ∷ xs) held.place x low)
