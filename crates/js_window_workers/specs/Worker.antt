-- What a worker of a window does.
use Rattle.std.specs.Prelude.{◌≡◌, ◌⊎◌, ◌<◌, ℕ, ◌+◌, Bool, true, false, List, [], ◌∷◌, ◌++◌, AllPairs, length, get_or, count_by, Option, Some, None}
use mathlib.Core.List.{IsPrefix}
use Rattle.js_window.specs.declared.history.Call.{Call}
use Rattle.js_window.specs.declared.history.Call.TheVariants.{Got, Full, Give, AllFree}
use Rattle.js_window.specs.declared.history.Entry.{Entry}
use Rattle.js_window.specs.History.{entry, got_in, calls_by, IsLegal}
use Rattle.js_window.specs.Caller.{WindowId, Caller, held, Makes}
use Rattle.js_window_workers.specs.declared.worker.Job.{Job}
use Rattle.js_window_workers.specs.declared.worker.Ended.{Ended}

-- whether the call was a take that found no permit free
abbrev pub is_full : Call → Bool
is_full Full = true
is_full Got = false
is_full Give = false
is_full (AllFree _) = false

-- how many of these calls were takes that found no permit free
abbrev pub full_in : List Entry → ℕ
full_in history = count_by (λ e. is_full e.call) history

-- the calls of a take, by whether it got a permit, which is given back at once
abbrev pub calls_of_take : ℕ → Bool → List Entry
calls_of_take caller true = entry caller Got ∷ entry caller Give ∷ []
calls_of_take caller false = entry caller Full ∷ []

-- the calls of takes one after another, by which of them got a permit: each permit is given back before the next take
abbrev pub calls_of_takes : ℕ → List Bool → List Entry
calls_of_takes caller [] = []
calls_of_takes caller (got ∷ later) = calls_of_take caller got ++ calls_of_takes caller later

-- the same caller made so many takes more of each answer, gave back each permit before the next take, and holds as many permits as before. Where its calls in what it had seen were those that it had made, they still are, and what it has seen is legal where what it had seen was
pub record TookCalls (got full : ℕ) (p q : Caller) : Type 0 where
  pub window : q.window ≡ p.window
  pub number : q.number ≡ p.number
  pub grows : IsPrefix p.seen q.seen
  pub got_more : got_in q.mine ≡ got_in p.mine + got
  pub full_more : full_in q.mine ≡ full_in p.mine + full
  pub takes : List Bool
  pub in_turn : q.mine ≡ p.mine ++ calls_of_takes p.number takes
  pub held : held q ≡ held p
  pub legal : IsLegal p.window.capacity p.seen → IsLegal q.window.capacity q.seen
  pub own : calls_by p.number p.seen ≡ p.mine → calls_by q.number q.seen ≡ q.mine

-- the caller after one take, whatever it was answered: it has given nothing back since
abbrev pub MakesTake : Caller → Caller → Type 0
MakesTake first caller = Makes Got first caller ⊎ Makes Full first caller

-- where the gate stands in a worker's calls: it was passed by the caller as it was after its first take. Without calls it was not passed
abbrev pub PassedGate : ℕ → Caller → Option Caller → Type 0
PassedGate calls first None = calls ≡ 0
PassedGate calls first (Some caller) = (0 < calls) × MakesTake first caller

-- the gate admits the worker once this caller has made its first take
abbrev pub AdmitsAfterTake : Type 0 → Caller → Type 0
AdmitsAfterTake admits first = (caller : Caller) → MakesTake first caller → admits

-- a worker of this window that has made no call, whose number no call that it has seen bears, and that has seen a legal history
pub record IsReady (window : WindowId) (job : Job) : Type 0 where
  pub own : job.pass.window ≡ window
  pub legal : IsLegal window.capacity job.pass.seen
  pub none_made : job.pass.mine ≡ []
  pub fresh : calls_by job.pass.number job.pass.seen ≡ []

-- the workers are numbered from 0, in order
abbrev pub AreNumbered : List Job → Type 0
AreNumbered jobs = (i : ℕ) (d : Job) → i < length jobs → (get_or jobs i d).worker ≡ i

-- the passes of the workers have different numbers
abbrev pub HaveOwnPasses : List Job → Type 0
HaveOwnPasses jobs = AllPairs (λ a b. a.pass.number < b.pass.number) jobs

-- the gate, which admits these workers, admits each of so many
abbrev pub AdmitsEach : (ℕ → Type 0) → ℕ → Type 0
AdmitsEach admits threads = (worker : ℕ) → worker < threads → admits worker

-- each of so many workers passed the gate, of which this is known of a worker that has passed
abbrev pub EachPassed : (ℕ → Type 0) → ℕ → Type 0
EachPassed passed threads = (worker : ℕ) → worker < threads → passed worker

-- the worker made so many takes on this window, each permit given back before the next, which it counted by their answers and which stand in what it has seen. That is legal, and it holds no permit
pub record HasEnded (window : WindowId) (calls : ℕ) (worker : Ended) : Type 0 where
  pub own : worker.pass.window ≡ window
  pub takes : List Bool
  pub in_turn : worker.pass.mine ≡ calls_of_takes worker.pass.number takes
  pub legal : IsLegal window.capacity worker.pass.seen
  pub own_calls : calls_by worker.pass.number worker.pass.seen ≡ worker.pass.mine
  pub holds_none : held worker.pass ≡ 0
  pub got : worker.got ≡ got_in worker.pass.mine
  pub full : worker.full ≡ full_in worker.pass.mine
  pub sum : worker.got + worker.full ≡ calls
