-- What the counts of a run tell.
use Rattle.std.specs.Prelude.{◌≡◌, ◌<◌, ℕ, List, All, AllPairs, length, sum_by}
use mathlib.Core.List.{IsPrefix}
use Rattle.js_window.specs.declared.history.Call.TheVariants.{AllFree}
use Rattle.js_window.specs.Caller.{WindowId, Caller, Makes}
use Rattle.js_window_workers.specs.declared.worker.Ended.{Ended}
use Rattle.js_window_workers.specs.declared.workers.WindowCounts.{WindowCounts}
use Rattle.js_window_workers.specs.Worker.{HasEnded}

-- the counts are those of so many workers on this window, each of which is a caller of its own, and whether all permits were free is what the caller that has seen all of them was last answered
pub record Counts (window : WindowId) (threads calls : ℕ) (last : Caller) (counts : WindowCounts) : Type 0 where
  pub workers : List Ended
  pub many : length workers ≡ threads
  pub each : All (HasEnded window calls) workers
  pub apart : AllPairs (λ a b. a.pass.number < b.pass.number) workers
  pub got : counts.got ≡ sum_by (λ e. e.got) workers
  pub full : counts.full ≡ sum_by (λ e. e.full) workers
  pub joined : Caller
  pub own : joined.window ≡ window
  pub seen : All (λ e. IsPrefix e.pass.seen joined.seen) workers
  pub asked : Makes (AllFree counts.all_free) joined last

-- they are those of a window with so many permits
pub record CountsOfRun (permits threads calls : ℕ) (told : WindowCounts) : Type 0 where
  pub window : WindowId
  pub capacity : window.capacity ≡ permits
  pub last : Caller
  pub counts : Counts window threads calls last told
