-- When an ordered consumer has something to do by itself, and that it may be left alone until then.
use Rattle.std.specs.Prelude.{◌≡◌, ◌⊎◌, ⊤, ℕ, Bool, true, false, []}
use Rattle.js_base.specs.Clock.{is_due}
use Rattle.js_base.specs.declared.message.State.{State}
use Rattle.js_link.specs.LinkView.{LinkView}
use Rattle.js_link.specs.LinkView as link
use Rattle.js_link.specs.Wish.{watch_met}
use Rattle.js_link.specs.declared.wish.Met.{Met}
use Rattle.js_link.specs.declared.wish.Met.TheVariants.{Stands, WatchOver}
use Rattle.js_pull.specs.Timers.{IsUnanswered, timer_due}
use Rattle.js_ordered_table.specs.declared.consumer.Phase.{Phase}
use Rattle.js_ordered_table.specs.declared.consumer.Phase.TheVariants.{Pulls, Pushes, Recreates, Idle, Ended, Exhausted}
use Rattle.js_ordered_table.specs.declared.consumer.ReplayInput.{ReplayInput}
use Rattle.js_ordered_table.specs.declared.consumer.Stage.{Stage}
use Rattle.js_ordered_table.specs.declared.consumer.Stage.TheVariants.{Between, Deleting, Creating, Waiting}
use Rattle.js_ordered_table.specs.declared.setup.OrderedSetup.{OrderedSetup}
use Rattle.js_ordered_table.specs.Invariant.{IsPull}
use Rattle.js_pull.specs.Poll.{same_state}
use Rattle.js_ordered_table.specs.Poll.{Answer, Waits, Lacks}
use Rattle.js_ordered_table.specs.Walk.{Position}

-- ---- what is due

-- the timer of an open recreation is due: that of the answer that it waits for, or its wait before the next try
abbrev pub stage_due : ℕ → Stage → Bool
stage_due now Between = false
stage_due now (Deleting request timeout) = is_due timeout now
stage_due now (Creating request timeout) = is_due timeout now
stage_due now (Waiting wait) = is_due wait now

-- a timer of a consumer is due; one that has neither an inbox nor an open recreation begins one at once, and one that has ended has no timer
abbrev pub phase_due : ℕ → Phase → Bool
phase_due now (Pulls reader) = timer_due now reader
phase_due now (Pushes inbox heartbeat_timer) = is_due heartbeat_timer now
phase_due now (Recreates r) = stage_due now r.stage
phase_due now Idle = true
phase_due now Ended = false
phase_due now Exhausted = false

-- ---- what has come

-- the answer that a recreation waits for has not come
abbrev pub IsStageUnanswered : Stage → LinkView → Type 0
IsStageUnanswered (Deleting request timeout) v = v.status request ≡ link.Waits
IsStageUnanswered (Creating request timeout) v = v.status request ≡ link.Waits
IsStageUnanswered _ v = ⊤

-- Nothing has come for a consumer: its inbox is open and empty, and no answer has come. While it is made anew, what lies in push's next inbox waits.
abbrev pub IsUnread : Phase → LinkView → Type 0
IsUnread (Pulls reader) v =
    (reader.ended ≡ false) × (v.is_open reader.source.inbox ≡ true) × (v.count reader.source.inbox ≡ 0) × IsUnanswered reader.inquiry v
IsUnread (Pushes inbox heartbeat_timer) v = (v.is_open inbox ≡ true) × (v.count inbox ≡ 0)
IsUnread (Recreates r) v = IsStageUnanswered r.stage v
IsUnread _ v = ⊥

-- the connection is shown as it was last told of; pull passes over the end of its watcher, which ends push
abbrev pub StandsStill : OrderedSetup → State → Met → Type 0
StandsStill setup last (Stands state) = same_state last state ≡ true
StandsStill setup last WatchOver = IsPull setup
StandsStill setup last met = ⊥

-- ---- a poll that may as well not be made

-- nothing has come for a consumer at rest, and none of its timers is due
pub record IsLeftAlone (g : ReplayInput) (now : ℕ) (at : Position) (v : LinkView) : Type 0 where
  pub rests : at.todo ≡ []
  pub early : phase_due now at.consumer.phase ≡ false
  pub connection : StandsStill g.setup at.consumer.connection (watch_met v.watch)
  pub unread : IsUnread at.consumer.phase v

-- a poll sends nothing then; it waits where it has memory, and leaves the consumer what it was
pub record Sleeps (old new : Position) (before after : LinkView) (answer : Answer) : Type 0 where
  pub answers : (answer ≡ Waits) ⊎ (answer ≡ Lacks)
  pub same : after ≡ before
  pub stays : answer ≡ Waits → new ≡ old

abbrev pub SleepsIfLeftAlone : ReplayInput → ℕ → Position → Position → LinkView → LinkView → Answer → Type 0
SleepsIfLeftAlone g now old new before after answer = IsLeftAlone g now old before → Sleeps old new before after answer
