-- When a stream has something to do by itself, and that it may be left alone until then.
use Rattle.std.specs.Prelude.{◌≡◌, ◌⊎◌, ⊤, ℕ, Bool, true, false, ◌||◌, [], Option, None, if◌then◌else◌}
use Rattle.js_base.specs.Clock.{is_due, is_any_due}
use Rattle.js_base.specs.declared.clock.Timer.{Timer}
use Rattle.js_link.specs.LinkView.{LinkView}
use Rattle.js_link.specs.LinkView as link
use Rattle.js_link.specs.Wish.{watch_met}
use Rattle.js_pull.specs.declared.reader.Reader.{Reader}
use Rattle.js_pull.specs.declared.reader.InfoRequest.{InfoRequest}
use Rattle.js_pull.specs.declared.reader.InfoRequest.TheVariants.{NoInfoRequest, Asked, Resting}
use Rattle.js_pull.specs.Poll.{Position, PollAnswer, Waits, Lacks, change_met}
use Rattle.js_pull.specs.Stream.{rows_empty}

-- an open info looks at its clock; without one the expiry is looked at
abbrev pub inquiry_due : ℕ → InfoRequest → Option Timer → Bool
inquiry_due now NoInfoRequest expiry = is_any_due expiry now
inquiry_due now (Asked request timeout failures) expiry = is_any_due timeout now
inquiry_due now (Resting wait failures) expiry = is_due wait now

-- a timer of a reader is due
abbrev pub timer_due : ℕ → Reader → Bool
timer_due now r = if r.ended then false else (inquiry_due now r.inquiry r.expiry || is_any_due r.heartbeat_timer now)

-- A stream has something to do by itself: a row of its last event is left, as after want of memory, or one of its timers is due.
abbrev pub something_due : ℕ → Position → Bool
something_due now at = if rows_empty at.todo then timer_due now at.reader else true

-- no answer has come to the info that is asked for
abbrev pub IsUnanswered : InfoRequest → LinkView → Type 0
IsUnanswered (Asked request timeout failures) v = v.status request ≡ link.Waits
IsUnanswered _ v = ⊤

-- nothing has come for a stream at rest, and none of its timers is due
pub record IsLeftAlone (now : ℕ) (at : Position) (v : LinkView) : Type 0 where
  pub rests : at.todo ≡ []
  pub alive : at.reader.ended ≡ false
  pub early : timer_due now at.reader ≡ false
  pub connection : change_met at.connection (watch_met v.watch) ≡ None
  pub is_open : v.is_open at.reader.source.inbox ≡ true
  pub empty : v.count at.reader.source.inbox ≡ 0
  pub unanswered : IsUnanswered at.reader.inquiry v

-- a poll sends nothing then; it waits where it has memory, and leaves the stream what it was
pub record Sleeps (old new : Position) (before after : LinkView) (answer : PollAnswer) : Type 0 where
  pub answers : (answer ≡ Waits) ⊎ (answer ≡ Lacks)
  pub same : after ≡ before
  pub stays : answer ≡ Waits → new ≡ old

abbrev pub SleepsIfLeftAlone : ℕ → Position → Position → LinkView → LinkView → PollAnswer → Type 0
SleepsIfLeftAlone now old new before after answer = IsLeftAlone now old before → Sleeps old new before after answer
