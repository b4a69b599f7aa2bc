-- That a moment at which a consumer wakes is the table's own: the first at which it has something to do.
use Rattle.std.proofs.Common.{◌≡◌, ℕ, ◌+◌, ◌<◌, ◌≤◌, ◌^◌, Bool, true, false, Option, Some, None, if◌then◌else◌, refl, sym, ap, ◌∙◌, arith}
use Rattle.std.proofs.lemmas.Bool.Decides.{nat_tests}
use Rattle.std.specs.Prelude.{⊤, ◌||◌, nat_le, nat_lt}
use Rattle.js_base.specs.Clock.{has_come, is_any_due, is_due}
use Rattle.js_base.specs.declared.clock.Timer.{Timer}
use Rattle.js_pull.specs.declared.reader.InfoRequest.{InfoRequest}
use Rattle.js_pull.specs.declared.reader.InfoRequest.TheVariants.{NoInfoRequest, Asked, Resting}
use Rattle.js_pull.specs.declared.reader.Reader.{Reader}
use Rattle.js_pull.specs.Timers.{inquiry_due, timer_due}
use Rattle.js_ordered_table.specs.declared.consumer.Phase.{Phase}
use Rattle.js_ordered_table.specs.declared.consumer.Phase.TheVariants.{Pulls, Pushes, Recreates, Idle, Ended, Exhausted}
use Rattle.js_ordered_table.specs.declared.consumer.Stage.{Stage}
use Rattle.js_ordered_table.specs.declared.consumer.Stage.TheVariants.{Between, Deleting, Creating, Waiting}
use Rattle.js_ordered_table.specs.Timers.{phase_due, stage_due}
use Rattle.js_tool_follow.specs.Wakes.{within_type, wait_end, any_wait_end, earlier, info_wait_end, reader_wait_end, stage_wait_end, wakes_at}

-- ---- one moment

-- a moment of the type, or none
pub IsSmall : Option ℕ → Type 0
IsSmall None = ⊤
IsSmall (Some moment) = moment < 2 ^ 64

come_at : (moment : ℕ) → nat_le moment moment ≡ true
come_at moment = grind (arith, nat_tests)

before : (a b : ℕ) → nat_le a b ≡ true → a ≤ b
before a b is = grind (arith, nat_tests)

-- a moment past the last one of the type never comes
past : (moment now : ℕ) → now < 2 ^ 64 → nat_lt moment (2 ^ 64) ≡ false → false ≡ nat_le moment now
past moment now lt is = grind (arith, nat_tests)

below_bound : (moment : ℕ) → nat_lt moment (2 ^ 64) ≡ true → moment < 2 ^ 64
below_bound moment is = grind (arith, nat_tests)

-- of two moments the later one comes no earlier
later_too : (a b now : ℕ) → nat_le a b ≡ true → nat_le b now ≡ true → nat_le a now ≡ false → ⊥
later_too a b now order come none = grind (arith, nat_tests)

sooner_too : (a b now : ℕ) → nat_le a b ≡ false → nat_le a now ≡ true → nat_le b now ≡ false → ⊥
sooner_too a b now order come none = grind (arith, nat_tests)

true_false : ◌≡◌ {A = Bool} true false → ⊥
true_false same = cc

same_two : (a b : ℕ) → a ≤ b → b ≤ a → a ≡ b
same_two a b below above = omega (arith, below, above)

-- moments that have come at the same times are the same
pub same_moment : (a b : Option ℕ) → IsSmall a → IsSmall b → ((now : ℕ) → now < 2 ^ 64 → has_come a now ≡ has_come b now) → a ≡ b
unfolding IsSmall
same_moment None None first second same = refl
same_moment None (Some b) first second same = absurd (true_false (sym (same b second ∙ come_at b)))
same_moment (Some a) None first second same = absurd (true_false (sym (come_at a) ∙ same a first))
same_moment (Some a) (Some b) first second same =
    let above : b ≤ a = before b a (sym (same a first) ∙ come_at a) in
    let below : a ≤ b = before a b (same b second ∙ come_at b) in
    ap Some (same_two a b below above)

pub some_small : (moment : ℕ) → moment < 2 ^ 64 → IsSmall (Some moment)
unfolding IsSmall
some_small moment small = small

pub none_small : IsSmall None
unfolding IsSmall
none_small = tt

-- ---- ends of waits

within_small : (moment : ℕ) → IsSmall (within_type moment)
unfolding IsSmall
within_small moment = by_test (nat_lt moment (2 ^ 64)) refl
  where
    by_test : (small : Bool) → nat_lt moment (2 ^ 64) ≡ small → IsSmall (if small then Some moment else None)
    by_test true is = below_bound moment is
    by_test false is = tt

within_come : (moment now : ℕ) → now < 2 ^ 64 → has_come (within_type moment) now ≡ nat_le moment now
within_come moment now lt = by_test (nat_lt moment (2 ^ 64)) refl
  where
    by_test : (small : Bool) → nat_lt moment (2 ^ 64) ≡ small → has_come (if small then Some moment else None) now ≡ nat_le moment now
    by_test true is = refl
    by_test false is = past moment now lt is

any_small : (timer : Option Timer) → IsSmall (any_wait_end timer)
any_small None = none_small
any_small (Some timer) = within_small (timer.set + timer.wait)

any_come : (timer : Option Timer) (now : ℕ) → now < 2 ^ 64 → has_come (any_wait_end timer) now ≡ is_any_due timer now
any_come None now lt = refl
any_come (Some timer) now lt = within_come (timer.set + timer.wait) now lt

-- ---- the earlier of two

earlier_small : (a b : Option ℕ) → IsSmall a → IsSmall b → IsSmall (earlier a b)
unfolding IsSmall
earlier_small None b first second = second
earlier_small (Some a) None first second = first
earlier_small (Some a) (Some b) first second = by_test (nat_le a b)
  where
    by_test : (below : Bool) → IsSmall (if below then Some a else Some b)
    by_test true = first
    by_test false = second

or_false : (x : Bool) → x ≡ (x || false)
or_false true = refl
or_false false = refl

earlier_come : (a b : Option ℕ) (now : ℕ) → has_come (earlier a b) now ≡ (has_come a now || has_come b now)
earlier_come None b now = refl
earlier_come (Some a) None now = or_false (nat_le a now)
earlier_come (Some a) (Some b) now = by_test (nat_le a b) refl
  where
    by_test : (below : Bool) → nat_le a b ≡ below → has_come (if below then Some a else Some b) now ≡ (nat_le a now || nat_le b now)
    by_test true is = by_come (nat_le a now) (nat_le b now) refl refl
      where
        by_come : (x y : Bool) → nat_le a now ≡ x → nat_le b now ≡ y → x ≡ (x || y)
        by_come true y first second = refl
        by_come false false first second = refl
        by_come false true first second = absurd (later_too a b now is second first)
    by_test false is = by_come (nat_le a now) (nat_le b now) refl refl
      where
        by_come : (x y : Bool) → nat_le a now ≡ x → nat_le b now ≡ y → y ≡ (x || y)
        by_come false y first second = refl
        by_come true true first second = refl
        by_come true false first second = absurd (sooner_too a b now is first second)

-- ---- a consumer

info_small : (inquiry : InfoRequest) (expiry : Option Timer) → IsSmall (info_wait_end inquiry expiry)
info_small NoInfoRequest expiry = any_small expiry
info_small (Asked request timeout failures) expiry = any_small timeout
info_small (Resting wait failures) expiry = within_small (wait.set + wait.wait)

info_come : (inquiry : InfoRequest) (expiry : Option Timer) (now : ℕ) → now < 2 ^ 64 → has_come (info_wait_end inquiry expiry) now ≡ inquiry_due now inquiry expiry
info_come NoInfoRequest expiry now lt = any_come expiry now lt
info_come (Asked request timeout failures) expiry now lt = any_come timeout now lt
info_come (Resting wait failures) expiry now lt = within_come (wait.set + wait.wait) now lt

reader_small : (r : Reader) → IsSmall (reader_wait_end r)
reader_small r = by_end r.ended
  where
    by_end : (ended : Bool) → IsSmall (if ended then None else earlier (info_wait_end r.inquiry r.expiry) (any_wait_end r.heartbeat_timer))
    by_end true = none_small
    by_end false = earlier_small (info_wait_end r.inquiry r.expiry) (any_wait_end r.heartbeat_timer) (info_small r.inquiry r.expiry) (any_small r.heartbeat_timer)

reader_come : (r : Reader) (now : ℕ) → now < 2 ^ 64 → has_come (reader_wait_end r) now ≡ timer_due now r
reader_come r now lt = by_end r.ended
  where
    by_end : (ended : Bool) → has_come (if ended then None else earlier (info_wait_end r.inquiry r.expiry) (any_wait_end r.heartbeat_timer)) now
        ≡ (if ended then false else (inquiry_due now r.inquiry r.expiry || is_any_due r.heartbeat_timer now))
    by_end true = refl
    by_end false =
        earlier_come (info_wait_end r.inquiry r.expiry) (any_wait_end r.heartbeat_timer) now
        ∙ ap (λ (x : Bool). x || has_come (any_wait_end r.heartbeat_timer) now) (info_come r.inquiry r.expiry now lt)
        ∙ ap (λ (y : Bool). inquiry_due now r.inquiry r.expiry || y) (any_come r.heartbeat_timer now lt)

stage_small : (stage : Stage) → IsSmall (stage_wait_end stage)
stage_small Between = none_small
stage_small (Deleting request timeout) = within_small (timeout.set + timeout.wait)
stage_small (Creating request timeout) = within_small (timeout.set + timeout.wait)
stage_small (Waiting wait) = within_small (wait.set + wait.wait)

stage_come : (stage : Stage) (now : ℕ) → now < 2 ^ 64 → has_come (stage_wait_end stage) now ≡ stage_due now stage
stage_come Between now lt = refl
stage_come (Deleting request timeout) now lt = within_come (timeout.set + timeout.wait) now lt
stage_come (Creating request timeout) now lt = within_come (timeout.set + timeout.wait) now lt
stage_come (Waiting wait) now lt = within_come (wait.set + wait.wait) now lt

pub wakes_small : (phase : Phase) → IsSmall (wakes_at phase)
wakes_small (Pulls reader) = reader_small reader
wakes_small (Pushes inbox heartbeat_timer) = within_small (heartbeat_timer.set + heartbeat_timer.wait)
wakes_small (Recreates r) = stage_small r.stage
wakes_small Idle = some_small 0 (omega arith)
wakes_small Ended = none_small
wakes_small Exhausted = none_small

zero_come : (now : ℕ) → nat_le 0 now ≡ true
zero_come now = grind (arith, nat_tests)

-- it has come when the table says that something is due
pub wakes_come : (phase : Phase) (now : ℕ) → now < 2 ^ 64 → has_come (wakes_at phase) now ≡ phase_due now phase
wakes_come (Pulls reader) now lt = reader_come reader now lt
wakes_come (Pushes inbox heartbeat_timer) now lt = within_come (heartbeat_timer.set + heartbeat_timer.wait) now lt
wakes_come (Recreates r) now lt = stage_come r.stage now lt
wakes_come Idle now lt = zero_come now
wakes_come Ended now lt = refl
wakes_come Exhausted now lt = refl

-- so a moment that has come then is this one
pub is_wake : (phase : Phase) (moment : Option ℕ) → IsSmall moment → ((now : ℕ) → now < 2 ^ 64 → has_come moment now ≡ phase_due now phase) → moment ≡ wakes_at phase
is_wake phase moment small due = same_moment moment (wakes_at phase) small (wakes_small phase) (λ now lt. due now lt ∙ sym (wakes_come phase now lt))
