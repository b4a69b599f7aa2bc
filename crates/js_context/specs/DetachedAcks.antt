-- Looking after the acks that nobody awaits.
use Rattle.std.specs.Prelude.{ℕ, ◌≡◌, ◌+◌, ◌&&◌, nat_lt, if◌then◌else◌, Bool, true, false, Option, Some, None, List, [], ◌∷◌, ◌++◌, map, take, drop}
use Rattle.js_link.specs.LinkView.{LinkView}
use Rattle.js_call.specs.RawCall.{Shows}
use Rattle.js_call.specs.declared.open_request.OpenRequest.{OpenRequest}
use Rattle.js_call.specs.declared.open_request.Shown.{Shown}
use Rattle.js_call.specs.declared.open_request.Shown.TheVariants.{Came, Gone, Due, Still}
use Rattle.js_window.specs.Caller.{Caller, Makes}
use Rattle.js_window.specs.declared.history.Call.TheVariants.{Give}
use Rattle.js_context.specs.declared.context.Detached.{Detached}
use Rattle.js_context.specs.AckClock.{begun, clocked}
use Rattle.js_context.specs.Context.{ContextView}

-- the request of an ack, with its clock
abbrev pub clocked_ack : Detached → ℕ → ℕ → OpenRequest
clocked_ack ack now wait = clocked ack.request ack.since now wait

-- an ack is settled that was answered, whose replier is gone, or whose clock is due
abbrev pub is_settled : Shown → Bool
is_settled (Came message) = true
is_settled Gone = true
is_settled Due = true
is_settled Still = false

-- what stays of it where its clock began then: itself with that clock, where it is not settled
abbrev pub stays : Bool → ℕ → Detached → List Detached
stays true since ack = []
stays false since ack = record ack { since = Some since } ∷ []

-- a settled ack gives its permit back
abbrev pub GivesIf : Bool → Caller → Caller → Type 0
GivesIf true p q = Makes Give p q
GivesIf false p q = q ≡ p

-- one look at an ack that is followed by others: it goes behind them where it stays
pub record LooksAt (now : ℕ) (ack : Detached) (after : List Detached) (shown : Shown) (c d : ContextView) (old new : LinkView) : Type 0 where
  pub shows : Shows (clocked_ack ack now c.settings.ack_timeout) now shown old new
  pub gives : GivesIf (is_settled shown) c.pass d.pass
  pub same : d ≡ record c { pass = d.pass; detached = after ++ stays (is_settled shown) (begun ack.since now) ack }

-- one look at the first detached ack
abbrev pub LooksFirst : ℕ → Bool → ContextView → ContextView → LinkView → LinkView → Type 0
LooksFirst now gone c d old new =
    (ack : Detached) (after : List Detached) → c.detached ≡ ack ∷ after → (shown : Shown) × (gone ≡ is_settled shown) × LooksAt now ack after shown c d old new

-- a detached ack that is looked at, and what its request shows
pub record Look : Type 0 where
  pub ack : Detached
  pub shown : Shown

-- the pass and the link between two looks
pub record Between : Type 0 where
  pub pass : Caller
  pub link : LinkView

-- one look, as the pass and the link see it
pub record Looks (now wait : ℕ) (s : Between) (look : Look) (t : Between) : Type 0 where
  pub shows : Shows (clocked_ack look.ack now wait) now look.shown s.link t.link
  pub gives : GivesIf (is_settled look.shown) s.pass t.pass

-- these looks lead from one to the other, one after another
abbrev pub Passes : ℕ → ℕ → Between → List Look → Between → Type 0
Passes now wait s [] t = s ≡ t
Passes now wait s (look ∷ more) t = (u : Between) × Looks now wait s look u × Passes now wait u more t

-- the acks that stay
abbrev pub kept : ℕ → List Look → List Detached
kept now [] = []
kept now (look ∷ more) = stays (is_settled look.shown) (begun look.ack.since now) look.ack ++ kept now more

-- how many acks that makes settled, or kept
abbrev pub one_if : Bool → ℕ
one_if true = 1
one_if false = 0

-- how many acks are settled
abbrev pub settled : List Look → ℕ
settled [] = 0
settled (look ∷ more) = one_if (is_settled look.shown) + settled more

-- The first n detached acks were looked at, one after another. Those that stay are behind the others.
pub record GoesRound (n now : ℕ) (c d : ContextView) (old new : LinkView) (gone : ℕ) : Type 0 where
  pub looks : List Look
  pub looked : map (λ (look : Look). look.ack) looks ≡ take n c.detached
  pub passes : Passes now c.settings.ack_timeout (record { pass = c.pass; link = old }) looks (record { pass = d.pass; link = new })
  pub same : d ≡ record c { pass = d.pass; detached = drop n c.detached ++ kept now looks }
  pub number : gone ≡ settled looks

-- The first n detached acks were looked at, one after another. The others follow those that stay, and all are in their order.
pub record Reaps (n now : ℕ) (c d : ContextView) (old new : LinkView) (gone : ℕ) : Type 0 where
  pub looks : List Look
  pub looked : map (λ (look : Look). look.ack) looks ≡ take n c.detached
  pub passes : Passes now c.settings.ack_timeout (record { pass = c.pass; link = old }) looks (record { pass = d.pass; link = new })
  pub same : d ≡ record c { pass = d.pass; detached = kept now looks ++ drop n c.detached }
  pub number : gone ≡ settled looks

-- how many are looked at: all where there is no limit, or 0
abbrev pub looked_at : Option ℕ → ℕ → ℕ
looked_at None all = all
looked_at (Some limit) all = if nat_lt 0 limit && nat_lt limit all then limit else all
