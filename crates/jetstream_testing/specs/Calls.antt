-- A call that is polled while a server answers it.
use Rattle.std.specs.Prelude.{ℕ, zero, suc, ◌≡◌, refl}
use Rattle.js_base.specs.declared.turn.Turn.{Turn}
use Rattle.js_base.specs.declared.turn.Turn.TheVariants.{Ready, Pending}
use Rattle.js_link.specs.LinkView.{LinkView}

-- A call that is polled at a moment, is pending, and is polled again at that moment, as often as it takes, is this one then. Between two polls the link may change.
pub data Awaits {S A : Type 0} (polled : S → ℕ → Turn S A → LinkView → LinkView → Type 0) (call : S) (now : ℕ) : S → Type 0 where
  unpolled : Awaits polled call now call
  pending : (last next : S) (before after : LinkView) → Awaits polled call now last → polled last now (Pending next) before after → Awaits polled call now next

-- The call answers so: the last of these polls is ready with this answer.
pub record Answers {S A : Type 0} (polled : S → ℕ → Turn S A → LinkView → LinkView → Type 0) (call : S) (now : ℕ) (answer : A) : Type 0 where
  pub last : S
  pub before : LinkView
  pub after : LinkView
  pub awaited : Awaits polled call now last
  pub ready : polled last now (Ready answer) before after

-- a call that is pending so many times, and then answers 7
abbrev pub pending_times : ℕ → ℕ → Turn ℕ ℕ → LinkView → LinkView → Type 0
pending_times zero now turn before after = turn ≡ Ready 7
pending_times (suc n) now turn before after = turn ≡ Pending n

-- one that is pending twice answers at the third poll
answers_at_the_third_poll : (v : LinkView) → Answers pending_times 2 0 7
answers_at_the_third_poll v = record { last = 0; before = v; after = v; awaited = pending 1 0 v v (pending 2 1 v v unpolled refl) refl; ready = refl }
