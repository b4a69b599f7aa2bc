-- What a poll of a subscription promises of its link, and when it may as well not be made.
use Rattle.std.specs.Prelude.{ℕ, ◌≡◌, ◌≤◌, ◌⊎◌, Bool, false, List}
use Rattle.js_base.specs.declared.turn.Next.{Next}
use Rattle.js_base.specs.declared.turn.Next.TheVariants as next
use Rattle.js_link.specs.LinkView.{LinkView, after}
use Rattle.js_link.specs.declared.sent.Sent.{Sent}

-- a link that was used: what it sent comes after what it had sent, and its faults only rise. Whether it is up, its state and its limits are what they were
pub record KeepsConnection (old new : LinkView) : Type 0 where
  pub more : List Sent
  pub sent : new.sent ≡ after old.sent more
  pub faults : old.faults ≤ new.faults
  pub up : new.up ≡ old.up
  pub watch : new.watch ≡ old.watch
  pub max_payload : new.max_payload ≡ old.max_payload
  pub request_timeout : new.request_timeout ≡ old.request_timeout

-- a poll sends nothing: it waits, or lacks memory. Where it waits, the link is what it was, and the subscription may be left alone as before
pub record Idles {S A : Type 0} (due : ℕ → S → Bool) (quiet : S → LinkView → Type 0) (old new : S) (before after : LinkView) (answer : Next A) : Type 0 where
  pub answers : (answer ≡ next.Pending) ⊎ (answer ≡ next.OutOfMemory)
  pub silent : after.sent ≡ before.sent
  pub same : answer ≡ next.Pending → after ≡ before
  pub still_quiet : answer ≡ next.Pending → quiet new after
  pub still_due : answer ≡ next.Pending → (moment : ℕ) → due moment new ≡ due moment old

-- that is so of a poll before anything is due, where nothing has come
abbrev pub IdlesIfQuiet : {S A : Type 0} → (ℕ → S → Bool) → (S → LinkView → Type 0) → ℕ → S → S → LinkView → LinkView → Next A → Type 0
IdlesIfQuiet due quiet now old new before after answer = due now old ≡ false → quiet old before → Idles due quiet old new before after answer
