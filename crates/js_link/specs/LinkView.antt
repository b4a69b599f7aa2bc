-- What a link means.
use Rattle.std.specs.Prelude.{ℕ, ◌+◌, ◌≤◌, ◌==◌, Bool, Option, Some, None, List, ◌∷◌, ◌++◌, cond, min}
use Rattle.js_base.specs.declared.message.Message.{Message}
use Rattle.js_link.specs.declared.sent.Sent.{Sent}
use Rattle.js_link.specs.declared.link.Watch.{Watch}

-- what a link tells of a request
pub data Status : Type 0 where
  Waits Answered Ended : Status

-- the numbers that are given next, and the subjects that the link chooses by them: those of its inboxes, and fresh ones
pub record Numbers : Type 0 where
  pub inbox : ℕ
  pub request : ℕ
  pub fresh : ℕ
  pub inbox_subject : ℕ → List ℕ
  pub fresh_subject : ℕ → List ℕ

-- What a link means. Whether it is up, its next numbers, its buffers, the answers that have come and what it sent may be untold.
pub record LinkView : Type 0 where
  pub faults : ℕ  -- how often it failed
  pub up : Option Bool
  pub numbers : Option Numbers
  pub is_open : ℕ → Bool
  pub count : ℕ → ℕ  -- how many messages lie in an inbox
  pub status : ℕ → Status
  pub watch : Watch
  pub max_payload : ℕ
  pub request_timeout : Option ℕ
  pub buffer : ℕ → Option (List Message)
  pub reply : ℕ → Option Message
  pub sent : Option (List Sent)

-- the function with another value at one place
abbrev pub put : {A : Type 0} → (ℕ → A) → ℕ → A → ℕ → A
put f place x i = cond (i == place) x (f i)

-- what was sent, with more after it
abbrev pub after : Option (List Sent) → List Sent → Option (List Sent)
after None more = None
after (Some sent) more = Some (sent ++ more)

-- a told list with one more in front
abbrev pub with_first : Message → Option (List Message) → Option (List Message)
with_first message None = None
with_first message (Some rest) = Some (message ∷ rest)

-- the numbers once an inbox was made
abbrev pub past_inbox : Option Numbers → Option Numbers
past_inbox None = None
past_inbox (Some n) = Some (record n { inbox = n.inbox + 1 })

-- the numbers once a request was made
abbrev pub past_request : Option Numbers → Option Numbers
past_request None = None
past_request (Some n) = Some (record n { request = n.request + 1 })

-- the numbers once a fresh subject was named
abbrev pub past_fresh : Option Numbers → Option Numbers
past_fresh None = None
past_fresh (Some n) = Some (record n { fresh = n.fresh + 1 })

-- A fault came between the two counts. The last count of all counts as risen.
abbrev pub HasRisen : ℕ → ℕ → Type 0
HasRisen before now = min (before + 1) 18446744073709551615 ≤ now
