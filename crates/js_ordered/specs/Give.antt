-- What a replay's code says of a send: where the link is up it goes out, with the next number.
use Rattle.std.specs.Prelude.{◌≡◌, ℕ, ◌+◌, Bool, true, false, List, ◌++◌, Option, Some, None, count_by}
use Rattle.js_ordered.specs.declared.drive.give.Opening.{Opening}
use Rattle.js_ordered.specs.declared.drive.give.Sending.{Sending}
use Rattle.js_ordered_table.specs.declared.transitions.task.Inbox.{Inbox}
use Rattle.js_ordered_table.specs.Tasks.{requested, subscribed}
use Rattle.js_pull.specs.declared.reader.Reader.{Reader}
use Rattle.js_pull.specs.Limits.{pull_body}
use Rattle.js_pull.specs.Reader.{pull_subject}
use Rattle.js_ordered_table.specs.declared.run.Output.{Output}
use Rattle.js_ordered_table.specs.declared.run.Output.TheVariants as out
use Rattle.js_ordered_table.specs.Fold.{is_request, is_subscribe}

-- a request is ready, with the next number, where sends go through
abbrev pub IsSending : Bool → ℕ → List ℕ → List ℕ → Option Sending → Type 0
IsSending up requests_sent subject payload None = up ≡ false
IsSending up requests_sent subject payload (Some sending) =
    (up ≡ true) × (sending.number ≡ requests_sent + 1) × (sending.output ≡ out.Request (requests_sent + 1) subject payload)

-- and so is an inbox
abbrev pub IsOpening : Bool → ℕ → List ℕ → Option Opening → Type 0
IsOpening up inboxes_opened subject None = up ≡ false
IsOpening up inboxes_opened subject (Some opening) =
    (up ≡ true) × (opening.inbox ≡ record { number = inboxes_opened; subject = subject }) × (opening.after ≡ inboxes_opened + 1)
    × (opening.output ≡ out.Subscribe inboxes_opened subject)

-- the number under which a request went out
abbrev pub IsNumber : Bool → ℕ → Option ℕ → Type 0
IsNumber up requests_sent None = up ≡ false
IsNumber up requests_sent (Some number) = (up ≡ true) × (number ≡ requests_sent + 1)

-- the inbox that was opened
abbrev pub IsInbox : Bool → ℕ → List ℕ → Option Inbox → Type 0
IsInbox up inboxes_opened subject None = up ≡ false
IsInbox up inboxes_opened subject (Some inbox) = (up ≡ true) × (inbox ≡ record { number = inboxes_opened; subject = subject })

-- a request went out, or could not
pub record Sends (up : Bool) (before after : ℕ) (subject payload : List ℕ) (earlier later : List Output) (sent : Option ℕ) : Type 0 where
  pub number : IsNumber up before sent
  pub outputs : later ≡ earlier ++ requested subject payload sent
  pub requests_sent : after ≡ before + count_by is_request (requested subject payload sent)

-- an inbox was opened, or could not be
pub record Subscribes (up : Bool) (before after : ℕ) (subject : List ℕ) (earlier later : List Output) (opened : Option Inbox) : Type 0 where
  pub inbox : IsInbox up before subject opened
  pub outputs : later ≡ earlier ++ subscribed opened
  pub inboxes_opened : after ≡ before + count_by is_subscribe (subscribed opened)

-- a pull request is ready, where sends go through
abbrev pub IsPublishing : Bool → Reader → Option Output → Type 0
IsPublishing up reader None = up ≡ false
IsPublishing up reader (Some output) =
    (up ≡ true) × (output ≡ out.Publish (pull_subject reader.source) (Some reader.source.subject) (pull_body reader.pin reader.source.config))
