-- What a link that tells all gives to each wish, and what goes out at one.
use Rattle.std.specs.Prelude.{ℕ, List, [], ◌∷◌, Option, Some, None, if◌then◌else◌}
use Rattle.js_base.specs.declared.message.Message.{Message}
use Rattle.js_link.specs.RowInput.{RowInput}
use Rattle.js_link.specs.Wish.{Wish, Met, Nothing, OpensInbox, Watches, Publishes, Requests, Drops, Reads, Awaits, Unasked, GoneOut, Refused, Dropped, Requested, Opened, Empty, Took, Waiting, Gone, Got}
use Rattle.js_link.specs.declared.sent.Sent.{Sent}
use Rattle.js_link.specs.declared.sent.Sent.TheVariants as goes

-- whether sends go through, with the next numbers, and what is there
pub record Offer : Type 0 where
  pub passing : RowInput
  pub answers : ℕ → Option (Option Message)
  pub arrivals : ℕ → Option Message
  pub watch : Met

-- what came on an inbox
abbrev pub took : Option Message → Met
took None = Empty
took (Some message) = Took message

-- what became of a request
abbrev pub got : Option (Option Message) → Met
got None = Waiting
got (Some None) = Gone
got (Some (Some reply)) = Got reply

-- what a row meets there
abbrev pub given : Offer → Wish → Met
given x Nothing = Unasked
given x (Publishes subject reply payload) = if x.passing.up then GoneOut else Refused
given x (Requests subject payload) = if x.passing.up then Requested x.passing.request else Refused
given x OpensInbox = if x.passing.up then Opened x.passing.inbox x.passing.subject else Refused
given x (Drops inbox) = Dropped
given x (Reads inbox) = took (x.arrivals inbox)
given x (Awaits request) = got (x.answers request)
given x Watches = x.watch

-- what goes out
abbrev pub sends_of : Wish → RowInput → List Sent
sends_of (Publishes subject reply payload) p = if p.up then goes.Publish subject reply None payload ∷ [] else []
sends_of (Requests subject payload) p = if p.up then goes.Request p.request subject None payload ∷ [] else []
sends_of OpensInbox p = if p.up then goes.Subscribe p.inbox p.subject None ∷ [] else []
sends_of wish p = []
