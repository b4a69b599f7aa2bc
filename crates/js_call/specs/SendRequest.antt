-- A request whose answer is not waited for.
use Rattle.std.specs.Prelude.{ℕ, ◌≡◌, ◌⊎◌, Option, Some, None, List, Result, Ok, Err}
use Rattle.js_base.specs.declared.subject.Subject.{Subject}
use Rattle.js_link.specs.LinkView.{LinkView, HasRisen, past_fresh}
use Rattle.js_link.specs.Calls.{NamesOf, Publishes}
use Rattle.js_link.specs.declared.link.LinkError.{LinkError}
use Rattle.js_link.specs.declared.link.LinkError.TheVariants.{Failed}
use Rattle.js_link.specs.declared.link.LinkError.TheVariants as link
use Rattle.js_call.specs.declared.error.SendError.{SendError}
use Rattle.js_call.specs.declared.error.SendError.TheVariants.{LinkFailed, OutOfMemory}
use Rattle.js_call.specs.declared.raw_request.RawRequest.{RawRequest}
use Rattle.js_call.specs.declared.scope.ApiScope.{ApiScope}
use Rattle.js_call.specs.Scope.{under, body_of}

-- why nothing was sent
abbrev pub sent_error : LinkError → SendError
sent_error Failed = LinkFailed
sent_error link.OutOfMemory = OutOfMemory

-- an answer goes to the inbox that was named, or else to a fresh subject
abbrev pub RepliesOf : Result Subject LinkError → Option (List ℕ) → LinkView → LinkView → Type 0
RepliesOf (Ok reply) (Some inbox) old new = (reply ≡ inbox) × (new ≡ old)
RepliesOf (Err e) (Some inbox) old new = ⊥
RepliesOf reply None old new = NamesOf reply old new

-- the request was published under the prefix, with the subject to which its answer goes
pub record SendsRequestTo (reply : List ℕ) (scope : ApiScope) (subject : List ℕ) (request : RawRequest) (old new : LinkView) : Type 0 where
  pub between : LinkView
  pub names : RepliesOf (Ok reply) request.inbox old between
  pub publishes : Publishes (under scope.prefix subject) (Some reply) request.headers (body_of request.payload) between new

-- nothing has changed, but that one fresh subject may have been named, and that only where the request names no inbox
abbrev pub NamesAtMostOne : Option (List ℕ) → LinkView → LinkView → Type 0
NamesAtMostOne (Some inbox) old new = new ≡ old
NamesAtMostOne None old new = (new ≡ old) ⊎ (new ≡ record old { numbers = past_fresh old.numbers })

-- nothing was sent: the link failed, and has changed nothing but the count of its failures and the fresh subject that comes next
pub record SendFails (inbox : Option (List ℕ)) (old new : LinkView) : Type 0 where
  pub risen : HasRisen old.faults new.faults
  pub same : NamesAtMostOne inbox (record old { faults = new.faults }) new

-- nothing was sent, for this reason
abbrev pub RefusesRequest : SendError → Option (List ℕ) → LinkView → LinkView → Type 0
RefusesRequest LinkFailed inbox old new = SendFails inbox old new
RefusesRequest OutOfMemory inbox old new = NamesAtMostOne inbox old new

-- what `send_request` does
abbrev pub SendsRequest : Result (Unit {0}) SendError → ApiScope → List ℕ → RawRequest → LinkView → LinkView → Type 0
SendsRequest (Ok _) scope subject request old new = (reply : List ℕ) × SendsRequestTo reply scope subject request old new
SendsRequest (Err e) scope subject request old new = RefusesRequest e request.inbox old new
