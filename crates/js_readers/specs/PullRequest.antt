-- An inbox is opened, and a request is sent for what comes to it.
use Rattle.std.specs.Prelude.{ℕ, ◌≡◌, ◌⊎◌, Option, Some, None, option_map, refl, List, Result, Ok, Err}
use Rattle.js_link.specs.LinkView.{LinkView}
use Rattle.js_link.specs.Calls.{OpensOwn, RefusedSend, Publishes, FailsToSend, Closes}
use Rattle.js_link.specs.declared.link.LinkError.{LinkError}
use Rattle.js_link.specs.declared.link.LinkError.TheVariants as link
use Rattle.js_link.specs.declared.sent.InboxId.{InboxId}
use Rattle.js_readers.specs.declared.pull.request.PullRequest.{PullRequest}
use Rattle.js_readers.specs.declared.pull.request.OpenInbox.{OpenInbox}
use Rattle.js_readers.specs.declared.pull.request.OpenFault.{OpenFault}
use Rattle.js_readers.specs.declared.pull.request.OpenFault.TheVariants.{Subscribe, Pull, OutOfMemory}

-- why no inbox was opened
abbrev pub opening_fault : LinkError → OpenFault
opening_fault link.Failed = Subscribe
opening_fault link.OutOfMemory = OutOfMemory

-- ---- an inbox for what is asked for

-- the inbox that was kept, or one that is opened now
abbrev pub HasInbox : Option OpenInbox → OpenInbox → LinkView → LinkView → Type 0
HasInbox (Some kept) inbox old new = (inbox ≡ kept) × (new ≡ old)
HasInbox None inbox old new = OpensOwn inbox.id.0 inbox.subject old new

-- worked: where one was kept, that one serves, and none is opened
worked_kept : (kept : OpenInbox) → (link : LinkView) → HasInbox (Some kept) kept link link
worked_kept kept link = (refl, refl)

-- there is one, or none was kept and the link refused to open one
abbrev pub FindsInbox : Option OpenInbox → Result OpenInbox LinkError → LinkView → LinkView → Type 0
FindsInbox kept (Ok inbox) old new = HasInbox kept inbox old new
FindsInbox kept (Err e) old new = (kept ≡ None) × RefusedSend e old new

-- the number of the inbox that is kept
abbrev pub kept_inbox : Option OpenInbox → Option InboxId
kept_inbox kept = option_map (λ inbox. inbox.id) kept

-- ---- the request

-- the inbox is open, and the request has gone out
pub record SendsFrom (kept : Option OpenInbox) (inbox : ℕ) (request : PullRequest) (old new : LinkView) : Type 0 where
  pub subject : List ℕ
  pub between : LinkView
  pub has : HasInbox kept (record { id = record { 0 = inbox }; subject = subject }) old between
  pub publishes : Publishes request.subject (Some subject) None request.payload between new

-- the inbox is closed, since nothing was sent: the link failed
pub record FailsToAsk (kept : Option OpenInbox) (old new : LinkView) : Type 0 where
  pub inbox : OpenInbox
  pub opened : LinkView
  pub failed : LinkView
  pub has : HasInbox kept inbox old opened
  pub fails : FailsToSend opened failed
  pub closes : Closes inbox.id.0 failed new

-- memory ran out: the inbox stands for the next try, or none could be opened
abbrev pub KeepsInbox : Option OpenInbox → Option OpenInbox → LinkView → LinkView → Type 0
KeepsInbox kept (Some inbox) old new = HasInbox kept inbox old new
KeepsInbox kept None old new = (kept ≡ None) × (new ≡ old)

-- what asking does with the inbox that was kept: what stands after it is kept for the next try
abbrev pub AsksFrom : Option OpenInbox → Result ℕ OpenFault → PullRequest → Option OpenInbox → LinkView → LinkView → Type 0
AsksFrom kept (Ok inbox) request left old new = SendsFrom kept inbox request old new × (left ≡ None)
AsksFrom kept (Err Subscribe) request left old new = (kept ≡ None) × FailsToSend old new × (left ≡ None)
AsksFrom kept (Err Pull) request left old new = FailsToAsk kept old new × (left ≡ None)
AsksFrom kept (Err OutOfMemory) request left old new = KeepsInbox kept left old new

-- memory ran out after an inbox was opened, and it is closed again
pub record LacksMemory (old new : LinkView) : Type 0 where
  pub inbox : OpenInbox
  pub opened : LinkView
  pub opens : HasInbox None inbox old opened
  pub closes : Closes inbox.id.0 opened new

-- what opening does: no inbox is kept, and none stays open where the request did not go out
abbrev pub OpensFor : Result ℕ OpenFault → PullRequest → LinkView → LinkView → Type 0
OpensFor (Ok inbox) request old new = SendsFrom None inbox request old new
OpensFor (Err Subscribe) request old new = FailsToSend old new
OpensFor (Err Pull) request old new = FailsToAsk None old new
OpensFor (Err OutOfMemory) request old new = (new ≡ old) ⊎ LacksMemory old new
