-- An inbox that was kept for a request, and what asking leaves of it.
use Rattle.std.proofs.Common.{◌≡◌, ℕ, sym, ◌∙◌, subst, inl, inr, Option, Some, None, Result, Ok, Err}
use Rattle.js_link.specs.Calls.{FailsToSend, RefusedSend}
use Rattle.js_link.specs.LinkView.{LinkView}
use Rattle.js_link.specs.declared.link.LinkError.{LinkError}
use Rattle.js_link.specs.declared.link.LinkError.TheVariants as link
use Rattle.js_ordered_stream.specs.Inbox.{ClosesInbox}
use Rattle.js_readers.specs.PullRequest.{AsksFrom, FailsToAsk, KeepsInbox, OpensFor, SendsFrom, kept_inbox, opening_fault}
use Rattle.js_readers.specs.declared.pull.request.PullRequest.{PullRequest}
use Rattle.js_readers.specs.declared.pull.request.OpenInbox.{OpenInbox}
use Rattle.js_readers.specs.declared.pull.request.OpenFault.{OpenFault}
use Rattle.js_readers.specs.declared.pull.request.OpenFault.TheVariants.{Subscribe, Pull, OutOfMemory}

-- none was kept, and the link refused to open one
pub none_opened : (e : LinkError) (kept left : Option OpenInbox) (request : PullRequest) (old new : LinkView) → kept ≡ None → RefusedSend e old new → left ≡ None
    → AsksFrom kept (Err (opening_fault e)) request left old new
none_opened link.Failed kept left request old new none refused gone = (none, refused, gone)
none_opened link.OutOfMemory kept left request old new none same gone = subst (λ (x : Option OpenInbox). KeepsInbox kept x old new) (sym gone) (none, same)

-- where none is left, closing what is left does nothing
same_link : (left : Option OpenInbox) (between new : LinkView) → left ≡ None → ClosesInbox (kept_inbox left) between new → new ≡ between
same_link left between new gone closes = subst (λ (x : Option OpenInbox). ClosesInbox (kept_inbox x) between new) gone closes

-- what is left is closed: so an inbox is opened and stays open only if the request went out
pub closed_after : (result : Result ℕ OpenFault) (request : PullRequest) (left : Option OpenInbox) (old between new : LinkView) → AsksFrom None result request left old between
    → ClosesInbox (kept_inbox left) between new → OpensFor result request old new
closed_after (Ok inbox) request left old between new (sends, gone) closes =
    subst (λ (v : LinkView). SendsFrom None inbox request old v) (sym (same_link left between new gone closes)) sends
closed_after (Err Subscribe) request left old between new (none, fails, gone) closes =
    subst (λ (v : LinkView). FailsToSend old v) (sym (same_link left between new gone closes)) fails
closed_after (Err Pull) request left old between new (fails, gone) closes =
    subst (λ (v : LinkView). FailsToAsk None old v) (sym (same_link left between new gone closes)) fails
closed_after (Err OutOfMemory) request None old between new (none, same) closes = inl (closes ∙ same)
closed_after (Err OutOfMemory) request (Some inbox) old between new opens closes =
    inr (record { inbox = inbox; opened = between; opens = opens; closes = closes })
