-- What a list waits for: the answer to the request of its page. Before it, and before its time is over, a poll changes nothing.
use Rattle.std.specs.Prelude.{ℕ, ◌≡◌, ⊤, Bool, true, false, Option, Some, None, List, [], ◌∷◌}
use Rattle.js_base.specs.declared.turn.Next.TheVariants as next
use Rattle.js_link.specs.LinkView.{LinkView}
use Rattle.js_json_members.specs.Member.{Reads}
use Rattle.js_call.specs.declared.call.Call.{Call}
use Rattle.js_call.specs.declared.open_request.OpenRequest.{OpenRequest}
use Rattle.js_call.specs.Wakes.{IsLeftAlone, IsSent, call_waits_for}
use Rattle.js_call_streams.specs.declared.page.AskingPage.{AskingPage}
use Rattle.js_call_streams.specs.declared.listing.Listing.{Listing}
use Rattle.js_call_streams.specs.Page.{page_row}
use Rattle.js_call_streams.specs.Listing.{Given}

-- what the call for a page waits for, where one is under way
abbrev pub page_waits_for : {A : Type 0} → Reads A → Option (Call (AskingPage A)) → Option OpenRequest
page_waits_for reads None = None
page_waits_for reads (Some call) = call_waits_for (page_row reads) call

-- a list asks where no item is left to hand out, and the last page has not come
abbrev pub if_asking : {A : Type 0} → List A → Bool → Option OpenRequest → Option OpenRequest
if_asking (item ∷ rest) is_last sent = None
if_asking [] true sent = None
if_asking [] false sent = sent

-- the request whose answer a list waits for
abbrev pub list_waits_for : {A : Type 0} → Reads A → Listing A → Option OpenRequest
list_waits_for reads s = if_asking s.progress.rest s.progress.is_last (page_waits_for reads s.page)

-- a list that is left alone is pending, and neither it nor the link is changed
abbrev pub ListSleeps : {A : Type 0} → Reads A → ℕ → Given A → Listing A → Listing A → LinkView → LinkView → Type 0
ListSleeps reads now given s t old new = IsLeftAlone (list_waits_for reads s) now old → (given ≡ next.Pending) × (t ≡ s) × (new ≡ old)

-- a list that is pending waits for a request
abbrev pub ListPends : {A : Type 0} → Reads A → Given A → Listing A → Type 0
ListPends reads next.Pending t = IsSent (list_waits_for reads t)
ListPends reads (next.Item item) t = ⊤
ListPends reads next.End t = ⊤
ListPends reads next.OutOfMemory t = ⊤
