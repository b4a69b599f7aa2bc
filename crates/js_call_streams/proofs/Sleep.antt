-- A list that is left alone is what it was.
use Rattle.std.proofs.Common.{◌≡◌, ℕ, Bool, false, Option, Some, None, List, [], refl, sym, ◌∙◌, ap, subst}
use Rattle.js_base.specs.declared.turn.Next.TheVariants as next
use Rattle.js_base.specs.declared.turn.Turn.TheVariants.{Pending}
use Rattle.js_link.specs.LinkView.{LinkView}
use Rattle.js_json_members.specs.Member.{Reads}
use Rattle.js_call.specs.declared.call.Call.{Call}
use Rattle.js_call.specs.declared.open_request.OpenRequest.{OpenRequest}
use Rattle.js_call.specs.Wakes.{IsLeftAlone, Sleeps, call_waits_for}
use Rattle.js_call_streams.specs.declared.page.AskingPage.{AskingPage}
use Rattle.js_call_streams.specs.declared.listing.Listing.{Listing}
use Rattle.js_call_streams.specs.Page.{Lists, page_row}
use Rattle.js_call_streams.specs.Listing.{Come, Given, Takes, Turned}
use Rattle.js_call_streams.specs.Wakes.{ListSleeps, if_asking, page_waits_for}

-- the call is pending: the list is what it was
pending_same : {A : Type 0} → (given : Given A) (s u t : Listing A) (call : Call (AskingPage A)) → s.page ≡ Some call → u ≡ record s { page = None } → Turned (Pending call) given u t
    → (given ≡ next.Pending) × (t ≡ s)
pending_same {A = A} given s u t call page taken turned = (
  turned.0,
  turned.1 ∙ ap (λ (l : Listing A). record l { page = Some call }) taken ∙ ap (λ (p : Option (Call (AskingPage A))). record s { page = p }) (sym page),
)

by_page : {A : Type 0} → (reads : Reads A) (lists : Lists) (now : ℕ) (given : Given A) (s u t : Listing A) (call : Call (AskingPage A)) (come : Come A) (old new : LinkView)
    → (page : Option (Call (AskingPage A))) → s.page ≡ page → Takes lists page s call → u ≡ record s { page = None }
    → Sleeps (call_waits_for (page_row reads) call) now call come old new → Turned come given u t
    → IsLeftAlone (page_waits_for reads page) now old → (given ≡ next.Pending) × (t ≡ s) × (new ≡ old)
by_page reads lists now given s u t call come old new None is takes taken sleeps turned alone = absurd alone
by_page {A = A} reads lists now given s u t call come old new (Some open_call) is takes taken sleeps turned alone =
    let (pends, same) = sleeps (subst (λ (c : Call (AskingPage A)). IsLeftAlone (call_waits_for (page_row reads) c) now old) (sym takes) alone) in
    let (given_is, list) = pending_same given s u t call (is ∙ ap Some (sym takes)) taken (subst (λ (c : Come A). Turned c given u t) pends turned) in (
      given_is,
      list,
      same,
    )

-- a list whose page is asked for
pub asked_sleeps : {A : Type 0} → (reads : Reads A) (lists : Lists) (now : ℕ) (given : Given A) (s u t : Listing A) (call : Call (AskingPage A)) (come : Come A) (old new : LinkView)
    → s.progress.rest ≡ [] → s.progress.is_last ≡ false → Takes lists s.page s call × (u ≡ record s { page = None })
    → Sleeps (call_waits_for (page_row reads) call) now call come old new → Turned come given u t → ListSleeps reads now given s t old new
asked_sleeps reads lists now given s u t call come old new empty more takes sleeps turned = λ alone.
    by_page reads lists now given s u t call come old new s.page refl takes.0 takes.1 sleeps turned
    (subst (λ (sent : Option OpenRequest). IsLeftAlone sent now old) (asking s.progress.rest s.progress.is_last (page_waits_for reads s.page) empty more) alone)
  where
    asking : {A : Type 0} → (rest : List A) (is_last : Bool) (sent : Option OpenRequest) → rest ≡ [] → is_last ≡ false → if_asking rest is_last sent ≡ sent
    asking rest is_last sent empty more = rw (empty, more) refl
