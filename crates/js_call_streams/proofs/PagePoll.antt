-- A poll that asks for a page.
use Rattle.std.proofs.Common.{◌≡◌, ℕ, true, false, None, List, [], subst}
use Rattle.js_link.specs.LinkView.{LinkView}
use Rattle.js_json_members.specs.Member.{Reads}
use Rattle.js_call.specs.declared.call.Call.{Call}
use Rattle.js_call.specs.Call.{Polled}
use Rattle.js_call_streams.specs.declared.page.AskingPage.{AskingPage}
use Rattle.js_call_streams.specs.declared.listing.Listing.{Listing}
use Rattle.js_call_streams.specs.Page.{Lists, page_row}
use Rattle.js_call_streams.specs.Listing.{Given, Come, Asked, Turned, Takes, AsksFor, Polls}

-- a poll that asks for a page
pub asks : {A : Type 0} → (reads : Reads A) (lists : Lists) (now : ℕ) (given : Given A) (s u t : Listing A) (call : Call (AskingPage A)) (come : Come A) (old new : LinkView) → s.progress.rest ≡ [] → s.progress.is_last ≡ false → Takes lists s.page s call × (u ≡ record s { page = None }) → Polled (page_row reads) call now come old new → Turned come given u t → Polls reads lists now given s t old new
asks reads lists now given s u t call come old new empty more is polled turned = (
  Asked come,
  (
    empty,
    more,
    record {
      call = call;
      takes = is.0;
      polled = polled;
      turned = subst (λ z. Turned come given z t) is.1 turned;
    },
  ),
)
