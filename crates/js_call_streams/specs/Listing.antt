-- A list of the API, poll by poll.
use Rattle.std.specs.Prelude.{ℕ, ◌≡◌, ◌+◌, min, Bool, true, false, nat_le, Option, Some, None, List, [], ◌∷◌, ◌++◌, length, Result, Ok, Err}
use Rattle.js_base.specs.declared.error.Error.{Error}
use Rattle.js_base.specs.declared.turn.Next.{Next}
use Rattle.js_base.specs.declared.turn.Next.TheVariants as next
use Rattle.js_base.specs.declared.turn.Turn.{Turn}
use Rattle.js_base.specs.declared.turn.Turn.TheVariants.{Pending, Ready, OutOfMemory}
use Rattle.js_link.specs.LinkView.{LinkView}
use Rattle.js_json_members.specs.Member.{Reads}
use Rattle.js_json_stream_bodies.specs.declared.stream.page.Page.{Page}
use Rattle.js_call.specs.declared.call.Call.{Call}
use Rattle.js_call.specs.declared.error.RequestErrorKind.{RequestErrorKind}
use Rattle.js_call.specs.declared.scope.ApiScope.{ApiScope}
use Rattle.js_call.specs.Call.{Polled}
use Rattle.js_call_streams.specs.declared.page.AskingPage.{AskingPage}
use Rattle.js_call_streams.specs.declared.progress.Progress.{Progress}
use Rattle.js_call_streams.specs.declared.listing.Listing.{Listing}
use Rattle.js_call_streams.specs.Page.{Lists, items_of, page_row, AsksPage}

-- what a poll hands out
abbrev pub Given : Type 0 → Type 0
Given A = Next (Result A (Error RequestErrorKind))

-- what the request for a page comes to
abbrev pub Come : Type 0 → Type 0
Come A = Turn (Call (AskingPage A)) (Result (Page A) (Error RequestErrorKind))

-- before the first page
abbrev pub fresh_progress : {A : Type 0} → Progress A
fresh_progress = record { rest = []; offset = 0; is_last = false }

-- a list of which nothing was asked for
abbrev pub fresh : {A : Type 0} → ApiScope → Listing A
fresh scope = record { scope = scope; progress = fresh_progress; page = None }

-- a page moves the offset by its length, and is the last where it brings it to the total or past it
abbrev pub loaded : {A : Type 0} → Page A → Progress A → Progress A
loaded page l =
    let offset = min (l.offset + length (items_of page.streams)) 18446744073709551615 in
    record { rest = items_of page.streams; offset = offset; is_last = nat_le page.total offset }

-- the last item that is left is handed out
abbrev pub HandsOut : {A : Type 0} → Given A → Progress A → Progress A → Type 0
HandsOut (next.Item (Ok item)) l m = (m ≡ record l { rest = m.rest }) × (l.rest ≡ m.rest ++ item ∷ [])
HandsOut next.End l m = (m ≡ l) × (l.rest ≡ [])
HandsOut (next.Item (Err error)) l m = ⊥
HandsOut next.Pending l m = ⊥
HandsOut next.OutOfMemory l m = ⊥

-- what is made of what the page's request came to: after an error the page is not there and will be asked for again
abbrev pub Turned : {A : Type 0} → Come A → Given A → Listing A → Listing A → Type 0
Turned (Pending call) given s t = (given ≡ next.Pending) × (t ≡ record s { page = Some call })
Turned (OutOfMemory call) given s t = (given ≡ next.OutOfMemory) × (t ≡ record s { page = Some call })
Turned (Ready (Err error)) given s t = (given ≡ next.Item (Err error)) × (t ≡ record s { page = None })
Turned (Ready (Ok page)) given s t = HandsOut given (loaded page s.progress) t.progress × (t ≡ record s { progress = t.progress; page = None })

-- the request that is open, and else a new one at the offset
abbrev pub Takes : {A : Type 0} → Lists → Option (Call (AskingPage A)) → Listing A → Call (AskingPage A) → Type 0
Takes lists (Some open_call) s call = call ≡ open_call
Takes lists None s call = AsksPage lists s.scope s.progress.offset call

-- the request of a page is polled, and comes to this
pub record AsksFor {A : Type 0} (reads : Reads A) (lists : Lists) (come : Come A) (now : ℕ) (given : Given A) (s t : Listing A) (old new : LinkView) : Type 0 where
  pub call : Call (AskingPage A)
  pub takes : Takes lists s.page s call
  pub polled : Polled (page_row reads) call now come old new
  pub turned : Turned come given (record s { page = None }) t

-- What a poll can come to: an item that was left, the end, no memory for a request, or what the page's request came to.
pub data Heard (A : Type 0) : Type 0 where
  Left : Heard A
  Over : Heard A
  Unmade : Heard A
  Asked : Come A → Heard A

-- what a poll does that comes to this
abbrev pub Hears : {A : Type 0} → Reads A → Lists → Heard A → ℕ → Given A → Listing A → Listing A → LinkView → LinkView → Type 0
Hears reads lists Left now given s t old new =
    (s.progress.rest ≡ [] → ⊥) × HandsOut given s.progress t.progress × (t ≡ record s { progress = t.progress }) × (new ≡ old)
Hears reads lists Over now given s t old new =
    (s.progress.rest ≡ []) × (s.progress.is_last ≡ true) × (given ≡ next.End) × (t ≡ s) × (new ≡ old)
Hears reads lists Unmade now given s t old new =
    (s.progress.rest ≡ []) × (s.progress.is_last ≡ false) × (given ≡ next.OutOfMemory) × (t ≡ s) × (new ≡ old)
Hears reads lists (Asked come) now given s t old new =
    (s.progress.rest ≡ []) × (s.progress.is_last ≡ false) × AsksFor reads lists come now given s t old new

-- what a poll does
abbrev pub Polls : {A : Type 0} → Reads A → Lists → ℕ → Given A → Listing A → Listing A → LinkView → LinkView → Type 0
Polls {A = A} reads lists now given s t old new = (heard : Heard A) × Hears reads lists heard now given s t old new
