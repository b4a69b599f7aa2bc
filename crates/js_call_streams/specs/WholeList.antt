-- A list whose pages are honest is handed out whole.
use Rattle.std.specs.Prelude.{ℕ, ◌≡◌, ◌+◌, ◌<◌, ◌≤◌, false, None, List, [], ◌∷◌, ◌++◌, length, drop, reverse, Result, Ok, Err}
use Rattle.js_base.specs.declared.turn.Next.TheVariants as next
use Rattle.js_base.specs.declared.turn.Turn.TheVariants.{Pending, Ready, OutOfMemory}
use Rattle.js_link.specs.LinkView.{LinkView}
use Rattle.js_json_members.specs.Member.{Reads}
use Rattle.js_json_stream_bodies.specs.declared.stream.page.Page.{Page}
use Rattle.js_call.specs.declared.scope.ApiScope.{ApiScope}
use Rattle.js_call_streams.specs.declared.listing.Listing.{Listing}
use Rattle.js_call_streams.specs.Chain.{Chain}
use Rattle.js_call_streams.specs.Page.{Lists, items_of}
use Rattle.js_call_streams.specs.Listing.{Given, Heard, Left, Over, Unmade, Asked, Hears, fresh}

-- A page that an honest server gives at an offset: below the list's end a part of the list that begins there and has an item,
-- with the list's length as total; and nothing at its end or past it.
pub record IsHonest {A : Type 0} (whole : List A) (offset : ℕ) (page : Page A) : Type 0 where
  pub total : offset < length whole → page.total ≡ length whole
  pub part : offset < length whole → (rest : List A) × (drop offset whole ≡ items_of page.streams ++ rest)
  pub filled : offset < length whole → items_of page.streams ≡ [] → ⊥
  pub past : length whole ≤ offset → items_of page.streams ≡ []

-- if a page came, it is honest
abbrev pub HeardHonest : {A : Type 0} → List A → ℕ → Heard A → Type 0
HeardHonest whole offset (Asked (Ready (Ok page))) = IsHonest whole offset page
HeardHonest whole offset (Asked (Ready (Err error))) = Unit {0}
HeardHonest whole offset (Asked (Pending call)) = Unit {0}
HeardHonest whole offset (Asked (OutOfMemory call)) = Unit {0}
HeardHonest whole offset Left = Unit {0}
HeardHonest whole offset Over = Unit {0}
HeardHonest whole offset Unmade = Unit {0}

-- one poll: when, what it came to, and what it handed out
pub record Poll (A : Type 0) : Type 0 where
  pub now : ℕ
  pub heard : Heard A
  pub given : Given A

-- a list and the link that it is read over
pub record World (A : Type 0) : Type 0 where
  pub listing : Listing A
  pub link : LinkView

-- one poll of an honest server's list
pub record Passes {A : Type 0} (reads : Reads A) (lists : Lists) (whole : List A) (w : World A) (poll : Poll A) (v : World A) : Type 0 where
  pub hears : Hears reads lists poll.heard poll.now poll.given w.listing v.listing w.link v.link
  pub honest : HeardHonest whole w.listing.progress.offset poll.heard

-- it is not the end
abbrev pub IsNotEnd : {A : Type 0} → Given A → Type 0
IsNotEnd next.End = ⊥
IsNotEnd next.Pending = Unit {0}
IsNotEnd next.OutOfMemory = Unit {0}
IsNotEnd (next.Item item) = Unit {0}

-- the item that is handed out, if one is
abbrev pub item_of : {A : Type 0} → Given A → List A
item_of (next.Item (Ok item)) = item ∷ []
item_of (next.Item (Err error)) = []
item_of next.End = []
item_of next.Pending = []
item_of next.OutOfMemory = []

-- the items that these polls hand out
abbrev pub items : {A : Type 0} → List (Poll A) → List A
items [] = []
items (poll ∷ more) = item_of poll.given ++ items more

-- no poll of these answers the end
abbrev pub NoEnd : {A : Type 0} → List (Poll A) → Type 0
NoEnd [] = Unit {0}
NoEnd (poll ∷ more) = IsNotEnd poll.given × NoEnd more

-- the pages one after another
abbrev pub joined : {A : Type 0} → List (List A) → List A
joined [] = []
joined (page ∷ more) = page ++ joined more

-- the pages one after another, each from its end
abbrev pub from_ends : {A : Type 0} → List (List A) → List A
from_ends [] = []
from_ends (page ∷ more) = reverse page ++ from_ends more

-- the items come page after page, each page from its end, and the pages are the list
abbrev pub IsWhole : {A : Type 0} → List A → List A → Type 0
IsWhole {A = A} whole given = (pages : List (List A)) × (joined pages ≡ whole) × (given ≡ from_ends pages)

-- Up to the first end, the polls of an honest server's list hand out the list: page after page, each from its end.
abbrev pub HandsOutWhole : {A : Type 0} → Reads A → Lists → Type 0
HandsOutWhole {A = A} reads lists =
    (whole : List A) (scope : ApiScope) (old : LinkView) (v u : World A) (polls : List (Poll A)) (now : ℕ) (heard : Heard A) → length whole < 18446744073709551616 → Chain (Passes reads lists whole) (record { listing = fresh scope; link = old }) polls v → NoEnd polls → Passes reads lists whole v (record { now = now; heard = heard; given = next.End }) u → IsWhole whole (items polls)
