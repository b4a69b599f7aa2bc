-- The rows of a poll are fixed by what the link was before each of them, if it told what they asked for.
use Rattle.std.specs.Prelude.{◌≡◌, ◌≢◌, ℕ, List, [], ◌∷◌, Some, None, codes, ⊤}
use Rattle.js_base.specs.declared.message.Message.{Message}
use Rattle.js_link.specs.LinkView.{LinkView, Answered}
use Rattle.js_link.specs.Meets.{Meets}
use Rattle.js_link.specs.Memory.{new_view}
use Rattle.js_link.specs.declared.wish.Met.{Met}
use Rattle.js_link.specs.declared.wish.Wish.{Wish}
use Rattle.js_link.specs.declared.wish.Wish.TheVariants.{Publishes, Requests, OpensInbox, Reads, Awaits}
use Rattle.js_ordered_stream.specs.WorkedLink.{first_in}
use Rattle.js_ordered_table.specs.Poll.{Answer, IsMet, IsPoll, handed_by, poll_wish}
use Rattle.js_ordered_table.specs.Walk.{Position, Stride, step}
use Rattle.js_ordered_table.specs.declared.consumer.ReplayInput.{ReplayInput}

-- ---- a link that tells

-- the link tells what the row asks for: whether it is up, its next numbers, the buffer that is read, the reply that has come
abbrev pub TellsFor : Wish → LinkView → Type 0
TellsFor (Publishes subject reply payload) v = v.up ≢ None
TellsFor (Requests subject payload) v = (v.up ≢ None) × (v.numbers ≢ None)
TellsFor OpensInbox v = (v.up ≢ None) × (v.numbers ≢ None)
TellsFor (Reads inbox) v = v.buffer inbox ≢ None
TellsFor (Awaits request) v = v.status request ≡ Answered → v.reply request ≢ None
TellsFor wish v = ⊤

-- an inbox in which it counts no message tells none
abbrev pub IsCounted : LinkView → Type 0
IsCounted v = (inbox : ℕ) → v.count inbox ≡ 0 → first_in (v.buffer inbox) ≡ None

-- it tells whatever a row may ask for
abbrev pub TellsAll : LinkView → Type 0
TellsAll v = IsCounted v × ((wish : Wish) → TellsFor wish v)

some_told : (messages : List Message) → Some messages ≢ None
some_told messages e = cc

-- worked: a new link in memory tells what a row asks for that reads an inbox
worked_tells : (inbox : ℕ) → TellsFor (Reads inbox) (new_view (codes "_INBOX.t"))
worked_tells inbox = some_told []

-- ---- the rows of a poll

-- what the link was before each row
abbrev pub links_before : {V : Type 0} (g : ReplayInput) (now : ℕ) (meets : Wish → Met → V → V → Type 0) (strides : List Stride) (at : Position) (before after : V)
    → IsMet g now meets strides at before after → List V
links_before g now meets [] at before after met = []
links_before g now meets (stride ∷ strides) at before after met = before ∷ links_before g now meets strides (step g stride at).position met.1 after met.5

-- what it was before each row of a poll
abbrev pub links_of : {V : Type 0} (g : ReplayInput) (now : ℕ) (meets : Wish → Met → V → V → Type 0) (old new : Position) (before after : V) (answer : Answer)
    → IsPoll g meets now old new before after answer → List V
links_of g now meets old new before after answer poll = links_before g now meets poll.strides old before poll.between poll.met

-- and it told what each row asked for
abbrev pub TellsAlong : ReplayInput → List LinkView → List Stride → Position → Type 0
TellsAlong g (v ∷ views) (stride ∷ strides) at = IsCounted v × TellsFor (poll_wish g at) v × TellsAlong g views strides (step g stride at).position
TellsAlong g views strides at = ⊤

-- However a consumer is polled twice from one place at one moment: if each row of the one poll found the link as that row of the other did, and the link told
-- what the rows asked for, then both passed the same rows, and handed out the same.
abbrev pub FixesRows : ReplayInput → Type 0
FixesRows g =
    (now : ℕ) (old one two : Position) (before after start end : LinkView) (first second : Answer)
    (poll : IsPoll g Meets now old one before after first) (other : IsPoll g Meets now old two start end second)
    → links_of g now Meets old one before after first poll ≡ links_of g now Meets old two start end second other
    → TellsAlong g (links_of g now Meets old one before after first poll) poll.strides old
    → (poll.strides ≡ other.strides) × (handed_by first ≡ handed_by second)
