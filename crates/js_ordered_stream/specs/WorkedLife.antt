-- Worked lives: a pull and a push consumer from their opening on, polled over a link in memory. A message is lost on the way to the first inbox, it is removed
-- from the stream before the consumer is made anew, and one poll is refused its memory.
use Rattle.std.specs.Prelude.{◌≡◌, ℕ, zero, suc, List, [], ◌∷◌, Option, Some, None, codes, IfSome, ⊤}
use Rattle.js_base.specs.declared.message.Message.{Message}
use Rattle.js_link.specs.Calls.{Opens, OpensOwn}
use Rattle.js_link.specs.LinkView.{LinkView}
use Rattle.js_link.specs.Meets.{Meets}
use Rattle.js_link.specs.Memory.{inbox_subject, new_view}
use Rattle.js_link.specs.Offer.{given}
use Rattle.js_link.specs.Wish.{row_input}
use Rattle.js_link.specs.declared.sent.Sent.TheVariants.{Subscribe}
use Rattle.js_link.specs.declared.wish.Wish.TheVariants.{OpensInbox}
use Rattle.js_ordered_stream.specs.Life.{IsServedWalk, place_after, serving}
use Rattle.js_ordered_stream.specs.Opening.{listens_first, opened_at}
use Rattle.js_ordered_stream.specs.WorkedLink.{offer_of, view_after, with_arrival}
use Rattle.js_ordered_table.specs.declared.consumer.ReplayInput.{ReplayInput}
use Rattle.js_ordered_table.specs.declared.row.Row.TheVariants.{Arm}
use Rattle.js_ordered_table.specs.Gapless.{Server, IsGapless, IsHonestArrival, sequences, yields}
use Rattle.js_ordered_table.specs.Lifetime.{handed_out}
use Rattle.js_ordered_table.specs.Poll.{Answer, HasWholeLists, IsPoll, Lacks, Waits, Yields, poll_wish}
use Rattle.js_ordered_table.specs.Texts.{configured_start}
use Rattle.js_ordered_table.specs.Walk.{Position, Stride, step}
use Rattle.js_ordered_table.specs.Wishes.{matter_of}
use Rattle.js_ordered_table.specs.Worked.{by_push, count_from, info_text, log_of, numbered, ok, plain, pull_from, push_text}

-- ---- polls over the link

-- where a consumer and its link stand
pub record Standing : Type 0 where
  pub position : Position
  pub view : LinkView

-- how the next row is passed at a moment: with what the link gives to what it asks
abbrev pub stride_at : ReplayInput → ℕ → Standing → Stride
stride_at g now x =
    let wish = poll_wish g x.position in
    let met = given (offer_of x.view) wish in
    record { passing = row_input now met; matter = matter_of wish met }

-- one row is passed, at a link that has these replies
abbrev pub row_passed : ReplayInput → (ℕ → Option Message) → ℕ → Standing → Standing
row_passed g script now x = record { position = (step g (stride_at g now x) x.position).position; view = view_after script (poll_wish g x.position) x.view }

-- so many rows are passed
abbrev pub rows_passed : ReplayInput → (ℕ → Option Message) → ℕ → ℕ → Standing → Standing
rows_passed g script now zero x = x
rows_passed g script now (suc n) x = rows_passed g script now n (row_passed g script now x)

-- and how
abbrev pub strides_of : ReplayInput → (ℕ → Option Message) → ℕ → ℕ → Standing → List Stride
strides_of g script now zero x = []
strides_of g script now (suc n) x = stride_at g now x ∷ strides_of g script now n (row_passed g script now x)

-- what comes before a poll, by inbox
abbrev pub with_arrivals : List (ℕ × Message) → LinkView → LinkView
with_arrivals [] v = v
with_arrivals (arrival ∷ arrivals) v = with_arrivals arrivals (with_arrival arrival.0 arrival.1 v)

-- a poll: what comes before it, its moment, how many rows it passes, and what it answers
pub record Polled : Type 0 where
  pub arrivals : List (ℕ × Message)
  pub now : ℕ
  pub rows : ℕ
  pub answer : Answer

abbrev pub answers_of : List Polled → List Answer
answers_of [] = []
answers_of (p ∷ polls) = p.answer ∷ answers_of polls

-- where a poll begins
abbrev pub before_poll : Polled → Standing → Standing
before_poll p x = record { position = x.position; view = with_arrivals p.arrivals x.view }

-- where it ends
abbrev pub after_poll : ReplayInput → (ℕ → Option Message) → Polled → Standing → Standing
after_poll g script p x = rows_passed g script p.now p.rows (before_poll p x)

-- these are polls, each from where the one before it stopped, and the server is honest along their rows
abbrev pub AreWorkedPolls : Server → ReplayInput → (ℕ → Option Message) → ℕ → Standing → List Polled → Type 0
AreWorkedPolls s g script place x [] = ⊤
AreWorkedPolls s g script place x (p ∷ polls) =
    let from = before_poll p x in
    let to = after_poll g script p x in
    (poll : IsPoll g Meets p.now from.position to.position from.view to.view p.answer)
    × IsServedWalk g s place poll.strides from.position
    × AreWorkedPolls s g script (place_after g place poll.strides from.position) to polls

-- what a worked life shows: all that the promise of a life asks for holds of it, and what it yields, which has these sequences, is gapless
pub record IsWorkedLife (s : Server) (g : ReplayInput) (script : ℕ → Option Message) (from : Standing) (polls : List Polled) (yielded : List ℕ) : Type 0 where
  pub lists : HasWholeLists g.setup s
  pub first : IfSome (configured_start g.setup) (λ sequence. s.starts 0 ≡ sequence)
  pub polled : AreWorkedPolls s g script 0 from polls
  pub yields_these : sequences (yields (handed_out (answers_of polls))) ≡ yielded
  pub gapless : IsGapless s g.setup (yields (handed_out (answers_of polls)))

-- ---- the server and the link of both lives

-- what is left of the stream from 2 on
abbrev pub left : List ℕ
left = 3 ∷ []

-- It had three messages, and has removed the second. The first inbox was sent all three, and the next one what is left from 2 on.
abbrev pub server : Server
server = record { log = log_of (codes "a" ∷ codes "b" ∷ codes "c" ∷ []); removed = 2 ∷ []; starts = starts; lists = lists }
  where
    starts : ℕ → ℕ
    starts zero = 1
    starts (suc place) = 2

    lists : ℕ → List ℕ
    lists zero = count_from 1 3
    lists (suc place) = left

-- the first request, which deletes the old consumer, is answered so, and the second one by the info of the new one
abbrev pub replies : List ℕ → ℕ → Option Message
replies info zero = None
replies info (suc zero) = Some (plain ok)
replies info (suc (suc zero)) = Some (plain info)
replies info (suc (suc (suc number))) = None

-- the prefix of the link's inboxes
abbrev pub prefix : List ℕ
prefix = codes "_INBOX.t"

-- the first message of an inbox, and the third, whose second was lost
abbrev pub first_two : List (ℕ × Message)
first_two = (0, numbered 1 1 (codes "a")) ∷ (0, numbered 3 3 (codes "c")) ∷ []

-- Four polls. The first yields, and leaves the later message in the inbox.
abbrev pub first_poll : ℕ → Polled
first_poll rows = record { arrivals = first_two; now = 1; rows = rows; answer = Yields (numbered 1 1 (codes "a")) }

-- The second finds the gap, makes the consumer anew, and waits.
abbrev pub second_poll : ℕ → Polled
second_poll rows = record { arrivals = []; now = 2; rows = rows; answer = Waits }

-- The third is refused its memory.
abbrev pub third_poll : Polled
third_poll = record { arrivals = []; now = 3; rows = 0; answer = Lacks }

-- The last yields what is left of the stream, as the first message of the next inbox.
abbrev pub last_poll : ℕ → ℕ → Polled
last_poll inbox rows = record { arrivals = (inbox, numbered 1 3 (codes "c")) ∷ []; now = 4; rows = rows; answer = Yields (numbered 1 3 (codes "c")) }

-- with the number of the next inbox, and how many rows the three pass that have memory
abbrev pub four_polls : ℕ → ℕ → ℕ → ℕ → List Polled
four_polls inbox first second last = first_poll first ∷ second_poll second ∷ third_poll ∷ last_poll inbox last ∷ []

-- ---- pull

-- from sequence 1 on
abbrev pub pull_input : ReplayInput
pull_input = pull_from 1

-- a new link, on which an inbox was opened under the subject that the link has for it
abbrev pub pull_first : Standing
pull_first = record { position = opened_at pull_input 0 (inbox_subject prefix 0); view = view_after (λ number. None) OpensInbox (new_view prefix) }

-- its replies, and its polls
abbrev pub pull_replies : ℕ → Option Message
pull_replies = replies (info_text (codes "c1_1"))

abbrev pub pull_polls : List Polled
pull_polls = four_polls 1 6 21 3

-- ---- pull, over a link that gives the number of a closed inbox again

-- a new link that tells no numbers, and gives 0 to each inbox, and to each request
abbrev pub again_first : Standing
again_first = record { position = opened_at pull_input 0 []; view = view_after (λ number. None) OpensInbox (record (new_view prefix) { numbers = None }) }

-- each request is answered by the info of the new consumer, which is as good an answer to a deletion as any
abbrev pub again_replies : ℕ → Option Message
again_replies number = Some (plain (info_text (codes "c1_1")))

abbrev pub again_polls : List Polled
again_polls = four_polls 0 6 21 3

-- ---- push

-- from the first message on
abbrev pub push_input : ReplayInput
push_input = by_push

-- a new link, on which an inbox was opened under the subject that is delivered to
abbrev pub push_first : Standing
push_first = record {
  position = record { consumer = listens_first push_input 0; todo = Arm ∷ [] };
  view = record (view_after (λ number. None) OpensInbox (new_view prefix)) { sent = Some (Subscribe 0 (codes "d.in") None ∷ []) };
}

-- its replies, and its polls
abbrev pub push_replies : ℕ → Option Message
push_replies = replies (push_text (codes "c1_1"))

abbrev pub push_polls : List Polled
push_polls = four_polls 1 4 18 3

-- ---- how they begin, and what is not honest

-- each begins with the inbox that `open` opens on a new link
pub record AreOpened : Type 0 where
  pub pull : OpensOwn 0 (inbox_subject prefix 0) (new_view prefix) pull_first.view
  pub again : OpensOwn 0 [] (record (new_view prefix) { numbers = None }) again_first.view
  pub push : Opens 0 (codes "d.in") None (new_view prefix) push_first.view

-- what the first inbox was sent is no honest arrival once the second was opened, even if both have the same number
abbrev pub StaleIsRefused : Type 0
StaleIsRefused = IsHonestArrival pull_input.setup (serving server 1) (record { inbox = 0; message = numbered 3 3 (codes "c") }) → ⊥
