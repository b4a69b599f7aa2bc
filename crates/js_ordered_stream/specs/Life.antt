-- The polls of a consumer from its opening on: what it yields in all of them is gapless. What the server sends is told by the order in which inboxes are opened,
-- so it is told for a link, too, that gives the number of a closed inbox again.
use Rattle.std.specs.Prelude.{◌≡◌, refl, ℕ, ◌+◌, Bool, true, false, ◌&&◌, List, [], ◌∷◌, IfSome, ⊤, if◌then◌else◌}
use Rattle.js_link.specs.declared.wish.Wish.{Wish}
use Rattle.js_link.specs.declared.wish.Wish.TheVariants.{OpensInbox}
use Rattle.js_link.specs.declared.wish.Met.{Met}
use Rattle.js_ordered_table.specs.declared.consumer.ReplayInput.{ReplayInput}
use Rattle.js_ordered_table.specs.Gapless.{Server, IsGapless, yields}
use Rattle.js_ordered_table.specs.Invariant.{IsHonestMatter, OpensAsAsked}
use Rattle.js_ordered_table.specs.Lifetime.{handed_out}
use Rattle.js_ordered_table.specs.Poll.{Answer, HasWholeLists, IsPoll, poll_wish}
use Rattle.js_ordered_table.specs.Texts.{configured_start}
use Rattle.js_ordered_table.specs.Walk.{Position, Stride, step}
use Rattle.js_ordered_table.specs.Worked.{server_gap}

-- ---- the place of an inbox

-- an inbox is asked for
abbrev pub asks_inbox : Wish → Bool
asks_inbox OpensInbox = true
asks_inbox wish = false

-- the next row opens an inbox: it asks for one, and the link opens it
abbrev pub opens_inbox : ReplayInput → Stride → Position → Bool
opens_inbox g stride at = asks_inbox (poll_wish g at) && stride.passing.up

-- The place of an inbox is how many inboxes were opened before it. This is the place of the one that was opened last, after the next row,
abbrev pub place_past : ReplayInput → ℕ → Stride → Position → ℕ
place_past g place stride at = if opens_inbox g stride at then place + 1 else place

-- and after a walk
abbrev pub place_after : ReplayInput → ℕ → List Stride → Position → ℕ
place_after g place [] at = place
place_after g place (stride ∷ strides) at = place_after g (place_past g place stride at) strides (step g stride at).position

-- ---- what the inbox with a place is sent

-- the start and the list of the place, whatever the number of the inbox is: the starts and the lists of the server are told by place
abbrev pub serving : Server → ℕ → Server
serving s place = record s { starts = λ inbox. s.starts place; lists = λ inbox. s.lists place }

-- worked: where a link gives the number 7 to the first inbox, and again to the second, inbox 7 is sent four messages, and then two from 3 on
worked_again : ((serving server_gap 0).lists 7 ≡ 1 ∷ 2 ∷ 3 ∷ 4 ∷ []) × ((serving server_gap 1).lists 7 ≡ 3 ∷ 4 ∷ []) × ((serving server_gap 1).starts 7 ≡ 3)
worked_again = (refl, refl, refl)

-- at each row, what is taken is a delivery to the inbox that was opened last, and an inbox that is opened starts where the recreation asked
abbrev pub IsServedWalk : ReplayInput → Server → ℕ → List Stride → Position → Type 0
IsServedWalk g s place [] at = ⊤
IsServedWalk g s place (stride ∷ strides) at =
    IsHonestMatter g.setup (serving s place) stride.matter
    × OpensAsAsked (serving s (place_past g place stride at)) at.consumer.phase (step g stride at).outputs
    × IsServedWalk g s (place_past g place stride at) strides (step g stride at).position

-- ---- all polls

-- polls that answer so, each from where the one before it stopped, at rows along which the server is honest; between two polls the link may change as it likes
abbrev pub AreServedPolls : {V : Type 0} → ReplayInput → (Wish → Met → V → V → Type 0) → Server → ℕ → Position → List Answer → Type 0
AreServedPolls g meets s place from [] = ⊤
AreServedPolls {V} g meets s place from (answer ∷ answers) =
    (now : ℕ) × (to : Position) × (before : V) × (after : V) × (poll : IsPoll g meets now from to before after answer)
    × IsServedWalk g s place poll.strides from × AreServedPolls g meets s (place_after g place poll.strides from) to answers

-- However it is polled from here on, with the inbox that is open as the first: what it yields is gapless where the server is honest,
-- and sends to the first inbox from the configured start on, where there is one.
abbrev pub IsGaplessLife : {V : Type 0} → ReplayInput → (Wish → Met → V → V → Type 0) → Position → Type 0
IsGaplessLife g meets from =
    (s : Server) → HasWholeLists g.setup s → IfSome (configured_start g.setup) (λ sequence. s.starts 0 ≡ sequence)
    → (answers : List Answer) → AreServedPolls g meets s 0 from answers → IsGapless s g.setup (yields (handed_out answers))
