-- The polls of a consumer from its opening on: what it yields in all of them is gapless.
use Rattle.std.specs.Prelude.{◌≡◌, ℕ, List, [], ◌∷◌, ◌++◌, IfSome, ⊤}
use Rattle.js_link.specs.declared.wish.Wish.{Wish}
use Rattle.js_link.specs.declared.wish.Met.{Met}
use Rattle.js_ordered_table.specs.declared.consumer.ReplayInput.{ReplayInput}
use Rattle.js_ordered_table.specs.declared.consumer.Phase.{Phase}
use Rattle.js_ordered_table.specs.declared.consumer.Phase.TheVariants.{Pulls, Pushes}
use Rattle.js_ordered_table.specs.declared.run.Output.{Output}
use Rattle.js_ordered_table.specs.declared.setup.OrderedSetup.{OrderedSetup}
use Rattle.js_ordered_table.specs.Gapless.{Server, IsGapless, yields}
use Rattle.js_ordered_table.specs.Texts.{configured_start}
use Rattle.js_ordered_table.specs.Walk.{Position, IsHonestWalk}
use Rattle.js_ordered_table.specs.Poll.{Answer, HasWholeLists, IsPoll, handed_by}

-- what polls hand out that answer so, in order
abbrev pub handed_out : List Answer → List Output
handed_out [] = []
handed_out (answer ∷ answers) = handed_by answer ++ handed_out answers

-- polls that answer so, each from where the one before it stopped, at rows along which the server is honest; between two polls the link may change as it likes
abbrev pub ArePolls : {V : Type 0} → ReplayInput → (Wish → Met → V → V → Type 0) → Server → Position → List Answer → Type 0
ArePolls g meets s from [] = ⊤
ArePolls {V} g meets s from (answer ∷ answers) =
    (now : ℕ) × (to : Position) × (before : V) × (after : V) × (poll : IsPoll g meets now from to before after answer)
    × IsHonestWalk g s poll.strides from × ArePolls g meets s to answers

-- the server delivers to the inbox that is read from the configured start on, where there is one
abbrev pub StartsAt : OrderedSetup → Server → Phase → Type 0
StartsAt setup s (Pulls reader) = IfSome (configured_start setup) (λ sequence. s.starts reader.source.inbox ≡ sequence)
StartsAt setup s (Pushes inbox heartbeat_timer) = IfSome (configured_start setup) (λ sequence. s.starts inbox ≡ sequence)
StartsAt setup s phase = ⊤

-- however it is polled from here on, what it yields is gapless where the server is honest
abbrev pub IsGaplessFrom : {V : Type 0} → ReplayInput → (Wish → Met → V → V → Type 0) → Position → Type 0
IsGaplessFrom g meets from =
    (s : Server) → HasWholeLists g.setup s → StartsAt g.setup s from.consumer.phase → (answers : List Answer) → ArePolls g meets s from answers
    → IsGapless s g.setup (yields (handed_out answers))
