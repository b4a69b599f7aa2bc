-- What the worked lives share: the server, and that worked polls are polls along which it is honest.
use Rattle.std.proofs.Common.{◌≡◌, ℕ, zero, suc, ◌<◌, ◌≤◌, List, [], ◌∷◌, length, slice_index, Option, refl, inr, ◌⊎◌, arith, Contains}
use Rattle.std.specs.Prelude.{codes}
use Rattle.std.specs.List.Sorted.{IsStrictlyIncreasing}
use Rattle.js_base.specs.declared.message.Message.{Message}
use Rattle.js_link.specs.Meets.{Meets}
use Rattle.js_ordered_stream.specs.Life.{AreServedPolls, IsServedWalk, place_after, serving}
use Rattle.js_ordered_stream.specs.WorkedLife.{AreWorkedPolls, Polled, Standing, after_poll, answers_of, before_poll, left, server, strides_of}
use Rattle.js_ordered_table.specs.Gapless.{IsHonestArrival, IsMatching, IsWhole, Server}
use Rattle.js_ordered_table.specs.Poll.{HasWholeLists, Lacks, Waits, Yields}
use Rattle.js_ordered_table.specs.Texts.{filters}
use Rattle.js_ordered_table.specs.Walk.{Stride}
use Rattle.js_ordered_table.specs.Worked.{count_from, numbered}
use Rattle.js_ordered_table.specs.declared.consumer.ReplayInput.{ReplayInput}
use Rattle.js_ordered_table.specs.declared.setup.OrderedSetup.{OrderedSetup}
use Rattle.js_ordered_stream.proofs.WorkedPolls.{IsComputed, delivers}
use Rattle.js_ordered_table.proofs.Honest.{count_whole}
use Rattle.js_ordered_table.proofs.OnLiterals.{replays_on_literals}

-- ---- the server

all_match : (setup : OrderedSetup) → filters setup ≡ [] → (sequence : ℕ) → 0 < sequence → sequence ≤ 3 → IsMatching setup server.log sequence
all_match setup none sequence above within =
    let whole : IsWhole setup server.log [] 1 (count_from 1 3) = count_whole setup server.log [] 1 3 none (omega arith) (omega arith) in
    choose sequence above within whole
  where
    choose : (sequence : ℕ) → 0 < sequence → sequence ≤ 3 → IsWhole setup server.log [] 1 (count_from 1 3) → IsMatching setup server.log sequence
    choose zero above within whole = absurd (omega arith)
    choose (suc zero) above within whole = whole.matching 0 (omega arith)
    choose (suc (suc zero)) above within whole = whole.matching 1 (omega arith)
    choose (suc (suc (suc zero))) above within whole = whole.matching 2 (omega arith)
    choose (suc (suc (suc (suc sequence)))) above within whole = absurd (omega arith)

left_whole : (setup : OrderedSetup) → filters setup ≡ [] → IsWhole setup server.log (2 ∷ []) 2 left
left_whole setup none = record { rising = rising; past_start = past_start; matching = matching; whole = whole }
  where
    rising : IsStrictlyIncreasing left
    rising zero inside = absurd (omega arith)
    rising (suc k) inside = absurd (omega arith)

    past_start : (k : ℕ) → k < length left → 2 ≤ slice_index left k
    past_start zero inside = omega arith
    past_start (suc k) inside = absurd (omega arith)

    matching : (k : ℕ) → k < length left → IsMatching setup server.log (slice_index left k)
    matching zero inside = all_match setup none 3 (omega arith) (omega arith)
    matching (suc k) inside = absurd (omega arith)

    whole : (q k : ℕ) → IsMatching setup server.log q → 2 ≤ q → k < length left → q < slice_index left k → Contains left q ⊎ Contains (2 ∷ []) q
    whole q zero match from inside below =
        let is : 2 ≡ q = omega (arith, from, below) in
        inr (0, omega arith, is)
    whole q (suc k) match from inside below = absurd (omega arith)

pub lists : (setup : OrderedSetup) → filters setup ≡ [] → HasWholeLists setup server
lists setup none zero = count_whole setup server.log (2 ∷ []) 1 3 none (omega arith) (omega arith)
lists setup none (suc place) = left_whole setup none

-- the three arrivals of both lives
pub first_delivered : (setup : OrderedSetup) → IsHonestArrival setup (serving server 0) (record { inbox = 0; message = numbered 1 1 (codes "a") })
unfolding replays_on_literals
first_delivered setup = delivers (serving server 0) setup 0 (numbered 1 1 (codes "a")) (record { sequence = 1; number = 1 }) refl (record { above = omega arith; within = omega arith; listed = refl; logged = refl })

pub third_delivered : (setup : OrderedSetup) → IsHonestArrival setup (serving server 0) (record { inbox = 0; message = numbered 3 3 (codes "c") })
unfolding replays_on_literals
third_delivered setup = delivers (serving server 0) setup 0 (numbered 3 3 (codes "c")) (record { sequence = 3; number = 3 }) refl (record { above = omega arith; within = omega arith; listed = refl; logged = refl })

pub again_delivered : (setup : OrderedSetup) (inbox : ℕ) → IsHonestArrival setup (serving server 1) (record { inbox = inbox; message = numbered 1 3 (codes "c") })
unfolding replays_on_literals
again_delivered setup inbox = delivers (serving server 1) setup inbox (numbered 1 3 (codes "c")) (record { sequence = 3; number = 1 }) refl (record { above = omega arith; within = omega arith; listed = refl; logged = refl })

-- ---- polls

pub yields_wait : (message : Message) → Yields message ≡ Waits → ⊥
yields_wait message e = cc

pub lacks_wait : Lacks ≡ Waits → ⊥
lacks_wait e = cc

pub some_rows : (stride : Stride) (strides : List Stride) → stride ∷ strides ≡ [] → ⊥
some_rows stride strides e = cc

-- worked polls are polls along which the server is honest
pub served_polls : (s : Server) (g : ReplayInput) (script : ℕ → Option Message) (place : ℕ) (x : Standing) (polls : List Polled) → AreWorkedPolls s g script place x polls
    → AreServedPolls g Meets s place x.position (answers_of polls)
served_polls s g script place x [] worked = tt
served_polls s g script place x (p ∷ polls) (poll, honest, more) = (
  p.now,
  (after_poll g script p x).position,
  (before_poll p x).view,
  (after_poll g script p x).view,
  poll,
  honest,
  served_polls s g script (place_after g place poll.strides (before_poll p x).position) (after_poll g script p x) polls more,
)

-- a poll is computed from where the one before it stopped
abbrev pub Computed : ReplayInput → (ℕ → Option Message) → Polled → Standing → Type 0
Computed g script p x = IsComputed g script p.now p.rows (before_poll p x) p.answer

-- the server is honest along its rows
abbrev pub Honest : ReplayInput → (ℕ → Option Message) → ℕ → Polled → Standing → Type 0
Honest g script place p x = IsServedWalk g server place (strides_of g script p.now p.rows (before_poll p x)) (before_poll p x).position
