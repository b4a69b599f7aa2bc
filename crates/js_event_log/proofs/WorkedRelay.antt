-- Worked examples, which the definitions compute, and the bodies that they refuse.
use Rattle.std.specs.Prelude.{◌≡◌, ℕ, List, [], ◌∷◌, refl, codes}
use Rattle.std.specs.Fmt.{digits}
use Rattle.js_base.specs.declared.message.Entry as base
use Rattle.js_event_log.specs.Events.{reply, arrival, relayed}

abbrev entry : ℕ → List ℕ → base.Entry
entry sequence payload = record { subject = codes "a.x"; sequence = sequence; payload = payload }

-- the reply names the entry's sequence and the number of the arrival
second_reply : reply (codes "events") (codes "c1") 5 2 ≡ codes "$JS.ACK.events.c1.1.5.2.0.0"
unfolding digits
second_reply = refl

abbrev entries : List base.Entry
entries = entry 1 (codes "1") ∷ entry 5 (codes "5") ∷ []

-- each arrives at the moment of its number
two : relayed (codes "events") (codes "c1") 1 entries ≡ arrival (codes "events") (codes "c1") 1 (entry 1 (codes "1")) ∷ arrival (codes "events") (codes "c1") 2 (entry 5 (codes "5")) ∷ []
two = refl

-- a body that leaves one out is refused
none_left_out : relayed (codes "events") (codes "c1") 1 entries ≡ arrival (codes "events") (codes "c1") 1 (entry 1 (codes "1")) ∷ [] → ⊥
none_left_out same = absurd (cc)
