-- Worked examples, which the definitions compute, and the bodies that they refuse.
use Rattle.std.specs.Prelude.{◌≡◌, ℕ, List, [], ◌∷◌, Some, None, refl, codes, take}
use Rattle.js_base.specs.declared.message.Entry.{Entry}
use Rattle.js_event_log.specs.Mirror.{Mirrored, before, message, hole, beyond, slot, last_sequence, at_or_past}
use Rattle.js_event_log.specs.MirrorHoles.{AreHoles}
use Rattle.js_event_log.specs.MirrorMerge.{IsMerged}
use Rattle.js_event_log.specs.MirrorJoin.{lacking, joined}

abbrev entry : ℕ → List ℕ → Entry
entry sequence payload = record { subject = codes "a"; sequence = sequence; payload = payload }

-- messages 1, 2 and 5
abbrev mirror : Mirrored
mirror = record { start = 1; entries = entry 1 (codes "1") ∷ entry 2 (codes "2") ∷ entry 5 (codes "5") ∷ [] }

below : slot mirror 0 ≡ before
below = refl

at_two : slot mirror 2 ≡ message (entry 2 (codes "2"))
at_two = refl

at_three : slot mirror 3 ≡ hole
at_three = refl

above : slot mirror 6 ≡ beyond
above = refl

-- without an entry the last sequence is the one before the start
last_of_none : last_sequence (record { start = 7; entries = [] }) ≡ 6
last_of_none = refl

-- from a hole on, the next entry is served
from_three : take 1 (at_or_past 3 mirror.entries) ≡ entry 5 (codes "5") ∷ []
from_three = refl

-- a body that answers no holes is refused: 3 is one
some_holes : AreHoles mirror [] → ⊥
some_holes holes = holes.all 3 refl

-- so is one that answers them one by one: a range that ends at 3 is not the longest
not_one_by_one : AreHoles mirror ((3, 3) ∷ (4, 4) ∷ []) → ⊥
not_one_by_one holes = holes.longest.0.behind refl

abbrev first : Mirrored
first = record { start = 1; entries = entry 1 (codes "1") ∷ entry 5 (codes "5") ∷ [] }

abbrev second : Mirrored
second = record { start = 1; entries = entry 2 (codes "2") ∷ [] }

-- joined, they have 1, 2 and 5
three : joined first.entries (lacking first.entries second.entries) ≡ mirror.entries
three = refl

-- a body that drops the other's entries is refused: 2 stands where either had it
other_stays : IsMerged first second first → ⊥
other_stays merged = let dropped : None ≡ Some (entry 2 (codes "2")) = merged.entries 2 in absurd (cc)
