-- Two calls, one after the other.
use Rattle.std.specs.Prelude.{ℕ, ◌≡◌, Option, Some, None, Result, Ok, Err}
use Rattle.js_base.specs.declared.turn.Turn.{Turn}
use Rattle.js_base.specs.declared.turn.Turn.TheVariants.{Pending, Ready, OutOfMemory}
use Rattle.js_link.specs.LinkView.{LinkView}
use Rattle.js_call.specs.declared.call_sequence.Then.{Then}
use Rattle.js_call.specs.declared.call_sequence.Then.TheVariants.{First, Second}

-- what a poll of a state does
abbrev pub Polls : Type 0 → Type 0 → Type 1
Polls S A = S → ℕ → Turn S A → LinkView → LinkView → Type 0

-- the answer, unless nothing was found
abbrev pub unless_absent : {T E : Type 0} → Result (Option T) E → Option (Result T E)
unless_absent (Ok (Some found)) = Some (Ok found)
unless_absent (Ok None) = None
unless_absent (Err error) = Some (Err error)

-- the second call is polled
abbrev pub SecondPolled : {A B D Y : Type 0} → Polls B Y → B → ℕ → Turn (Then A B D) Y → LinkView → LinkView → Type 0
SecondPolled polls second now (Pending (Second next)) old new = polls second now (Pending next) old new
SecondPolled polls second now (OutOfMemory (Second next)) old new = polls second now (OutOfMemory next) old new
SecondPolled polls second now (Ready answer) old new = polls second now (Ready answer) old new
SecondPolled polls second now (Pending (First f s d)) old new = ⊥
SecondPolled polls second now (OutOfMemory (First f s d)) old new = ⊥

-- where the first answer is not the last, the second call is polled at once
abbrev pub Decided : {A B D Y : Type 0} → Option Y → Polls B Y → B → ℕ → Turn (Then A B D) Y → LinkView → LinkView → Type 0
Decided (Some answer) polls second now turn old new = (turn ≡ Ready answer) × (new ≡ old)
Decided None polls second now turn old new = SecondPolled polls second now turn old new

-- the first call is ready, and its answer is decided on
abbrev pub FirstReady : {A B D X Y : Type 0} → Polls A X → Polls B Y → (D → X → Option Y) → A → B → D → ℕ → Turn (Then A B D) Y → LinkView → LinkView → Type 0
FirstReady {X = X} first_polls polls decides first second decision now turn old new =
    (answer : X) × (between : LinkView) × first_polls first now (Ready answer) old between × Decided (decides decision answer) polls second now turn between new

-- what a poll of two calls does
abbrev pub ThenPolled : {A B D X Y : Type 0} → Polls A X → Polls B Y → (D → X → Option Y) → Then A B D → ℕ → Turn (Then A B D) Y → LinkView → LinkView → Type 0
ThenPolled fp sp decides (First f s d) now (Pending (First g t e)) old new = fp f now (Pending g) old new × (t ≡ s) × (e ≡ d)
ThenPolled fp sp decides (First f s d) now (OutOfMemory (First g t e)) old new = fp f now (OutOfMemory g) old new × (t ≡ s) × (e ≡ d)
ThenPolled fp sp decides (First f s d) now (Pending (Second t)) old new = FirstReady fp sp decides f s d now (Pending (Second t)) old new
ThenPolled fp sp decides (First f s d) now (OutOfMemory (Second t)) old new = FirstReady fp sp decides f s d now (OutOfMemory (Second t)) old new
ThenPolled fp sp decides (First f s d) now (Ready answer) old new = FirstReady fp sp decides f s d now (Ready answer) old new
ThenPolled fp sp decides (Second s) now turn old new = SecondPolled sp s now turn old new
