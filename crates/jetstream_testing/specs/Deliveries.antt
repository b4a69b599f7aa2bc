-- What is on its way after a delivery, by what happens to it; and which messages still wait for an acknowledgement.
use Rattle.std.specs.Prelude.{ℕ, ◌≡◌, ◌+◌, ◌-◌, ◌^◌, List, [], ◌∷◌, Option, Some, None, codes, min, refl}
use Rattle.js_base.specs.declared.message.Message.{Message}
use Rattle.js_base.specs.declared.subject.Subject.{Subject}
use Rattle.jetstream_testing.specs.declared.connection.InFlight.{InFlight}
use Rattle.jetstream_testing.specs.declared.faults.Fate.{Fate}
use Rattle.jetstream_testing.specs.declared.faults.Fate.TheVariants.{Arrives, Lost, Twice, Late}

-- a message on its way to a subject, which arrives at a moment
abbrev pub sent : Subject → Message → ℕ → InFlight
sent to message arrives = record { arrives = arrives; to = to; message = message }

-- It arrives now, never, twice, or so many nanoseconds later.
abbrev pub copies : Fate → Subject → Message → ℕ → List InFlight
copies Arrives to message now = sent to message now ∷ []
copies Lost to message now = []
copies Twice to message now = sent to message now ∷ sent to message now ∷ []
copies (Late by) to message now = sent to message (min (now + by) (2 ^ 64 - 1)) ∷ []
