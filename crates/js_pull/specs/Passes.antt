-- What a function says that passes one row.
use Rattle.std.specs.Prelude.{ℕ, Bool, List, [], ◌∷◌, if◌then◌else◌}
use Rattle.js_link.specs.RowInput.{RowInput}
use Rattle.js_pull.specs.declared.reader.Reason.TheVariants.{Low}
use Rattle.js_pull.specs.declared.reader.Row.{Row}
use Rattle.js_pull.specs.declared.reader.Row.TheVariants.{Ask}

-- how a row is passed at a moment that opens nothing and makes no request
abbrev pub publishing : ℕ → Bool → RowInput
publishing now up = record { now = now; up = up; request = 0; inbox = 0; subject = [] }

-- a request follows, or nothing
abbrev pub asks_if : Bool → List Row
asks_if asks = if asks then Ask Low ∷ [] else []
