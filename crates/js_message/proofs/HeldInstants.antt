-- Which instants there are.
use Rattle.std.proofs.Common.{◌≡◌, ℤ, arith, Ok, Err}
use Rattle.std.proofs.lemmas.Int.{ints}
use Rattle.jiff.specs.Words.{IsTimestampNanos}
use Rattle.js_message.specs.Info.{instant_of}
use Rattle.js_message.specs.declared.info_error.InfoError.TheVariants.{Instant}

pub instant-held : (n : ℤ) → IsTimestampNanos n → instant_of n ≡ Ok n
instant-held n h = grind (arith, ints)

pub instant-refused : (n : ℤ) → (IsTimestampNanos n → ⊥) → instant_of n ≡ Err Instant
instant-refused n h = grind (arith, ints)
