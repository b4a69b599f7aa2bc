-- Why an entry was applied or not.
use Rattle.std.specs.Prelude.{◌≡◌, ℕ, ◌<◌, ◌≤◌, List, ◌++◌, Result, Ok, Err, codes, decimal}
use Rattle.js_event_log.specs.declared.projection.error.ApplyError.{ApplyError}
use Rattle.js_event_log.specs.declared.projection.error.ApplyError.TheVariants.{NotRising, OutOfMemory}

-- `NotRising` comes exactly where the sequence is at or below the last one, and carries that one
abbrev pub HasCause : ℕ → ℕ → Result (Unit {0}) ApplyError → Type 0
HasCause last sequence (Ok done) = last < sequence
HasCause last sequence (Err (NotRising carried)) = (sequence ≤ last) × (carried ≡ last)
HasCause last sequence (Err OutOfMemory) = last < sequence

-- what an error prints
abbrev pub error_text : ApplyError → List ℕ
error_text (NotRising last) = codes "the sequence is not above " ++ decimal last
error_text OutOfMemory = codes "out of memory"
