-- Reading one after another, as a loop does.
use Rattle.std.proofs.Common.{List, ◌++◌, Result, Ok}
use Rattle.js_json_members.specs.declared.error.ReadError.{ReadError}
use Rattle.js_json_members.specs.Member.{◌>>=◌}

-- the items that were read before, and those that are still read
abbrev pub after_items : {A : Type 0} → List A → Result (List A) ReadError → Result (List A) ReadError
after_items before reading = reading >>= λ xs. Ok (before ++ xs)
