-- What `parse` gives is what the definitions of `Number` read.
use Rattle.std.proofs.Common.{◌≡◌, ℕ, List, Result}
use Rattle.std.specs.Result.{result_ok}
use Rattle.std.specs.Str.Parse.{ParsesUnsigned}
use Rattle.js_base.proofs.Numeral.{unsigned_of-parse}
use Rattle.js_message.specs.Numbers.{u64_of}

pub u64_of-parse : {E : Type 0} (text : List ℕ) (r : Result ℕ E) → ParsesUnsigned 64 10 text r → result_ok r ≡ u64_of text
u64_of-parse text r h = unsigned_of-parse 64 text r h
