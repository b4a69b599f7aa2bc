-- Numbers with a percent sign.
use Rattle.std.specs.Prelude.{ℕ, ◌==◌, List, [], ◌∷◌, Option, Ok, if◌then◌else◌}
use Rattle.js_base.specs.Numeral.{unsigned_of}
use Rattle.js_json_members.specs.declared.kinds.PercentText.{PercentText}
use Rattle.js_json_members.specs.Member.{◌>>=◌, Reads, named}

-- a text without the percent sign that may end it
abbrev pub without_percent : List ℕ → List ℕ
without_percent [] = []
without_percent (c ∷ []) = if c == 37 then [] else c ∷ []
without_percent (c ∷ d ∷ cs) = c ∷ without_percent (d ∷ cs)

-- a number up to 255, with at most one percent sign after it
unfoldable pub percent_of : List ℕ → Option ℕ
percent_of s = unsigned_of 8 (without_percent s)

-- a text of such a number
unfoldable pub percent : Reads PercentText
percent key d = named percent_of key d >>= λ n. Ok (record { 0 = n })

-- where there is none
abbrev pub no_percent : PercentText
no_percent = record { 0 = 0 }
