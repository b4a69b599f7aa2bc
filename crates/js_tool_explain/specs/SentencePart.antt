-- The parts of a sentence, and the line that they make.
use Rattle.std.specs.Prelude.{ℕ, zero, suc, ◌+◌, ◌*◌, ◌/◌, ◌%◌, List, [], ◌∷◌, ◌++◌, codes, decimal, flat_map, ◌==◌, if◌then◌else◌}
use Rattle.js_base.specs.Clock.{second}
use Rattle.js_tool_explain.specs.declared.sentence_part.Part.{Part}
use Rattle.js_tool_explain.specs.declared.sentence_part.Part.TheVariants as part

-- a part of a sentence
pub data Said : Type 0 where
  Text : (text : List ℕ) → Said
  Number : (number : ℕ) → Said
  Seconds : (nanoseconds : ℕ) → Said
  Count : (number : ℕ) (of : List ℕ) → Said

-- ---- seconds

-- the digits of a part of a second, at most so many, until nothing is left
abbrev pub digits : ℕ → ℕ → List ℕ
digits zero rest = []
digits (suc places) rest = if rest == 0 then [] else (48 + rest * 10 / second) ∷ digits places (rest * 10 % second)

-- behind a point, unless it is nothing
abbrev pub decimals : ℕ → List ℕ
decimals rest = if rest == 0 then [] else 46 ∷ digits 9 rest

-- nanoseconds, as seconds with as many decimals as they need
unfoldable pub seconds_text : ℕ → List ℕ
seconds_text nanoseconds = decimal (nanoseconds / second) ++ decimals (nanoseconds % second) ++ codes " s"

-- ---- parts

-- one thing or several
abbrev pub counted : ℕ → List ℕ → List ℕ
counted number of = decimal number ++ 32 ∷ of ++ (if number == 1 then [] else codes "s")

abbrev pub said_text : Said → List ℕ
said_text (Text text) = text
said_text (Number number) = decimal number
said_text (Seconds nanoseconds) = seconds_text nanoseconds
said_text (Count number of) = counted number of

-- a part that the code has
abbrev pub said_by : Part → Said
said_by (part.Text text) = Text text.now
said_by (part.Number number) = Number number
said_by (part.After number) = Number (number + 1)
said_by (part.Seconds nanoseconds) = Seconds nanoseconds
said_by (part.Count number of) = Count number of.now

-- a sentence that is said of a moment, on a line of its own
unfoldable pub line_text : ℕ → List Said → List ℕ
line_text at sentence = seconds_text at ++ codes ": " ++ flat_map said_text sentence ++ 10 ∷ []
