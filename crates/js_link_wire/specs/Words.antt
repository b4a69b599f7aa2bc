-- The words of a line.
use Rattle.std.specs.Prelude.{◌≡◌, ℕ, refl, ◌==◌, Bool, List, [], ◌∷◌, length, filter, nat_lt, codes, slice_index, Option, Some, None, if◌then◌else◌, Result, Ok, Err}
use Rattle.std.specs.List.{slice_split}
use Rattle.js_base.specs.Numeral.{unsigned_of}
use Rattle.js_link_wire.specs.declared.damage.Damage.TheVariants.{BadNumber}
use Rattle.js_link_wire.specs.declared.damage.Unread.{Unread}
use Rattle.js_link_wire.specs.declared.damage.Unread.TheVariants.{Damaged}

abbrev pub is_blank : ℕ → Bool
is_blank c = c == 32

-- a text, cut at every blank
abbrev pub parts : List ℕ → List (List ℕ)
parts text = slice_split is_blank text

-- the parts of what is left of a text, which may be used up
abbrev pub parts_left : Option (List ℕ) → List (List ℕ)
parts_left None = []
parts_left (Some text) = parts text

abbrev pub is_filled : List ℕ → Bool
is_filled part = nat_lt 0 (length part)

-- the words of a text: the parts that are not empty
abbrev pub words : List ℕ → List (List ℕ)
words text = filter is_filled (parts text)

-- the words of what is left of a text
abbrev pub words_left : Option (List ℕ) → List (List ℕ)
words_left text = filter is_filled (parts_left text)

blanks_do_not_count : words (codes " a  b ") ≡ codes "a" ∷ codes "b" ∷ []
blanks_do_not_count = refl

-- the number, where there is one
abbrev pub some_number : Option ℕ → Result ℕ Unread
some_number None = Err (Damaged BadNumber)
some_number (Some number) = Ok number

-- the number below 2 ^ 64 that decimal digits write, without a sign
unfoldable pub number_of : List ℕ → Result ℕ Unread
number_of word = if slice_index word 0 == 43 then Err (Damaged BadNumber) else some_number (unsigned_of 64 word)
