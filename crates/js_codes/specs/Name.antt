-- Names of streams and consumers.
use Rattle.std.specs.Prelude.{ℕ, List, [], ◌∷◌, Bool, true, false, not, ◌||◌, ◌&&◌, ◌==◌}
use Rattle.std.specs.List.{list_all}
use Rattle.std.specs.Char.{is_ascii_whitespace}

-- no ASCII white space, and neither a dot nor a star nor a greater-than sign
abbrev pub is_name_byte : ℕ → Bool
is_name_byte b = not (is_ascii_whitespace b || b == 46 || b == 42 || b == 62)

-- whether nothing stands there
abbrev pub is_empty : List ℕ → Bool
is_empty [] = true
is_empty (b ∷ bs) = false

-- a name has a byte, and only such bytes
abbrev pub is_name : List ℕ → Bool
is_name name = not (is_empty name) && list_all is_name_byte name
