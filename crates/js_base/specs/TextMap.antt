-- Texts by name.
use Rattle.std.specs.Prelude.{ℕ, List, String, map, string_bytes}
use Rattle.std.specs.declared.alloc.Global.{Global}

-- strings by name, as texts by name
abbrev pub bytes_of : List (String Global × String Global) → List (List ℕ × List ℕ)
bytes_of strings = map (λ entry. (string_bytes entry.0, string_bytes entry.1)) strings
