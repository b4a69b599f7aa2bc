-- Which texts are keys of a bucket.
use Rattle.std.specs.Prelude.{ℕ, List, Bool, ◌||◌, ◌&&◌, ◌==◌}
use Rattle.std.specs.List.{list_all}
use Rattle.std.specs.Char.{is_ascii_alphanumeric}
use Rattle.js_base.specs.Subject.{is_valid_subject}

-- an ASCII letter, a digit, a dash, a slash, an underscore, an equals sign or a dot
abbrev pub is_key_byte : ℕ → Bool
is_key_byte b = is_ascii_alphanumeric b || (b == 45 || b == 47 || b == 95 || b == 61 || b == 46)

-- a text that may be a subject, and has only such bytes
abbrev pub is_key : List ℕ → Bool
is_key key = is_valid_subject key && list_all is_key_byte key
