-- Names of buckets.
use Rattle.std.specs.Prelude.{ℕ, List, Bool, not, ◌||◌, ◌&&◌, ◌==◌}
use Rattle.std.specs.List.{list_all}
use Rattle.std.specs.Char.{is_ascii_alphanumeric}
use Rattle.js_json_members.specs.Rows.{is_empty}

-- an ASCII letter, a digit, an underscore or a dash
abbrev pub is_bucket_byte : ℕ → Bool
is_bucket_byte b = is_ascii_alphanumeric b || b == 95 || b == 45

-- a name has a byte, and only such bytes
abbrev pub is_bucket_name : List ℕ → Bool
is_bucket_name name = not (is_empty name) && list_all is_bucket_byte name
