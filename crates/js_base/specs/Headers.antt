-- Looking up headers.
use Rattle.std.specs.Prelude.{ℕ, Bool, ◌==◌, ◌||◌, ◌&&◌, ◌+◌, ◌-◌, ◌^◌, List, [], ◌∷◌, ◌++◌, length, map, filter, sum_by, min, not, reverse, Option, Some, None, option_map, if◌then◌else◌}
use Rattle.std.specs.List.{find, list_all}
use Rattle.std.specs.Str.{bytes_eq}
use Rattle.js_base.specs.declared.headers.Header.{Header}

-- the first value of a name
abbrev pub first_value : List ℕ → List Header → Option (List ℕ)
first_value name [] = None
first_value name (header ∷ headers) = if bytes_eq name header.name then Some header.value else first_value name headers

-- the value of the first header that has the name
abbrev pub first_found : List ℕ → List Header → Option (List ℕ)
first_found name headers = option_map (λ header. header.value) (find (λ header. bytes_eq name header.name) headers)

-- the last value of a name
abbrev pub last_value : List ℕ → List Header → Option (List ℕ)
last_value name headers = first_value name (reverse headers)

-- no headers are an empty list
abbrev pub all_headers : Option (List Header) → List Header
all_headers None = []
all_headers (Some headers) = headers

-- the headers but those of a name
abbrev pub without_name : List ℕ → List Header → List Header
without_name name headers = filter (λ header. not (bytes_eq name header.name)) headers

-- the headers with one value of a name, the last of all
abbrev pub with_only : List ℕ → List ℕ → List Header → List Header
with_only name value headers = without_name name headers ++ record { name = name; value = value } ∷ []

-- names and values
abbrev pub pairs : List Header → List (List ℕ × List ℕ)
pairs headers = map (λ header. (header.name, header.value)) headers

-- the bytes of one header on the wire: `: ` and a line's end stand between names and values
abbrev pub line_len : Header → ℕ
line_len header = length header.name + length header.value + 4

-- the bytes of all headers on the wire: none where there is no header, and else 12 for the first and the last line
abbrev pub wire_len : List Header → ℕ
wire_len [] = 0
wire_len (header ∷ headers) = min (12 + sum_by line_len (header ∷ headers)) (2 ^ 64 - 1)

-- ---- what can be sent

-- a carriage return, a line feed or a NUL: what follows it would be read as something else
abbrev pub is_breaking : ℕ → Bool
is_breaking c = c == 13 || c == 10 || c == 0

-- such a byte, or a colon or a space, which end a name
abbrev pub ends_name : ℕ → Bool
ends_name c = is_breaking c || c == 58 || c == 32

-- a name without bytes that end it, and a value without bytes that break it
abbrev pub is_sendable_header : Header → Bool
is_sendable_header header =
    list_all (λ c. not (ends_name c)) header.name && list_all (λ c. not (is_breaking c)) header.value

-- each header arrives as the one that it is
abbrev pub is_sendable : List Header → Bool
is_sendable headers = list_all is_sendable_header headers
