-- What a block of headers says.
use Rattle.std.specs.Prelude.{◌≡◌, ℕ, ◌==◌, ◌+◌, ◌*◌, ◌-◌, ◌&&◌, ◌||◌, true, List, [], ◌∷◌, length, take, drop, codes, nat_eq, nat_le, nat_lt, slice_index, Option, Some, None, if◌then◌else◌, Result, Ok, Err}
use Rattle.std.specs.Char.{is_ascii_whitespace}
use Rattle.std.specs.List.{before_first, after_first, position_or_len, prefix_len, slice_split, starts_with}
use Rattle.std.specs.Str.{is_utf8}
use Rattle.memchr.specs.Find.{is_byte}
use Rattle.js_base.specs.Results.{◌>>=◌}
use Rattle.js_base.specs.declared.headers.Header.{Header}
use Rattle.js_base.specs.declared.message.StatusCode.{StatusCode}
use Rattle.js_link_wire.specs.declared.headers.Found.{Found}
use Rattle.js_link_wire.specs.declared.headers.HeaderBlock.{HeaderBlock}
use Rattle.js_link_wire.specs.declared.headers.HeadersDamage.{HeadersDamage}
use Rattle.js_link_wire.specs.declared.headers.HeadersDamage.TheVariants.{NoVersion, BadStatus, BareLineFeed, NoColon, NotText, CutShort, Trailing}
use Rattle.js_link_wire.specs.declared.headers.HeadersError.{HeadersError}
use Rattle.js_link_wire.specs.declared.headers.HeadersError.TheVariants.{Damaged, OutOfMemory}

-- bytes without the ASCII white space at their front
unfoldable pub trimmed : List ℕ → List ℕ
trimmed bytes = drop (prefix_len is_ascii_whitespace bytes) bytes

-- bytes that are UTF-8
unfoldable pub text_in : List ℕ → Result (List ℕ) HeadersDamage
text_in bytes = if is_utf8 bytes then Ok bytes else Err NotText

-- what stands before the first such byte, and behind it
unfoldable pub cut_at : ℕ → HeadersDamage → List ℕ → Result (List ℕ × List ℕ) HeadersDamage
cut_at byte damage bytes =
    if position_or_len (is_byte byte) bytes == length bytes then Err damage else Ok (before_first (is_byte byte) bytes, after_first (is_byte byte) bytes)

-- a line without the carriage return that ends it
unfoldable pub line_text : List ℕ → Result (List ℕ) HeadersDamage
line_text line =
    if slice_index line (length line - 1) == 13 then Ok (take (length line - 1) line) else Err BareLineFeed

-- ---- headers

-- a name stands before the first colon, and its value behind it and behind white space
unfoldable pub name_and_value : List ℕ → Result (List ℕ × List ℕ) HeadersDamage
name_and_value text = do
  cut ← cut_at 58 NoColon text
  name ← text_in cut.0
  value ← text_in (trimmed cut.1)
  Ok (name, value)

-- the header of a line
abbrev pub header_of : List ℕ → Result Header HeadersDamage
header_of text = name_and_value text >>= λ pair. Ok (record { name = pair.0; value = pair.1 })

-- a header, and then others
abbrev pub before : Header → Result (List Header) HeadersDamage → Result (List Header) HeadersDamage
before header (Ok headers) = Ok (header ∷ headers)
before header (Err damage) = Err damage

-- behind the empty line there is nothing but the end
abbrev pub ended : List (List ℕ) → Result (List Header) HeadersDamage
ended [] = Err CutShort
ended ([] ∷ []) = Ok []
ended ([] ∷ line ∷ more) = Err Trailing
ended ((c ∷ line) ∷ more) = Err Trailing

-- a line is a header, before others, or it is empty, before the end
abbrev pub header_or_end : Result (List Header) HeadersDamage → List (List ℕ) → List ℕ → Result (List Header) HeadersDamage
header_or_end others more text = if length text == 0 then ended more else (header_of text >>= λ header. before header others)

-- the headers of lines up to the empty one
abbrev pub headers_of : List (List ℕ) → Result (List Header) HeadersDamage
headers_of [] = Err CutShort
headers_of (line ∷ more) = if length more == 0 then Err CutShort else (line_text line >>= header_or_end (headers_of more) more)

-- the headers of bytes that are cut at every line feed
unfoldable pub headers_in : List ℕ → Result (List Header) HeadersDamage
headers_in bytes = headers_of (slice_split (is_byte 10) bytes)

-- ---- the first line

unfoldable pub digit_of : ℕ → Option ℕ
digit_of c = if nat_le 48 c && nat_le c 57 then Some (c - 48) else None

-- the number of three digits
abbrev pub number_of_3 : Option ℕ → Option ℕ → Option ℕ → Option StatusCode
number_of_3 (Some a) (Some b) (Some c) = Some (record { 0 = a * 100 + b * 10 + c })
number_of_3 a b c = None

-- a status: three digits, behind which the text ends or a blank stands
unfoldable pub status_at : ℕ → ℕ → ℕ → List ℕ → Option StatusCode
status_at a b c rest =
    if length rest == 0 || slice_index rest 0 == 32 then number_of_3 (digit_of a) (digit_of b) (digit_of c) else None

-- a description, where there is one
unfoldable pub description_of : List ℕ → Result (Option (List ℕ)) HeadersDamage
description_of text = if length text == 0 then Ok None else (text_in text >>= λ words. Ok (Some words))

-- a status with what is said of it
abbrev pub described : List ℕ → Option StatusCode → Result (Option StatusCode × Option (List ℕ)) HeadersDamage
described rest None = Err BadStatus
described rest (Some status) = description_of (trimmed rest) >>= λ words. Ok (Some status, words)

-- nothing, or a status with what is said of it
unfoldable pub status_of : List ℕ → Result (Option StatusCode × Option (List ℕ)) HeadersDamage
status_of text =
    if length text == 0 then Ok (None, None)
    else (if nat_lt (length text) 3 then Err BadStatus
    else described (drop 3 text) (status_at (slice_index text 0) (slice_index text 1) (slice_index text 2) (drop 3 text)))

-- the first line: the version, and behind it the status, where there is one
unfoldable pub version_of : List ℕ → Result (Option StatusCode × Option (List ℕ)) HeadersDamage
version_of text =
    if nat_le 8 (length text) && starts_with nat_eq text (codes "NATS/1.0") then status_of (trimmed (drop 8 text)) else Err NoVersion

-- ---- the block

-- what a block of headers says: its first line, and then the headers
unfoldable pub read_block : List ℕ → Result HeaderBlock HeadersDamage
read_block bytes = do
  cut ← cut_at 10 CutShort bytes
  text ← line_text cut.0
  said ← version_of text
  headers ← headers_in cut.1
  Ok (record { status = said.0; description = said.1; headers = headers })

-- why nothing was read: memory ran out, or this is damaged
abbrev pub IsCauseOf : {T : Type 0} → Result T HeadersDamage → HeadersError → Type 0
IsCauseOf read (Damaged damage) = read ≡ Err damage
IsCauseOf read OutOfMemory = Unit {0}

-- a header that is read as it was written: its texts are UTF-8, and its value begins with no white space
pub record IsReadable (header : Header) : Type 0 where
  pub name_is : is_utf8 header.name ≡ true
  pub value_is : is_utf8 header.value ≡ true
  pub begins : prefix_len is_ascii_whitespace header.value ≡ 0

-- ---- a header at a time

-- a header, and the bytes behind its line
abbrev pub found_view : Found → Header × List ℕ
found_view found = (record { name = found.name.now; value = found.value.now }, found.rest.now)

-- where it is the end, nothing may follow
abbrev pub end_at : List ℕ → Result (Option (Header × List ℕ)) HeadersDamage
end_at rest = if length rest == 0 then Ok None else Err Trailing

-- a line that is a header, or empty
abbrev pub line_or_end : List ℕ → List ℕ → Result (Option (Header × List ℕ)) HeadersDamage
line_or_end rest text = if length text == 0 then end_at rest else (header_of text >>= λ header. Ok (Some (header, rest)))

-- the first header, or none where the empty line comes first
unfoldable pub next_header : List ℕ → Result (Option (Header × List ℕ)) HeadersDamage
next_header bytes = cut_at 10 CutShort bytes >>= λ cut. line_text cut.0 >>= line_or_end cut.1
