-- The first line of some bytes.
use Rattle.std.specs.Prelude.{◌≡◌, ℕ, ◌==◌, ◌-◌, Bool, List, length, take, nat_eq, nat_le, codes, slice_index, if◌then◌else◌, Result, Ok, Err}
use Rattle.std.specs.List.{before_first, after_first, starts_with}
use Rattle.std.specs.Str.{is_utf8}
use Rattle.js_base.specs.Results.{◌>>=◌}
use Rattle.js_link_wire.specs.declared.line.TheConstants.{LONGEST_LINE, LONGEST_INFO}
use Rattle.js_link_wire.specs.declared.damage.Damage.TheVariants.{LineTooLong, BareLineFeed, NotText}
use Rattle.js_link_wire.specs.declared.damage.Unread.{Unread}
use Rattle.js_link_wire.specs.declared.damage.Unread.TheVariants.{More, Damaged}

-- what a function returned, seen by view, is what reading gives
abbrev pub Gives : {X Y E : Type 0} → (X → Y) → Result X E → Result Y E → Type 0
Gives view (Ok x) read = read ≡ Ok (view x)
Gives view (Err e) read = read ≡ Err e

abbrev pub is_feed : ℕ → Bool
is_feed c = c == 10

-- how long the first line is at most, with its line end: its first bytes alone decide
abbrev pub line_limit : List ℕ → ℕ
line_limit bytes = if starts_with nat_eq bytes (codes "INFO ") then LONGEST_INFO else LONGEST_LINE

-- the first line without its line feed, and what follows
unfoldable pub line_at : List ℕ → Result (List ℕ × List ℕ) Unread
line_at bytes =
    let line = before_first is_feed bytes in
    if nat_le (line_limit bytes) (length line) then Err (Damaged LineTooLong)
    else (if length line == length bytes then Err More else Ok (line, after_first is_feed bytes))

-- a line without the carriage return that ends it
unfoldable pub without_return : List ℕ → Result (List ℕ) Unread
without_return line =
    if slice_index line (length line - 1) == 13 then Ok (take (length line - 1) line) else Err (Damaged BareLineFeed)

-- bytes that are UTF-8
abbrev pub utf8_of : List ℕ → Result (List ℕ) Unread
utf8_of bytes = if is_utf8 bytes then Ok bytes else Err (Damaged NotText)

-- the text of a line
unfoldable pub text_of : List ℕ → Result (List ℕ) Unread
text_of line = without_return line >>= utf8_of
