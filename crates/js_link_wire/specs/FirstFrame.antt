-- The first frame of some bytes.
use Rattle.std.specs.Prelude.{ℕ, ◌+◌, ◌<◌, ◌≤◌, List, length, codes, if◌then◌else◌, Result, Ok, Err}
use Rattle.std.specs.List.{before_first, after_first}
use Rattle.std.specs.Str.{bytes_eq}
use Rattle.js_base.specs.Results.{◌>>=◌}
use Rattle.js_link_wire.specs.Lines.{line_at, text_of}
use Rattle.js_link_wire.specs.Words.{is_blank}
use Rattle.js_link_wire.specs.Messages.{message_of, headered_message_of}
use Rattle.js_link_wire.specs.declared.damage.Damage.TheVariants.{UnknownVerb}
use Rattle.js_link_wire.specs.declared.damage.Unread.{Unread}
use Rattle.js_link_wire.specs.declared.damage.Unread.TheVariants as unread
use Rattle.js_link_wire.specs.declared.first_frame.Reading.{Reading}
use Rattle.js_link_wire.specs.declared.first_frame.Reading.TheVariants as readings
use Rattle.js_link_wire.specs.declared.frame.ServerFrame.{ServerFrame}
use Rattle.js_link_wire.specs.declared.frame.ServerFrame.TheVariants as frames

-- what a line says that begins with this verb, by the text behind the verb and the bytes behind the line
unfoldable pub said : ℕ → List ℕ → List ℕ → List ℕ → Result (ServerFrame × ℕ) Unread
said most verb text rest =
    if bytes_eq verb (codes "MSG") then message_of most text rest
    else (if bytes_eq verb (codes "HMSG") then headered_message_of most text rest
    else (if bytes_eq verb (codes "PING") then Ok (frames.Ping, 0)
    else (if bytes_eq verb (codes "PONG") then Ok (frames.Pong, 0)
    else (if bytes_eq verb (codes "+OK") then Ok (frames.Taken, 0)
    else (if bytes_eq verb (codes "-ERR") then Ok (frames.Refused text, 0)
    else (if bytes_eq verb (codes "INFO") then Ok (frames.Info text, 0)
    else Err (unread.Damaged UnknownVerb)))))))

-- what a line says: its verb ends at the first blank
abbrev pub frame_of : ℕ → List ℕ → List ℕ → Result (ServerFrame × ℕ) Unread
frame_of most text rest = said most (before_first is_blank text) (after_first is_blank text) rest

-- the first frame, and how many bytes it has
unfoldable pub first_frame : ℕ → List ℕ → Result (ServerFrame × ℕ) Unread
first_frame most bytes = do
  line ← line_at bytes
  text ← text_of line.0
  frame ← frame_of most text line.1
  Ok (frame.0, length line.0 + 1 + frame.1)

abbrev pub reading_of : Result (ServerFrame × ℕ) Unread → Reading
reading_of (Ok frame) = readings.Whole frame.0 frame.1
reading_of (Err unread.More) = readings.More
reading_of (Err (unread.Damaged damage)) = readings.Damaged damage

-- what bytes begin with, where a body has at most so many bytes
unfoldable pub read : ℕ → List ℕ → Reading
read most bytes = reading_of (first_frame most bytes)

-- a whole frame has a byte at least, and at most so many
abbrev pub IsWithin : Reading → ℕ → Type 0
IsWithin readings.More count = Unit {0}
IsWithin (readings.Whole frame length) count = (0 < length) × (length ≤ count)
IsWithin (readings.Damaged damage) count = Unit {0}
