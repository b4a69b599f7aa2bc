-- What each further line of a transcript says, and what the lines of both forms do.
use Rattle.std.specs.Prelude.{ℕ, List, [], ◌∷◌, codes, true, false, Option, Some, None, is_some, unwrap_or, Result, Ok, Err, if◌then◌else◌}
use Rattle.serde_json.specs.Data.{Data}
use Rattle.serde_json.specs.Find.{get}
use Rattle.js_base.specs.declared.message.State.TheVariants.{Connected, Disconnected, Pending}
use Rattle.js_json_members.specs.declared.key.Key.{Key}
use Rattle.js_json_members.specs.declared.key.Key.TheVariants as key
use Rattle.js_json_members.specs.Key.{key_name}
use Rattle.js_json_members.specs.declared.error.ReadError.{ReadError}
use Rattle.js_json_members.specs.declared.error.ReadError.TheVariants.{WrongKind, OutOfRange}
use Rattle.js_json_members.specs.Member.{◌>>=◌, Reads, required, given, truth, natural, named, value_of}
use Rattle.js_ordered_table.specs.declared.event.Event.{Event}
use Rattle.js_ordered_table.specs.declared.event.EventKind.{EventKind}
use Rattle.js_ordered_table.specs.declared.event.EventKind.TheVariants as what
use Rattle.js_tool_transcript.specs.declared.transcript.lines.Lines.{Lines}
use Rattle.js_tool_transcript.specs.declared.transcript.lines.Lines.TheVariants.{Plain, Extended}
use Rattle.js_tool_transcript.specs.Members.{only, value_as, line_as}
use Rattle.js_tool_transcript.specs.Message.{message_keys}
use Rattle.js_tool_transcript.specs.ExtendedMessage.{only_in, fields_in}

-- ---- what happens

unfoldable pub arrival_fields : Lines → Data → Result EventKind ReadError
arrival_fields lines d = do
  inbox ← required natural key.Inbox d
  message ← fields_in lines d
  Ok (what.Arrival inbox message)

-- a message on an inbox
abbrev pub arrival : Lines → Reads EventKind
arrival lines = only_in lines (key.Inbox ∷ message_keys) (arrival_fields lines)

unfoldable pub reply_fields : Lines → Data → Result EventKind ReadError
reply_fields lines d = do
  request ← required natural key.Request d
  message ← fields_in lines d
  Ok (what.Answer request (Some message))

-- the replier is gone, and the one value that says so is true
unfoldable pub gone_fields : Data → Result EventKind ReadError
gone_fields d = do
  request ← required natural key.Request d
  gone ← required truth key.Gone d
  if gone then Ok (what.Answer request None) else Err (OutOfRange key.Gone)

-- an answer to a request: a message, or that its replier is gone
unfoldable pub answer : Lines → Reads EventKind
answer lines k d =
    if is_some (get (key_name key.Gone) d)
    then only (key.Request ∷ key.Gone ∷ []) gone_fields k d
    else only_in lines (key.Request ∷ message_keys) (reply_fields lines) k d

unfoldable pub link_named : List ℕ → Option EventKind
link_named = value_of ((codes "open", what.Link true) ∷ (codes "closed", what.Link false) ∷ [])

unfoldable pub connection_named : List ℕ → Option EventKind
connection_named = value_of ((codes "connected", what.Connection Connected) ∷ (codes "disconnected", what.Connection Disconnected) ∷ (codes "pending", what.Connection Pending) ∷ [])

unfoldable pub watcher_named : List ℕ → Option EventKind
watcher_named = value_of ((codes "ended", what.WatcherEnded) ∷ [])

-- at most one thing happens
abbrev pub alone : Key → Option EventKind → Option EventKind → Result (Option EventKind) ReadError
alone k None next = Ok next
alone k (Some found) None = Ok (Some found)
alone k (Some found) (Some next) = Err (WrongKind k)

-- what was found before, and what a key of its own says
unfoldable pub with_key : Reads EventKind → Key → Option EventKind → Data → Result (Option EventKind) ReadError
with_key reads k found d = given reads k d >>= alone k found

-- where no key says what happens, time passes
unfoldable pub what_fields : Lines → Data → Result EventKind ReadError
what_fields lines d = do
  found ← with_key (arrival lines) key.Arrival None d
  found ← with_key (answer lines) key.Answer found d
  found ← with_key (named link_named) key.Link found d
  found ← with_key (named connection_named) key.Connection found d
  found ← with_key (named watcher_named) key.Watcher found d
  Ok (unwrap_or found what.Tick)

-- ---- the line

abbrev pub event_keys : List Key
event_keys = key.At ∷ key.Arrival ∷ key.Answer ∷ key.Link ∷ key.Connection ∷ key.Watcher ∷ []

unfoldable pub event_fields_in : Lines → Data → Result Event ReadError
event_fields_in lines d = do
  at ← required natural key.At d
  what ← what_fields lines d
  Ok (record { at = at; what = what })

-- what the value of a line of this form says
abbrev pub event_of_in : Lines → Data → Result Event ReadError
event_of_in lines = value_as event_keys (event_fields_in lines)

-- what a line of this form says
abbrev pub event_line_in : Lines → List ℕ → Result Event ReadError
event_line_in lines = line_as event_keys (event_fields_in lines)

-- ---- a line of a transcript

abbrev pub event_fields : Data → Result Event ReadError
event_fields = event_fields_in Plain

-- what the value of a line says
abbrev pub event_of : Data → Result Event ReadError
event_of = event_of_in Plain

abbrev pub event_line : List ℕ → Result Event ReadError
event_line = event_line_in Plain

-- ---- a line of both forms

abbrev pub extended_line : List ℕ → Result Event ReadError
extended_line = event_line_in Extended
