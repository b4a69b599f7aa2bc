-- What one line of sessions says.
use Rattle.std.specs.Prelude.{ℕ, ◌&&◌, Bool, true, false, List, codes, is_some, option_and_then, unwrap_or, Result, Ok, if◌then◌else◌}
use Rattle.std.specs.Str.{bytes_eq}
use Rattle.serde_json.specs.Data.{Data, null, boolean, number, string, array, object, Members, no_members, member}
use Rattle.serde_json.specs.Find.{get, as_bool}
use Rattle.js_json_members.specs.declared.error.ReadError.{ReadError}
use Rattle.js_json_members.specs.Member.{◌>>=◌}
use Rattle.js_json_members.specs.Value.{value_of}
use Rattle.js_event_log_sessions.specs.declared.session.Line.TheVariants as line
use Rattle.js_tool_transcript.specs.Event.{event_of}
use Rattle.js_tool_transcript.specs.Setup.{setup_of}
use Rattle.js_tool_event_log.specs.declared.sessions.line.Said.{Said}
use Rattle.js_tool_event_log.specs.declared.sessions.line.Said.TheVariants.{Begins, Says}

-- whether all names are this one
abbrev pub members_named : List ℕ → Members → Bool
members_named name no_members = true
members_named name (member found d ms) = bytes_eq found name && members_named name ms

-- an object that has no other keys than this one
abbrev pub has_no_other : List ℕ → Data → Bool
has_no_other name null = false
has_no_other name (boolean b) = false
has_no_other name (number n) = false
has_no_other name (string s) = false
has_no_other name (array ds) = false
has_no_other name (object ms) = members_named name ms

-- {"save":true}
abbrev pub is_save : Data → Bool
is_save d = unwrap_or (option_and_then as_bool (get (codes "save") d)) false && has_no_other (codes "save") d

-- the key `mode` is that of a setup, which begins a session; {"save":true} is a save, and all else an event
abbrev pub said : Data → Result Said ReadError
said d =
    if is_some (get (codes "mode") d) then (setup_of d >>= λ setup. Ok (Begins setup)) else
    (if is_save d then Ok (Says line.Save) else
    (event_of d >>= λ event. Ok (Says (line.Event event))))

abbrev pub session_line : List ℕ → Result Said ReadError
session_line text = value_of text >>= said
