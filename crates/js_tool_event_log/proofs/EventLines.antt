-- A line that reads as an event says that event.
use Rattle.std.proofs.Common.{◌≡◌, ℕ, Bool, true, false, List, codes, refl}
use Rattle.std.specs.Prelude.{Result, Ok, Err, if◌then◌else◌}
use Rattle.serde_json.specs.Data.{Data}
use Rattle.js_json_members.specs.declared.error.ReadError.{ReadError}
use Rattle.js_json_members.specs.declared.error.ReadError.TheVariants.{NotJson}
use Rattle.js_json_members.specs.Member.{◌>>=◌}
use Rattle.js_json_members.specs.Value.{has_only, value_of}
use Rattle.js_event_log_sessions.specs.declared.session.Line.TheVariants as line
use Rattle.js_ordered_table.specs.declared.event.Event.{Event}
use Rattle.js_tool_transcript.specs.Event.{event_keys, event_fields, event_of, event_line}
use Rattle.js_tool_transcript.specs.Members.{value_as, line_as}
use Rattle.js_tool_event_log.specs.declared.sessions.line.Said.TheVariants.{Says}
use Rattle.js_tool_event_log.specs.SessionLine.{said, session_line}
use Rattle.js_tool_transcript.proofs.OtherKeys.{get_other}

by_keys : (e : Event) (d : Data) (b : Bool) → has_only event_keys d ≡ b → (if b then event_fields d else Err NotJson) ≡ Ok e → event_of d ≡ Ok e → said d ≡ Ok (Says (line.Event e))
by_keys e d true only fields is =
    let mode = get_other event_keys (codes "mode") d only refl in
    let save = get_other event_keys (codes "save") d only refl in
    rw (mode, save, is) refl
by_keys e d false only fields is = cc

value_says : (e : Event) (d : Data) → event_of d ≡ Ok e → said d ≡ Ok (Says (line.Event e))
unfolding value_as
value_says e d is = by_keys e d (has_only event_keys d) refl is is

by_value : (e : Event) (v : Result Data ReadError) → (v >>= event_of) ≡ Ok e → (v >>= said) ≡ Ok (Says (line.Event e))
by_value e (Ok d) is = value_says e d is
by_value e (Err fault) is = cc

-- what reads as an event is one
pub event_says : (text : List ℕ) (e : Event) → event_line text ≡ Ok e → session_line text ≡ Ok (Says (line.Event e))
unfolding line_as
event_says text e is = by_value e (value_of text) is
