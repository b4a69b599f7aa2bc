-- Worked examples, which the definitions compute.
use Rattle.std.specs.Prelude.{◌≡◌, [], ◌∷◌, codes, true, false, refl}
use Rattle.serde_json.specs.Data.{boolean, string, object, member, no_members}
use Rattle.js_event_log_sessions.specs.declared.error.SessionsError.TheVariants as error
use Rattle.js_event_log_sessions.specs.declared.session.Line.TheVariants as line
use Rattle.js_ordered_table.specs.declared.event.Event.{Event}
use Rattle.js_ordered_table.specs.declared.run.ReplayError.TheVariants.{BadEvent}
use Rattle.js_tool_transcript.specs.declared.transcript.setup.Setup.{Setup}
use Rattle.js_tool_transcript.specs.Text.{line_text, count}
use Rattle.js_tool_event_log.specs.declared.sessions.line.Said.TheVariants.{Begins, Says}
use Rattle.js_tool_event_log.specs.SessionLine.{is_save}
use Rattle.js_tool_event_log.specs.SessionInput.{session_of, begun}
use Rattle.js_tool_event_log.specs.SessionTexts.{refusal_text}

-- ---- lines

save : is_save (object (member (codes "save") (boolean true) no_members)) ≡ true
save = refl

-- a body that takes any value of the key for a save takes this
false_is_no_save : is_save (object (member (codes "save") (boolean false) no_members)) ≡ false
false_is_no_save = refl

-- a body that reads past other keys takes this
other_key_is_no_save : is_save (object (member (codes "at") (boolean true) (member (codes "save") (boolean true) no_members))) ≡ false
other_key_is_no_save = refl

-- a body that gives all lines to the last session has none in the first one
two_begin : (first second : Setup) (e : Event)
    → begun (Begins first ∷ Says (line.Event e) ∷ Says line.Save ∷ Begins second ∷ Says (line.Event e) ∷ [])
    ≡ session_of first (line.Event e ∷ line.Save ∷ []) ∷ session_of second (line.Event e ∷ []) ∷ []
two_begin first second e = refl

-- ---- refusals

-- a body that writes the replay's line alone leaves the session out
early : refusal_text (error.Replay 2 (BadEvent 3)) ≡ line_text (string (codes "refused") ∷ string (codes "BadEvent") ∷ count 2 ∷ count 3 ∷ [])
early = refl

-- a body that writes the bookmark before the session turns the two
elsewhere : refusal_text (error.WrongStart 2 3) ≡ line_text (string (codes "refused") ∷ string (codes "WrongStart") ∷ count 2 ∷ count 3 ∷ [])
elsewhere = refl
