-- What the first line of extended lines says: a setup, and the options of an ordered reader beside it.
use Rattle.std.specs.Prelude.{◌≡◌, ℕ, Bool, true, false, List, [], ◌∷◌, ◌++◌, codes, Option, Some, None, unwrap_or, Result, Ok, Err, refl, if◌then◌else◌}
use Rattle.serde_json.specs.Data.{Data, boolean, object, no_members, member}
use Rattle.js_json_members.specs.declared.key.Key.{Key}
use Rattle.js_json_members.specs.declared.key.Key.TheVariants as key
use Rattle.js_json_members.specs.declared.error.ReadError.{ReadError}
use Rattle.js_json_members.specs.declared.error.ReadError.TheVariants.{NotJson, WrongKind}
use Rattle.js_json_members.specs.Member.{◌>>=◌, Reads, truth}
use Rattle.js_json_members.specs.Value.{value_of}
use Rattle.js_pull.specs.declared.resilience.Resilience.{Resilience}
use Rattle.js_tool_transcript.specs.declared.transcript.extended_name.ExtendedName.{ExtendedName}
use Rattle.js_tool_transcript.specs.declared.transcript.extended_name.ExtendedName.TheVariants as name
use Rattle.js_tool_transcript.specs.declared.transcript.lines.Lines.{Lines}
use Rattle.js_tool_transcript.specs.declared.transcript.lines.Lines.TheVariants.{Plain, Extended}
use Rattle.js_tool_transcript.specs.declared.transcript.setup.Setup.{Setup}
use Rattle.js_tool_transcript.specs.ExtendedName.{name_text, has_only_with, under}
use Rattle.js_tool_transcript.specs.Setup.{setup_keys, setup_fields, setup_line}

-- ---- the options

-- an option, which is off where it is absent
unfoldable pub option_of : ExtendedName → Data → Result Bool ReadError
option_of name d = under (name_text name) key.Settings truth d >>= λ on. Ok (unwrap_or on false)

unfoldable pub resilience_fields : Data → Result Resilience ReadError
resilience_fields d = do
  stalled ← option_of name.AnswersStalled d
  first ← option_of name.AsksAtFirstHeartbeat d
  gone ← option_of name.RecreatesWhenGone d
  missing ← option_of name.TellsMissingStream d
  Ok (record {
    answers_stalled = stalled;
    asks_at_first_heartbeat = first;
    recreates_when_gone = gone;
    tells_missing_stream = missing;
  })

abbrev pub option_names : List ExtendedName
option_names = name.AnswersStalled ∷ name.AsksAtFirstHeartbeat ∷ name.RecreatesWhenGone ∷ name.TellsMissingStream ∷ []

-- an object that has no other names
unfoldable pub resilience : Reads Resilience
resilience k d = if has_only_with [] option_names d then resilience_fields d else Err (WrongKind k)

-- worked: an option that is named is as it says, and any other is off. Refused: an option that is absent is on
names_one : resilience_fields (object (member (codes "answers_stalled") (boolean true) no_members))
    ≡ Ok (record { answers_stalled = true; asks_at_first_heartbeat = false; recreates_when_gone = false; tells_missing_stream = false })
unfolding resilience_fields option_of under truth
names_one = refl

-- worked: what is no option is refused. Refused: it is passed over
names_another : resilience key.Settings (object (member (codes "answers") (boolean true) no_members)) ≡ Err (WrongKind key.Settings)
unfolding resilience
names_another = refl

-- ---- the line

abbrev pub resilience_name : List ℕ
resilience_name = codes "resilience"

-- a setup whose options are these
abbrev pub with_resilience : Option Resilience → Setup → Setup
with_resilience None setup = setup
with_resilience (Some options) setup = record setup { settings = record setup.settings { resilience = options } }

-- a setup as a transcript has it, but for the options beside it
unfoldable pub extended_setup_fields : Data → Result Setup ReadError
extended_setup_fields d = do
  options ← under resilience_name key.Settings resilience d
  setup ← setup_fields d
  Ok (with_resilience options setup)

abbrev pub extended_setup_of : Data → Result Setup ReadError
extended_setup_of d = if has_only_with setup_keys (name.Resilience ∷ []) d then extended_setup_fields d else Err NotJson

abbrev pub extended_setup_line : List ℕ → Result Setup ReadError
extended_setup_line line = value_of line >>= extended_setup_of

-- what a first line of this form says
abbrev pub setup_line_in : Lines → List ℕ → Result Setup ReadError
setup_line_in Plain = setup_line
setup_line_in Extended = extended_setup_line

-- ---- the options, as they are written

abbrev pub option_text : Bool → List ℕ
option_text true = codes "true"
option_text false = codes "false"

-- an object of all four
abbrev pub resilience_text : Resilience → List ℕ
resilience_text r =
    (codes "{\"answers_stalled\":" ++ option_text r.answers_stalled)
    ++ ((codes ",\"asks_at_first_heartbeat\":" ++ option_text r.asks_at_first_heartbeat)
    ++ ((codes ",\"recreates_when_gone\":" ++ option_text r.recreates_when_gone)
    ++ ((codes ",\"tells_missing_stream\":" ++ option_text r.tells_missing_stream) ++ codes "}")))

-- the options that a text says
abbrev pub resilience_of : Key → List ℕ → Result Resilience ReadError
resilience_of k text = value_of text >>= resilience k
