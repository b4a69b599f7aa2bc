-- The names that only extended lines have, and objects that may have them.
use Rattle.std.specs.Prelude.{ℕ, ◌||◌, ◌&&◌, Bool, true, false, List, codes, Option, None, Result, Ok, if◌then◌else◌}
use Rattle.std.specs.List.{list_any}
use Rattle.std.specs.Str.{bytes_eq}
use Rattle.serde_json.specs.Data.{Data, null, boolean, number, string, array, object, Members, no_members, member}
use Rattle.serde_json.specs.Find.{get}
use Rattle.js_json_members.specs.declared.key.Key.{Key}
use Rattle.js_json_members.specs.declared.error.ReadError.{ReadError}
use Rattle.js_json_members.specs.Member.{Reads, if_present, unless_null}
use Rattle.js_json_members.specs.Value.{is_among}
use Rattle.js_tool_transcript.specs.declared.transcript.extended_name.ExtendedName.{ExtendedName}
use Rattle.js_tool_transcript.specs.declared.transcript.extended_name.ExtendedName.TheVariants as name

-- the name as it stands in a line
abbrev pub name_text : ExtendedName → List ℕ
name_text name.PayloadBase64 = codes "payload_base64"
name_text name.Length = codes "length"
name_text name.Resilience = codes "resilience"
name_text name.AnswersStalled = codes "answers_stalled"
name_text name.AsksAtFirstHeartbeat = codes "asks_at_first_heartbeat"
name_text name.RecreatesWhenGone = codes "recreates_when_gone"
name_text name.TellsMissingStream = codes "tells_missing_stream"

-- whether it is one of these names
abbrev pub is_named : List ExtendedName → List ℕ → Bool
is_named names text = list_any (λ one. bytes_eq text (name_text one)) names

-- all names are those of keys, or these
abbrev pub members_with : List Key → List ExtendedName → Members → Bool
members_with keys names no_members = true
members_with keys names (member text d ms) = (is_among keys text || is_named names text) && members_with keys names ms

-- an object that has no other names
abbrev pub has_only_with : List Key → List ExtendedName → Data → Bool
has_only_with keys names null = false
has_only_with keys names (boolean b) = false
has_only_with keys names (number n) = false
has_only_with keys names (string s) = false
has_only_with keys names (array ds) = false
has_only_with keys names (object ms) = members_with keys names ms

-- a member of this name, which may be absent or null. Its faults name the key
unfoldable pub under : {A : Type 0} → List ℕ → Key → Reads A → Data → Result (Option A) ReadError
under name key reads d = if_present (Ok None) (unless_null reads key) (get name d)
