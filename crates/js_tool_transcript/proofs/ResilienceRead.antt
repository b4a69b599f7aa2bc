-- The options as they are written are read as they were.
use Rattle.std.proofs.Common.{◌≡◌, ℕ, Bool, true, false, List, codes, ◌++◌, Result, Ok, refl, ap, ◌∙◌, arith, append_assoc}
use Rattle.json.proofs.Printed.Utf8.{IsUtf8-are_ascii}
use Rattle.json.specs.Print.{escape_byte}
use Rattle.std.specs.Str.{IsUtf8}
use Rattle.serde_json.specs.Data.{Data, boolean, object, no_members, member}
use Rattle.serde_json.specs.Written.{compact_text}
use Rattle.js_json_members.specs.declared.key.Key.{Key}
use Rattle.js_json_members.specs.declared.error.ReadError.{ReadError}
use Rattle.js_json_members.specs.Member.{◌>>=◌, truth}
use Rattle.js_json_members.specs.Value.{value_of}
use Rattle.js_pull.specs.declared.resilience.Resilience.{Resilience}
use Rattle.js_tool_transcript.specs.ExtendedName.{under}
use Rattle.js_tool_transcript.specs.ExtendedSetup.{option_of, option_text, resilience, resilience_fields, resilience_of, resilience_text}
use Rattle.js_tool_transcript.proofs.CompactText.{IsSimple, value_reads}

-- the value that they are
abbrev data_of : Resilience → Data
data_of r = object (member (codes "answers_stalled") (boolean r.answers_stalled) (member (codes "asks_at_first_heartbeat") (boolean r.asks_at_first_heartbeat)
    (member (codes "recreates_when_gone") (boolean r.recreates_when_gone) (member (codes "tells_missing_stream") (boolean r.tells_missing_stream) no_members))))

text_of : (b : Bool) → option_text b ≡ compact_text (boolean b)
text_of true = refl
text_of false = refl

text_is : (r : Resilience) → resilience_text r ≡ compact_text (data_of r)
unfolding escape_byte
text_is r = rw (text_of r.answers_stalled, text_of r.asks_at_first_heartbeat, text_of r.recreates_when_gone, text_of r.tells_missing_stream) refl

simple : (r : Resilience) → IsSimple IsUtf8 (data_of r)
simple r = (
  IsUtf8-are_ascii (codes "answers_stalled") refl,
  (
    tt,
    (
      IsUtf8-are_ascii (codes "asks_at_first_heartbeat") refl,
      (
        tt,
        (IsUtf8-are_ascii (codes "recreates_when_gone") refl, (tt, (IsUtf8-are_ascii (codes "tells_missing_stream") refl, (tt, tt)))),
      ),
    ),
  ),
)

value_is : (r : Resilience) → value_of (resilience_text r) ≡ Ok (data_of r)
value_is r = ap value_of (text_is r) ∙ value_reads (data_of r) (simple r) (omega arith) refl

fields_are : (r : Resilience) → resilience_fields (data_of r) ≡ Ok r
unfolding resilience_fields option_of under truth
fields_are r = refl

pub reads_back : (k : Key) (r : Resilience) → resilience_of k (resilience_text r) ≡ Ok r
unfolding resilience
reads_back k r = ap (λ (v : Result Data ReadError). v >>= resilience k) (value_is r) ∙ fields_are r

-- the texts of four options and a bracket, one after another
pub options_joined : (old one two three four close : List ℕ) → ((((old ++ one) ++ two) ++ three) ++ four) ++ close ≡ old ++ (one ++ (two ++ (three ++ (four ++ close))))
options_joined old one two three four close = simp append_assoc
