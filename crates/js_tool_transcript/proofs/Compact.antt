-- What lines in their shortest form say.
use Rattle.std.proofs.Common.{◌≡◌, ℕ, ◌^◌, ◌<◌, ◌++◌, List, [], ◌∷◌, Some, codes, decimal, refl, sym, ap, true, ◌∙◌, arith, append_assoc}
use Rattle.std.specs.Str.{IsUtf8, is_utf8, chars}
use lib.Utf8.{encode}
use Rattle.std.proofs.lemmas.Str.{IsUtf8-append, IsUtf8-from_is_utf8, is_utf8-from_IsUtf8}
use Rattle.json.specs.Json as json
use Rattle.json.specs.Print.{print, print_from, escape_byte, escape}
use Rattle.json.specs.Tree.{json_tokens}
use Rattle.json.proofs.Printed.Decimals.{IsNumber-decimal}
use Rattle.serde_json.specs.Data.{Data, unsigned, number, string, object, no_members, member}
use Rattle.serde_json.specs.Read.{read, of_json}
use Rattle.serde_json.proofs.Numbers.{number_of-decimal}
use Rattle.js_json_members.specs.Value.{value_of}
use Rattle.js_json_members.specs.Member.{float_free, required, optional, defaulted, given, text, natural, natural_of}
use Rattle.js_ordered_table.specs.declared.event.EventKind.TheVariants as what
use Rattle.js_tool_transcript.specs.Members.{value_as, line_as}
use Rattle.js_tool_transcript.specs.Message.{message_fields}
use Rattle.js_tool_transcript.specs.Event.{arrival_fields, with_key, what_fields, event_fields_in}
use Rattle.js_tool_transcript.specs.ExtendedMessage.{only_in}
use Rattle.js_tool_transcript.specs.Compact.{IsPlain, Says, plain_message, tick_text, arrival_rest, arrival_text}
use Rattle.js_tool_transcript.proofs.Printed.{digits_utf8, read_printed}

-- ---- UTF-8

utf8 : (text : List ℕ) → is_utf8 text ≡ true → IsUtf8 text
utf8 text is = IsUtf8-from_is_utf8 text is

-- ---- a bare tick

abbrev tick_json : ℕ → json.Json
tick_json at = json.object (json.member (codes "at") (json.number (decimal at)) json.no_members)

abbrev tick_data : ℕ → Data
tick_data at = object (member (codes "at") (number (unsigned at)) no_members)

tick_printed : (at : ℕ) → print (json_tokens (tick_json at)) ≡ tick_text at
unfolding print_from escape_byte
tick_printed at = refl

tick_read : (at : ℕ) → at < 2 ^ 64 → read (tick_text at) ≡ Some (tick_data at)
tick_read at small =
    let is : of_json (tick_json at) ≡ Some (tick_data at) = rw (number_of-decimal at small) refl in
    ap read (sym (tick_printed at)) ∙ read_printed (tick_json at) (IsNumber-decimal at small, tt) (omega arith) ∙ is

-- its bytes are ASCII
tick_utf8 : (at : ℕ) → at < 2 ^ 64 → IsUtf8 (tick_text at)
unfolding is_utf8 chars encode
tick_utf8 at small =
    IsUtf8-append (codes "{\"at\":") (decimal at ++ codes "}") (utf8 (codes "{\"at\":") refl)
    (IsUtf8-append (decimal at) (codes "}") (digits_utf8 at small) (utf8 (codes "}") refl))

tick_said : (at : ℕ) → at < 2 ^ 64 → IsUtf8 (tick_text at) → Says (tick_text at) at what.Tick
unfolding value_of float_free line_as value_as event_fields_in what_fields with_key required given natural
tick_said at small utf8 = rw (is_utf8-from_IsUtf8 (tick_text at) utf8, tick_read at small) refl

tick_says : (at : ℕ) → at < 2 ^ 64 → Says (tick_text at) at what.Tick
tick_says at small = tick_said at small (tick_utf8 at small)

-- ---- an arrival

abbrev arrival_json : ℕ → ℕ → List ℕ → List ℕ → json.Json
arrival_json at inbox reply payload =
    json.object (json.member (codes "at") (json.number (decimal at)) (json.member (codes "arrival") (json.object (
    json.member (codes "inbox") (json.number (decimal inbox)) (json.member (codes "reply") (json.string reply) (
    json.member (codes "payload") (json.string payload) json.no_members)))) json.no_members))

abbrev arrival_data : ℕ → ℕ → List ℕ → List ℕ → Data
arrival_data at inbox reply payload =
    object (member (codes "arrival") (object (member (codes "inbox") (number (unsigned inbox)) (
    member (codes "payload") (string payload) (member (codes "reply") (string reply) no_members)))) (
    member (codes "at") (number (unsigned at)) no_members))

arrival_printed : (at inbox : ℕ) (reply payload : List ℕ) → escape reply ≡ reply → escape payload ≡ payload → print (json_tokens (arrival_json at inbox reply payload)) ≡ arrival_text at inbox reply payload
unfolding print_from escape_byte
arrival_printed at inbox reply payload r p =
    let front : List ℕ → List ℕ = λ s. codes "{\"at\":" ++ (decimal at ++ (codes ",\"arrival\":{\"inbox\":" ++ (decimal inbox ++ (codes ",\"reply\":\"" ++ s)))) in
    let last = append_assoc payload (34 ∷ []) (codes "}}") in
    let rest = append_assoc reply (34 ∷ []) (codes ",\"payload\":\"" ++ (payload ++ 34 ∷ codes "}}")) in
    rw (r, p) (ap front (ap (λ s. (reply ++ 34 ∷ []) ++ (codes ",\"payload\":\"" ++ s)) last ∙ rest))

arrival_read : (at inbox : ℕ) (reply payload : List ℕ) → at < 2 ^ 64 → inbox < 2 ^ 64 → escape reply ≡ reply → escape payload ≡ payload → read (arrival_text at inbox reply payload) ≡ Some (arrival_data at inbox reply payload)
arrival_read at inbox reply payload a i r p =
    let j = arrival_json at inbox reply payload in
    let is : of_json j ≡ Some (arrival_data at inbox reply payload) = rw (number_of-decimal at a, number_of-decimal inbox i) refl in
    ap read (sym (arrival_printed at inbox reply payload r p)) ∙ read_printed j (IsNumber-decimal at a, ((IsNumber-decimal inbox i, (tt, (tt, tt))), tt)) (omega arith) ∙ is

arrival_said : (at inbox : ℕ) (reply payload : List ℕ) → at < 2 ^ 64 → inbox < 2 ^ 64 → escape reply ≡ reply → escape payload ≡ payload → IsUtf8 (arrival_text at inbox reply payload) → Says (arrival_text at inbox reply payload) at (what.Arrival inbox (plain_message reply payload))
unfolding value_of float_free line_as value_as only_in event_fields_in what_fields with_key arrival_fields message_fields required given optional defaulted natural natural_of text
arrival_said at inbox reply payload a i r p utf8 = rw (is_utf8-from_IsUtf8 (arrival_text at inbox reply payload) utf8, arrival_read at inbox reply payload a i r p) refl

-- an arrival is UTF-8 where its texts are
quoted_utf8 : (text rest : List ℕ) → IsUtf8 text → IsUtf8 rest → IsUtf8 (text ++ 34 ∷ rest)
unfolding is_utf8 chars encode
quoted_utf8 text rest t r = IsUtf8-append text (34 ∷ rest) t (IsUtf8-append (34 ∷ []) rest (utf8 (34 ∷ []) refl) r)

arrival_utf8 : (at inbox : ℕ) (reply payload : List ℕ) → at < 2 ^ 64 → inbox < 2 ^ 64 → IsUtf8 reply → IsUtf8 payload → IsUtf8 (arrival_text at inbox reply payload)
unfolding is_utf8 chars encode
arrival_utf8 at inbox reply payload a i r p =
    let e : List ℕ = payload ++ 34 ∷ codes "}}" in
    let d : List ℕ = reply ++ 34 ∷ (codes ",\"payload\":\"" ++ e) in
    let c : List ℕ = decimal inbox ++ (codes ",\"reply\":\"" ++ d) in
    let eu : IsUtf8 e = quoted_utf8 payload (codes "}}") p (utf8 (codes "}}") refl) in
    let du : IsUtf8 d = quoted_utf8 reply (codes ",\"payload\":\"" ++ e) r (IsUtf8-append (codes ",\"payload\":\"") e (utf8 (codes ",\"payload\":\"") refl) eu) in
    let cu : IsUtf8 c = IsUtf8-append (decimal inbox) (codes ",\"reply\":\"" ++ d) (digits_utf8 inbox i) (IsUtf8-append (codes ",\"reply\":\"") d (utf8 (codes ",\"reply\":\"") refl) du) in
    IsUtf8-append (codes "{\"at\":") (decimal at ++ arrival_rest inbox reply payload) (utf8 (codes "{\"at\":") refl)
    (IsUtf8-append (decimal at) (arrival_rest inbox reply payload) (digits_utf8 at a)
    (IsUtf8-append (codes ",\"arrival\":{\"inbox\":") c (utf8 (codes ",\"arrival\":{\"inbox\":") refl) cu))

arrival_says : (at inbox : ℕ) (reply payload : List ℕ) → at < 2 ^ 64 → inbox < 2 ^ 64 → IsPlain reply payload → IsUtf8 reply → IsUtf8 payload
    → Says (arrival_text at inbox reply payload) at (what.Arrival inbox (plain_message reply payload))
arrival_says at inbox reply payload a i plain r p = arrival_said at inbox reply payload a i plain.0 plain.1 (arrival_utf8 at inbox reply payload a i r p)

-- the parts of what follows the moment, one after another
pub rest_shape : (rest b c d : List ℕ) (inbox : ℕ) (reply payload : List ℕ)
    → rest ≡ codes ",\"arrival\":{\"inbox\":" ++ (decimal inbox ++ b) → b ≡ codes ",\"reply\":\"" ++ (reply ++ 34 ∷ c)
    → c ≡ codes ",\"payload\":\"" ++ (payload ++ 34 ∷ d) → d ≡ codes "}}"
    → rest ≡ arrival_rest inbox reply payload
rest_shape rest b c d inbox reply payload p1 p2 p3 p4 = rw (p1, p2, p3, p4) refl

-- ---- lines from their parts

pub tick_line : (line end : List ℕ) (at : ℕ) → at < 2 ^ 64 → line ≡ codes "{\"at\":" ++ (decimal at ++ end) → end ≡ codes "}" → Says line at what.Tick
tick_line line end at small front last = rw (front, last) (tick_says at small)

pub arrival_line : (line end : List ℕ) (at inbox : ℕ) (reply payload : List ℕ) → at < 2 ^ 64 → inbox < 2 ^ 64
    → line ≡ codes "{\"at\":" ++ (decimal at ++ end) → end ≡ arrival_rest inbox reply payload → IsPlain reply payload → IsUtf8 reply → IsUtf8 payload
    → Says line at (what.Arrival inbox (plain_message reply payload))
arrival_line line end at inbox reply payload a i front last plain r p = rw (front, last) (arrival_says at inbox reply payload a i plain r p)
