-- What the answers of a generated transcript read as.
use Rattle.std.proofs.Common.{◌≡◌, ℕ, ◌^◌, ◌<◌, ◌≤◌, List, [], ◌∷◌, ◌++◌, Option, Some, Ok, codes, decimal, refl, sym, ap, ◌∙◌, arith, option_and_then, append-nil, append_assoc}
use Rattle.std.specs.Int.{IsInRange}
use Rattle.std.specs.Prelude.{Bool, true, Result, Err, if◌then◌else◌}
use Rattle.std.specs.Str.{IsUtf8, is_utf8}
use Rattle.std.specs.Str.Parse.{AllDigits}
use Rattle.std.proofs.lemmas.Fmt.{decimal_is_IsNumeral, IsAscii-decimal}
use Rattle.std.proofs.lemmas.Str.{IsUtf8-append, IsUtf8-from_ascii, is_utf8-from_IsUtf8}
use Rattle.std.proofs.lemmas.Str.Parse.{digit_from_value}
use Rattle.json.specs.Json as json
use Rattle.json.specs.Print.{print, print_from, escape_byte, escape, IsNumber}
use Rattle.json.specs.Tree.{json_tokens, depth, HasNumbers}
use Rattle.json.proofs.Printed.Strings.{escape_byte_plain}
use Rattle.json.proofs.Printed.Tokens.{tokens-print}
use Rattle.json.proofs.Printed.Trees.{value-json_tokens, ArePrintable-json_tokens}
use Rattle.json.proofs.Printed.Utf8.{IsUtf8-are_ascii}
use Rattle.serde_json.specs.Data.{Data, unsigned, number, string, object, no_members, member}
use Rattle.serde_json.specs.Read.{read, of_json}
use Rattle.js_json.specs.ConsumerInfo.{info_fields}
use Rattle.js_json.specs.Response.{error_in, unless_error, response_of}
use Rattle.js_json.specs.declared.response.Response.{Response}
use Rattle.js_json.specs.declared.consumer.info.Info.{Info}
use Rattle.js_json.specs.declared.response.Response.TheVariants as response
use Rattle.js_json.proofs.OnLiterals.{infos_on_literals}
use Rattle.js_json_members.specs.Member.{◌>>=◌, float_free, Fails}
use Rattle.js_json_members.specs.Value.{value_of, without_float}
use Rattle.js_json_members.specs.declared.error.ReadError.{ReadError}
use Rattle.js_json_members.specs.declared.error.ReadError.TheVariants.{Missing, WrongKind, OutOfRange, Float, NotJson, OutOfMemory}
use Rattle.js_tool_generate.specs.Episode.{info_text, name_of}
use Rattle.js_tool_generate.specs.Transcript.{info}

-- a printed value reads as what it was printed from
read_printed : (j : json.Json) → HasNumbers j → depth j ≤ 127 → read (print (json_tokens j)) ≡ of_json j
read_printed j numbers shallow =
    ap (λ r. option_and_then of_json (option_and_then (λ p. json.if_last p.0 p.1) r))
    (ap (json.value 127) (tokens-print (json_tokens j) (ArePrintable-json_tokens j numbers) ∙ sym (append-nil (json_tokens j)))
    ∙ value-json_tokens j 127 [] shallow)

-- ---- an info as JSON

abbrev zero_json : json.Json
zero_json = json.number (codes "0")

abbrev nowhere_json : json.Json
nowhere_json = json.object (json.member (codes "consumer_seq") zero_json (json.member (codes "stream_seq") zero_json json.no_members))

abbrev info_json : List ℕ → json.Json
info_json name =
    json.object (json.member (codes "ack_floor") nowhere_json (
    json.member (codes "config") (json.object (json.member (codes "deliver_policy") (json.string (codes "all")) json.no_members)) (
    json.member (codes "created") (json.string (codes "2026-01-01T00:00:00Z")) (
    json.member (codes "delivered") nowhere_json (
    json.member (codes "name") (json.string name) (
    json.member (codes "num_ack_pending") zero_json (
    json.member (codes "num_pending") zero_json (
    json.member (codes "num_redelivered") zero_json (
    json.member (codes "num_waiting") zero_json (
    json.member (codes "stream_name") (json.string (codes "events")) json.no_members))))))))))

printed : (name : List ℕ) → escape name ≡ name → print (json_tokens (info_json name)) ≡ info_text name
unfolding print_from escape_byte
printed name plain =
    let front : List ℕ = codes "{\"ack_floor\":{\"consumer_seq\":0,\"stream_seq\":0},\"config\":{\"deliver_policy\":\"all\"},\"created\":\"2026-01-01T00:00:00Z\",\"delivered\":{\"consumer_seq\":0,\"stream_seq\":0},\"name\":\"" in
    let back : List ℕ = codes ",\"num_ack_pending\":0,\"num_pending\":0,\"num_redelivered\":0,\"num_waiting\":0,\"stream_name\":\"events\"}" in
    rw plain (ap (λ (s : List ℕ). front ++ s) (append_assoc name (34 ∷ []) back) ∙ sym (append_assoc front name (34 ∷ back)))

abbrev zero_data : Data
zero_data = number (unsigned 0)

abbrev nowhere_data : Data
nowhere_data = object (member (codes "consumer_seq") zero_data (member (codes "stream_seq") zero_data no_members))

abbrev info_data : List ℕ → Data
info_data name =
    object (member (codes "ack_floor") nowhere_data (
    member (codes "config") (object (member (codes "deliver_policy") (string (codes "all")) no_members)) (
    member (codes "created") (string (codes "2026-01-01T00:00:00Z")) (
    member (codes "delivered") nowhere_data (
    member (codes "name") (string name) (
    member (codes "num_ack_pending") zero_data (
    member (codes "num_pending") zero_data (
    member (codes "num_redelivered") zero_data (
    member (codes "num_waiting") zero_data (
    member (codes "stream_name") (string (codes "events")) no_members))))))))))

is_data : (name : List ℕ) → of_json (info_json name) ≡ Some (info_data name)
unfolding infos_on_literals
is_data name = refl

zero_number : IsNumber (codes "0")
unfolding infos_on_literals
zero_number = refl

nowhere_numbers : HasNumbers nowhere_json
nowhere_numbers = (zero_number, (zero_number, tt))

has_numbers : (name : List ℕ) → HasNumbers (info_json name)
has_numbers name =
    (nowhere_numbers, ((tt, tt), (tt, (nowhere_numbers, (tt, (zero_number, (zero_number, (zero_number, (zero_number, (tt, tt))))))))))

text_reads : (name : List ℕ) → escape name ≡ name → read (info_text name) ≡ Some (info_data name)
text_reads name plain = ap read (sym (printed name plain)) ∙ read_printed (info_json name) (has_numbers name) (omega arith) ∙ is_data name

text_utf8 : (name : List ℕ) → IsUtf8 name → IsUtf8 (info_text name)
text_utf8 name utf8 =
    let front : List ℕ = codes "{\"ack_floor\":{\"consumer_seq\":0,\"stream_seq\":0},\"config\":{\"deliver_policy\":\"all\"},\"created\":\"2026-01-01T00:00:00Z\",\"delivered\":{\"consumer_seq\":0,\"stream_seq\":0},\"name\":\"" in
    let back : List ℕ = codes "\",\"num_ack_pending\":0,\"num_pending\":0,\"num_redelivered\":0,\"num_waiting\":0,\"stream_name\":\"events\"}" in
    IsUtf8-append (front ++ name) back (IsUtf8-append front name (IsUtf8-are_ascii front refl) utf8) (IsUtf8-are_ascii back refl)

-- what an answer with this value is read as
abbrev answered : Result Data ReadError → Result (Response Info) ReadError
answered value = value >>= λ d. unless_error (error_in d) (float_free info_fields d)

read_text : (text : List ℕ) (d : Data) → is_utf8 text ≡ true → read text ≡ Some d → response_of (float_free info_fields) text ≡ answered (without_float (Some d))
unfolding response_of value_of
read_text text d utf8 is =
    ap (λ (b : Bool). answered (if b then without_float (read text) else Err NotJson)) utf8 ∙ ap (λ (o : Option Data). answered (without_float o)) is

data_reads : (name : List ℕ) → answered (without_float (Some (info_data name))) ≡ Ok (response.Ok (info name))
unfolding infos_on_literals
data_reads name = refl

-- the text of an info reads as the info
pub info_reads : (name : List ℕ) → escape name ≡ name → IsUtf8 name → response_of (float_free info_fields) (info_text name) ≡ Ok (response.Ok (info name))
info_reads name plain utf8 =
    read_text (info_text name) (info_data name) (is_utf8-from_IsUtf8 (info_text name) (text_utf8 name utf8)) (text_reads name plain) ∙ data_reads name

-- ---- names

escape_digits : (ds : List ℕ) → AllDigits 10 ds → escape ds ≡ ds
escape_digits [] h = refl
escape_digits (c ∷ cs) h =
    let range : IsInRange 48 57 c = digit_from_value c h.0 in
    let one : escape_byte c ≡ c ∷ [] = escape_byte_plain c (λ e. absurd (omega arith)) (λ e. absurd (omega arith)) (omega arith) in
    rw (one, escape_digits cs h.1) refl

pub name_plain : (recreation_count : ℕ) → recreation_count < 2 ^ 64 → escape (name_of recreation_count) ≡ name_of recreation_count
unfolding escape_byte
name_plain recreation_count small = ap (λ (ds : List ℕ). codes "gen_" ++ ds) (escape_digits (decimal recreation_count) (decimal_is_IsNumeral recreation_count small).0.1)

pub name_utf8 : (recreation_count : ℕ) → recreation_count < 2 ^ 64 → IsUtf8 (name_of recreation_count)
name_utf8 recreation_count small = IsUtf8-append (codes "gen_") (decimal recreation_count) (IsUtf8-are_ascii (codes "gen_") refl) (IsUtf8-from_ascii (decimal recreation_count) (IsAscii-decimal recreation_count small))

first_plain : escape (codes "gen") ≡ codes "gen"
unfolding escape_byte
first_plain = refl

-- the text of the first info
pub first_reads : response_of (float_free info_fields) (info_text (codes "gen")) ≡ Ok (response.Ok (info (codes "gen")))
first_reads = info_reads (codes "gen") first_plain (IsUtf8-are_ascii (codes "gen") refl)

pub first_is : (bytes : List ℕ) (first : Info) → bytes ≡ info_text (codes "gen") → response_of (float_free info_fields) bytes ≡ Ok (response.Ok first) → first ≡ info (codes "gen")
first_is bytes first is reads =
    let both : Ok (response.Ok first) ≡ Ok (response.Ok (info (codes "gen"))) = sym reads ∙ ap (response_of (float_free info_fields)) is ∙ first_reads in
    cc

-- so what it reads as is no error of the server,
pub first_answer : (bytes : List ℕ) (answer : Response Info) → bytes ≡ info_text (codes "gen") → response_of (float_free info_fields) bytes ≡ Ok answer → answer ≡ response.Ok (info (codes "gen"))
first_answer bytes answer is reads =
    let both : Ok answer ≡ Ok (response.Ok (info (codes "gen"))) = sym reads ∙ ap (response_of (float_free info_fields)) is ∙ first_reads in
    cc

first_reads_not : (bytes : List ℕ) (fault : ReadError) → bytes ≡ info_text (codes "gen") → response_of (float_free info_fields) bytes ≡ Err fault → ⊥
first_reads_not bytes fault is fails =
    let both : Err fault ≡ Ok (response.Ok (info (codes "gen"))) = sym fails ∙ ap (response_of (float_free info_fields)) is ∙ first_reads in
    cc

-- and fails only for want of memory
pub first_fails : (bytes : List ℕ) (fault : ReadError) → bytes ≡ info_text (codes "gen") → Fails fault (response_of (float_free info_fields) bytes) → fault ≡ OutOfMemory
first_fails bytes OutOfMemory is fails = refl
first_fails bytes (Missing key) is fails = absurd (first_reads_not bytes (Missing key) is fails)
first_fails bytes (WrongKind key) is fails = absurd (first_reads_not bytes (WrongKind key) is fails)
first_fails bytes (OutOfRange key) is fails = absurd (first_reads_not bytes (OutOfRange key) is fails)
first_fails bytes Float is fails = absurd (first_reads_not bytes Float is fails)
first_fails bytes NotJson is fails = absurd (first_reads_not bytes NotJson is fails)
