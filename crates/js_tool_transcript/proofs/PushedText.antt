-- Pushes one after another.
use Rattle.std.proofs.Common.{◌≡◌, ℕ, List, [], ◌∷◌, ◌++◌, codes, decimal, sym, ap, ◌∙◌, append_assoc}
use Rattle.json.specs.Print.{quoted}
use Rattle.serde_json.specs.Data.{Data}
use Rattle.serde_json.specs.Written.{compact_text}
use Rattle.js_base.specs.declared.message.Entry.{Entry}
use Rattle.js_event_log.specs.Events.{reply}
use Rattle.js_tool_transcript.specs.RelayConfigText.{filter_text, further_texts, filters_text}
use Rattle.js_tool_transcript.specs.RelaySetupData.{config_data, setup_data}
use Rattle.js_tool_transcript.specs.RelayText.{arrival_data, value_line, value_lines, relay_text}
use Rattle.js_tool_transcript.proofs.LineParts.{config_is, setup_is, arrival_is}

four : (o a b c : List ℕ) → ((o ++ a) ++ b) ++ c ≡ o ++ (a ++ (b ++ c))
four o a b c = simp append_assoc

nine : (o a b c d e f g h i : List ℕ) → ((((((((o ++ a) ++ b) ++ c) ++ d) ++ e) ++ f) ++ g) ++ h) ++ i ≡ o ++ (a ++ (b ++ (c ++ (d ++ (e ++ (f ++ (g ++ (h ++ i))))))))
nine o a b c d e f g h i = simp append_assoc

-- ---- the configuration

pub filters_pushed : (old first : List ℕ) (further filters : List (List ℕ)) → filters ≡ first ∷ further
    → ((old ++ codes ",\"filter_subjects\":[") ++ (quoted first ++ further_texts further)) ++ codes "]" ≡ old ++ filters_text filters
filters_pushed old first further filters is =
    four old (codes ",\"filter_subjects\":[") (quoted first ++ further_texts further) (codes "]")
    ∙ ap (λ (text : List ℕ). old ++ (codes ",\"filter_subjects\":[" ++ text)) (append_assoc (quoted first) (further_texts further) (codes "]"))
    ∙ ap (λ (some : List (List ℕ)). old ++ filters_text some) (sym is)

abbrev pub policy_text : List ℕ
policy_text = codes "{\"deliver_policy\":\"by_start_sequence\""

abbrev pub start_text : ℕ → List ℕ
start_text start = codes ",\"opt_start_seq\":" ++ (decimal start ++ codes "}")

pub config_pushed : (old filter : List ℕ) (filters : List (List ℕ)) (start : ℕ) → old ≡ []
    → (((old ++ policy_text) ++ filter_text filter) ++ filters_text filters) ++ start_text start ≡ compact_text (config_data filter filters start)
config_pushed old filter filters start none =
    ap (λ (s : List ℕ). (((s ++ policy_text) ++ filter_text filter) ++ filters_text filters) ++ start_text start) none
    ∙ four policy_text (filter_text filter) (filters_text filters) (start_text start)
    ∙ config_is filter filters start

-- ---- the setup

abbrev pub config_opens : List ℕ
config_opens = codes "{\"config\":"

abbrev pub info_opens : List ℕ
info_opens = codes ",\"info\":{\"ack_floor\":{\"consumer_seq\":0,\"stream_seq\":0},\"config\":"

abbrev pub before_name : List ℕ
before_name = codes ",\"created\":\"2026-01-01T00:00:00Z\",\"delivered\":{\"consumer_seq\":0,\"stream_seq\":0},\"name\":"

abbrev pub before_stream : List ℕ
before_stream = codes ",\"num_ack_pending\":0,\"num_pending\":0,\"num_redelivered\":0,\"num_waiting\":0,\"stream_name\":"

abbrev pub setup_closes : List ℕ
setup_closes = codes "},\"mode\":\"pull\",\"settings\":{},\"start\":0}\n"

pub setup_pushed : (old text pushed_name pushed_stream stream name : List ℕ) (d : Data) → text ≡ compact_text d → pushed_name ≡ name → pushed_stream ≡ stream
    → ((((((((old ++ config_opens) ++ text) ++ info_opens) ++ text) ++ before_name) ++ quoted pushed_name) ++ before_stream) ++ quoted pushed_stream) ++ setup_closes
    ≡ old ++ value_line (setup_data stream name d)
setup_pushed old text pushed_name pushed_stream stream name d same n s =
    let of : List ℕ → List ℕ → List ℕ → List ℕ = λ t a b. config_opens ++ (t ++ (info_opens ++ (t ++ (before_name ++ (quoted a ++ (before_stream ++ (quoted b ++ setup_closes))))))) in
    nine old config_opens text info_opens text before_name (quoted pushed_name) before_stream (quoted pushed_stream) setup_closes
    ∙ ap (λ (t : List ℕ). old ++ of t pushed_name pushed_stream) same
    ∙ ap (λ (t : List ℕ). old ++ of (compact_text d) t pushed_stream) n
    ∙ ap (λ (t : List ℕ). old ++ of (compact_text d) name t) s
    ∙ ap (λ (t : List ℕ). old ++ t) (setup_is stream name d)

-- ---- an arrival

abbrev pub before_payload : List ℕ
before_payload = codes "{\"arrival\":{\"inbox\":0,\"payload\":"

abbrev pub before_reply : List ℕ
before_reply = codes ",\"reply\":"

abbrev pub before_subject : List ℕ
before_subject = codes ",\"subject\":"

abbrev pub before_at : List ℕ
before_at = codes "},\"at\":"

abbrev pub arrival_closes : List ℕ
arrival_closes = codes "}\n"

pub arrival_pushed : (old payload text subject stream name : List ℕ) (number : ℕ) (entry : Entry) → payload ≡ entry.payload → text ≡ reply stream name entry.sequence number → subject ≡ entry.subject
    → ((((((((old ++ before_payload) ++ quoted payload) ++ before_reply) ++ quoted text) ++ before_subject) ++ quoted subject) ++ before_at) ++ decimal number) ++ arrival_closes
    ≡ old ++ value_line (arrival_data stream name number entry)
arrival_pushed old payload text subject stream name number entry p t s =
    let of : List ℕ → List ℕ → List ℕ → List ℕ =
    λ a b c. before_payload ++ (quoted a ++ (before_reply ++ (quoted b ++ (before_subject ++ (quoted c ++ (before_at ++ (decimal number ++ arrival_closes))))))) in
    nine old before_payload (quoted payload) before_reply (quoted text) before_subject (quoted subject) before_at (decimal number) arrival_closes
    ∙ ap (λ (x : List ℕ). old ++ of x text subject) p
    ∙ ap (λ (x : List ℕ). old ++ of entry.payload x subject) t
    ∙ ap (λ (x : List ℕ). old ++ of entry.payload (reply stream name entry.sequence number) x) s
    ∙ ap (λ (x : List ℕ). old ++ x) (arrival_is stream name number entry)

-- ---- the transcript

pub relay_pushed : (old one two : List ℕ) (setup : Data) (brought : List Data) → old ≡ [] → one ≡ old ++ value_line setup → two ≡ one ++ value_lines brought → two ≡ value_lines (setup ∷ brought)
relay_pushed old one two setup brought none first last =
    last ∙ ap (λ (s : List ℕ). s ++ value_lines brought) (first ∙ ap (λ (s : List ℕ). s ++ value_line setup) none)

-- the same of equal parts
pub relay_as : (stream name filter same_filter : List ℕ) (filters same_filters : List (List ℕ)) (start same_start : ℕ) (entries same_entries : List Entry)
    → filter ≡ same_filter → filters ≡ same_filters → start ≡ same_start → entries ≡ same_entries
    → relay_text stream name filter filters start entries ≡ relay_text stream name same_filter same_filters same_start same_entries
relay_as stream name filter same_filter filters same_filters start same_start entries same_entries one more from all =
    ap (λ (x : List ℕ). relay_text stream name x filters start entries) one
    ∙ ap (λ (x : List (List ℕ)). relay_text stream name same_filter x start entries) more
    ∙ ap (λ (x : ℕ). relay_text stream name same_filter same_filters x entries) from
    ∙ ap (λ (x : List Entry). relay_text stream name same_filter same_filters same_start x) all
