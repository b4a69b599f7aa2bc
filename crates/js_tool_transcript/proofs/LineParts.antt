-- The parts of a line are the compact text of its value.
use Rattle.std.proofs.Common.{◌≡◌, ℕ, true, List, [], ◌∷◌, ◌++◌, codes, decimal, refl, sym, ap, ◌∙◌, append_assoc}
use Rattle.std.specs.Fmt.{digits}
use Rattle.json.specs.Print.{quoted, escape_byte}
use Rattle.serde_json.specs.Data.{Data, Members}
use Rattle.serde_json.specs.Written.{compact_text, items_text, members_text}
use Rattle.js_base.specs.declared.message.Entry.{Entry}
use Rattle.js_event_log.specs.Events.{reply}
use Rattle.js_tool_transcript.specs.RelayConfigText.{filter_text, further_texts, filters_text}
use Rattle.js_tool_transcript.specs.RelaySetupData.{texts, with_filter, with_filters, start_member, config_data, setup_data}
use Rattle.js_tool_transcript.specs.RelayText.{arrival_data, value_line}

-- ---- the configuration

further_is : (list : List (List ℕ)) → items_text true (texts list) ≡ further_texts list ++ 93 ∷ []
further_is [] = refl
further_is (text ∷ more) = ap (λ (rest : List ℕ). codes "," ++ (quoted text ++ rest)) (further_is more) ∙ simp append_assoc

with_filter_is : (filter : List ℕ) (further : Members) → filter_text filter ++ members_text true further ≡ members_text true (with_filter filter further)
unfolding escape_byte
with_filter_is [] further = refl
with_filter_is (c ∷ cs) further = append_assoc (codes ",\"filter_subject\":") (quoted (c ∷ cs)) (members_text true further)

with_filters_is : (filters : List (List ℕ)) (further : Members) → filters_text filters ++ members_text true further ≡ members_text true (with_filters filters further)
unfolding escape_byte
with_filters_is [] further = refl
with_filters_is (filter ∷ filters) further =
    ap (λ (items : List ℕ). (codes ",\"filter_subjects\":[" ++ (quoted filter ++ items)) ++ members_text true further) (sym (further_is filters))

pub config_is : (filter : List ℕ) (filters : List (List ℕ)) (start : ℕ)
    → codes "{\"deliver_policy\":\"by_start_sequence\"" ++ (filter_text filter ++ (filters_text filters ++ (codes ",\"opt_start_seq\":" ++ (decimal start ++ codes "}"))))
    ≡ compact_text (config_data filter filters start)
unfolding escape_byte
config_is filter filters start =
    ap (λ (rest : List ℕ). codes "{\"deliver_policy\":\"by_start_sequence\"" ++ rest)
    (ap (λ (rest : List ℕ). filter_text filter ++ rest) (with_filters_is filters (start_member start))
    ∙ with_filter_is filter (with_filters filters (start_member start)))

-- ---- the setup

pub setup_is : (stream name : List ℕ) (config : Data)
    → codes "{\"config\":" ++ (compact_text config ++ (codes ",\"info\":{\"ack_floor\":{\"consumer_seq\":0,\"stream_seq\":0},\"config\":" ++ (compact_text config
    ++ (codes ",\"created\":\"2026-01-01T00:00:00Z\",\"delivered\":{\"consumer_seq\":0,\"stream_seq\":0},\"name\":" ++ (quoted name
    ++ (codes ",\"num_ack_pending\":0,\"num_pending\":0,\"num_redelivered\":0,\"num_waiting\":0,\"stream_name\":" ++ (quoted stream
    ++ codes "},\"mode\":\"pull\",\"settings\":{},\"start\":0}\n")))))))
    ≡ value_line (setup_data stream name config)
unfolding escape_byte digits
setup_is stream name config = simp append_assoc

-- ---- an arrival

zero : decimal 0 ≡ codes "0"
unfolding digits
zero = refl

-- the text of an arrival, from those of its numbers and of its quoted texts
abbrev shape : List ℕ → List ℕ → List ℕ → List ℕ → List ℕ → List ℕ
shape inbox payload reply subject number =
    (123 ∷ (quoted (codes "arrival") ++ 58 ∷ ((123 ∷ (
    quoted (codes "inbox") ++ 58 ∷ (inbox ++ 44 ∷ (
    quoted (codes "payload") ++ 58 ∷ (payload ++ 44 ∷ (
    quoted (codes "reply") ++ 58 ∷ (reply ++ 44 ∷ (
    quoted (codes "subject") ++ 58 ∷ (subject ++ 125 ∷ []))))))))) ++ 44 ∷ (
    quoted (codes "at") ++ 58 ∷ (number ++ 125 ∷ []))))) ++ 10 ∷ []

shape_is : (payload reply subject number : List ℕ)
    → codes "{\"arrival\":{\"inbox\":0,\"payload\":" ++ (payload ++ (codes ",\"reply\":" ++ (reply ++ (codes ",\"subject\":" ++ (subject ++ (codes "},\"at\":" ++ (number ++ codes "}\n")))))))
    ≡ shape (codes "0") payload reply subject number
unfolding escape_byte
shape_is payload reply subject number = simp append_assoc

value_is : (stream name : List ℕ) (number : ℕ) (entry : Entry)
    → shape (decimal 0) (quoted entry.payload) (quoted (reply stream name entry.sequence number)) (quoted entry.subject) (decimal number)
    ≡ value_line (arrival_data stream name number entry)
value_is stream name number entry = refl

pub arrival_is : (stream name : List ℕ) (number : ℕ) (entry : Entry)
    → codes "{\"arrival\":{\"inbox\":0,\"payload\":" ++ (quoted entry.payload ++ (codes ",\"reply\":" ++ (quoted (reply stream name entry.sequence number)
    ++ (codes ",\"subject\":" ++ (quoted entry.subject ++ (codes "},\"at\":" ++ (decimal number ++ codes "}\n")))))))
    ≡ value_line (arrival_data stream name number entry)
arrival_is stream name number entry =
    let payload = quoted entry.payload in
    let text = quoted (reply stream name entry.sequence number) in
    let subject = quoted entry.subject in
    shape_is payload text subject (decimal number)
    ∙ ap (λ (inbox : List ℕ). shape inbox payload text subject (decimal number)) (sym zero)
    ∙ value_is stream name number entry
