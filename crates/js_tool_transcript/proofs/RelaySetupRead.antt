-- The setup and the arrivals of a mirror's transcript are read as they were meant.
use Rattle.std.proofs.Common.{◌≡◌, ℕ, ◌^◌, ◌<◌, ◌≤◌, List, ◌++◌, codes, decimal, Some, refl, ap, ◌∙◌, arith}
use Rattle.std.specs.Prelude.{Result, Ok}
use Rattle.std.specs.List.{AllByRecursion}
use Rattle.std.specs.Fmt.{digits}
use Rattle.std.specs.Str.{IsUtf8}
use Rattle.std.proofs.lemmas.Str.{IsUtf8-append}
use Rattle.json.specs.Tree.{depth}
use Rattle.json.proofs.Printed.Utf8.{IsUtf8-are_ascii}
use Rattle.serde_json.specs.Data.{Data, string, object, Members, member}
use Rattle.serde_json.specs.Read.{of_json}
use Rattle.serde_json.specs.Written.{outline, compact_text}
use Rattle.serde_json.proofs.Numbers.{number_of-decimal}
use Rattle.serde_json.proofs.OnLiterals.{serde_json_on_literals}
use Rattle.js_base.specs.declared.message.Entry.{Entry}
use Rattle.js_json_members.specs.declared.error.ReadError.{ReadError}
use Rattle.js_json_members.specs.Member.{◌>>=◌, required, optional, defaulted, given, named, nested, text, natural, natural_of}
use Rattle.js_json_members.specs.Value.{value_of}
use Rattle.js_json.specs.ConsumerConfig.{config_fields}
use Rattle.js_json.specs.ConsumerInfo.{info_fields}
use Rattle.js_event_log.specs.Events.{reply, arrival}
use Rattle.js_tool_transcript.specs.Event.{event_of, event_line, event_fields, event_fields_in, what_fields, with_key, arrival_fields}
use Rattle.js_tool_transcript.specs.ExtendedMessage.{only_in}
use Rattle.js_tool_transcript.specs.Members.{only, value_as, line_as}
use Rattle.js_tool_transcript.specs.Message.{message_fields}
use Rattle.js_tool_transcript.specs.Setup.{mode_named, settings_fields, ordered_setup, setup_with, setup_fields, setup_of, setup_line}
use Rattle.js_tool_transcript.proofs.Printed.{digits_utf8}
use Rattle.js_tool_transcript.specs.RelaySetupData.{with_filter, with_filters, start_member, config_data, nowhere_data, info_data, setup_data}
use Rattle.js_tool_transcript.specs.RelayConfig.{relay_config, relay_info}
use Rattle.js_tool_transcript.specs.RelayText.{arrival_data}
use Rattle.js_tool_transcript.specs.RelayTranscript.{relay_setup, IsText}
use Rattle.js_tool_transcript.proofs.CompactText.{IsSimple, value_reads}
use Rattle.js_tool_transcript.proofs.RelayConfigRead.{config_outlined, config_reads, config_shallow, config_simple, info_outlined, info_reads}

-- ---- the setup

setup_outlined : (stream name : List ℕ) (config : Data) → of_json (outline config) ≡ Some config → of_json (outline (info_data stream name config)) ≡ Some (info_data stream name config)
    → of_json (outline (setup_data stream name config)) ≡ Some (setup_data stream name config)
unfolding serde_json_on_literals digits
setup_outlined stream name config same info = rw same refl

setup_shallow : (stream name : List ℕ) (config : Data) → depth (outline config) ≤ 2 → depth (outline (setup_data stream name config)) ≤ 127
setup_shallow stream name config shallow = omega arith

zero : 0 < 2 ^ 64
zero = omega arith

nowhere_simple : IsSimple IsUtf8 nowhere_data
nowhere_simple = (IsUtf8-are_ascii (codes "consumer_seq") refl, (zero, (IsUtf8-are_ascii (codes "stream_seq") refl, (zero, tt))))

info_simple : (stream name : List ℕ) (config : Data) → IsUtf8 stream → IsUtf8 name → IsSimple IsUtf8 config → IsSimple IsUtf8 (info_data stream name config)
info_simple stream name config s n simple = (
  IsUtf8-are_ascii (codes "ack_floor") refl,
  (
    nowhere_simple,
    (
      IsUtf8-are_ascii (codes "config") refl,
      (
        simple,
        (
          IsUtf8-are_ascii (codes "created") refl,
          (
            IsUtf8-are_ascii (codes "2026-01-01T00:00:00Z") refl,
            (
              IsUtf8-are_ascii (codes "delivered") refl,
              (
                nowhere_simple,
                (
                  IsUtf8-are_ascii (codes "name") refl,
                  (
                    n,
                    (
                      IsUtf8-are_ascii (codes "num_ack_pending") refl,
                      (
                        zero,
                        (
                          IsUtf8-are_ascii (codes "num_pending") refl,
                          (
                            zero,
                            (
                              IsUtf8-are_ascii (codes "num_redelivered") refl,
                              (
                                zero,
                                (
                                  IsUtf8-are_ascii (codes "num_waiting") refl,
                                  (
                                    zero,
                                    (
                                      IsUtf8-are_ascii (codes "stream_name") refl,
                                      (s, tt),
                                    ),
                                  ),
                                ),
                              ),
                            ),
                          ),
                        ),
                      ),
                    ),
                  ),
                ),
              ),
            ),
          ),
        ),
      ),
    ),
  ),
)

setup_simple : (stream name : List ℕ) (config : Data) → IsUtf8 stream → IsUtf8 name → IsSimple IsUtf8 config → IsSimple IsUtf8 (setup_data stream name config)
setup_simple stream name config s n simple = (
  IsUtf8-are_ascii (codes "config") refl,
  (
    simple,
    (
      IsUtf8-are_ascii (codes "info") refl,
      (
        info_simple stream name config s n simple,
        (
          IsUtf8-are_ascii (codes "mode") refl,
          (
            IsUtf8-are_ascii (codes "pull") refl,
            (
              IsUtf8-are_ascii (codes "settings") refl,
              (
                tt,
                (
                  IsUtf8-are_ascii (codes "start") refl,
                  (zero, tt),
                ),
              ),
            ),
          ),
        ),
      ),
    ),
  ),
)

setup_fields_read : (stream name filter : List ℕ) (filters : List (List ℕ)) (start : ℕ) (further : Members) → config_fields (object further) ≡ Ok (relay_config filter filters start)
    → info_fields (info_data stream name (object further)) ≡ Ok (relay_info stream name (relay_config filter filters start))
    → setup_fields (setup_data stream name (object further)) ≡ Ok (relay_setup stream name filter filters start)
unfolding setup_fields settings_fields only required nested named mode_named text natural given defaulted setup_with ordered_setup
setup_fields_read stream name filter filters start further config first = rw (config, first) refl

pub setup_reads : (stream name filter : List ℕ) (filters : List (List ℕ)) (start : ℕ) → IsUtf8 stream → IsUtf8 name → IsUtf8 filter → AllByRecursion IsUtf8 filters → start < 2 ^ 64
    → (IsSimple IsUtf8 (setup_data stream name (config_data filter filters start)))
    × (setup_line (compact_text (setup_data stream name (config_data filter filters start))) ≡ Ok (relay_setup stream name filter filters start))
unfolding line_as value_as
setup_reads stream name filter filters start s n one more small =
    let config = config_data filter filters start in
    let whole = setup_data stream name config in
    let further = member (codes "deliver_policy") (string (codes "by_start_sequence")) (with_filter filter (with_filters filters (start_member start))) in
    let said = config_reads filter filters start in
    let outlined = config_outlined filter filters start small in
    let simple = setup_simple stream name config s n (config_simple filter filters start one more small) in
    let value : value_of (compact_text whole) ≡ Ok whole =
    value_reads whole simple (setup_shallow stream name config (config_shallow filter filters start))
    (setup_outlined stream name config outlined (info_outlined stream name config outlined)) in (
      simple,
      ap (λ (v : Result Data ReadError). v >>= setup_of) value
          ∙ setup_fields_read stream name filter filters start further said (info_reads stream name further (relay_config filter filters start) said),
    )

-- ---- an arrival

reply_utf8 : (stream name : List ℕ) (sequence number : ℕ) → IsUtf8 stream → IsUtf8 name → sequence < 2 ^ 64 → number < 2 ^ 64 → IsUtf8 (reply stream name sequence number)
reply_utf8 stream name sequence number s n small low =
    let dot = IsUtf8-are_ascii (codes ".") refl in
    let last : List ℕ = decimal number ++ codes ".0.0" in
    let middle : List ℕ = decimal sequence ++ (codes "." ++ last) in
    let back : List ℕ = codes ".1." ++ middle in
    let rest : List ℕ = codes "." ++ (name ++ back) in
    IsUtf8-append (codes "$JS.ACK.") (stream ++ rest) (IsUtf8-are_ascii (codes "$JS.ACK.") refl)
    (IsUtf8-append stream rest s
    (IsUtf8-append (codes ".") (name ++ back) dot
    (IsUtf8-append name back n
    (IsUtf8-append (codes ".1.") middle (IsUtf8-are_ascii (codes ".1.") refl)
    (IsUtf8-append (decimal sequence) (codes "." ++ last) (digits_utf8 sequence small)
    (IsUtf8-append (codes ".") last dot
    (IsUtf8-append (decimal number) (codes ".0.0") (digits_utf8 number low) (IsUtf8-are_ascii (codes ".0.0") refl))))))))

pub arrival_simple : (stream name : List ℕ) (number : ℕ) (entry : Entry) → IsUtf8 stream → IsUtf8 name → number < 2 ^ 64 → entry.sequence < 2 ^ 64 → IsText entry
    → IsSimple IsUtf8 (arrival_data stream name number entry)
arrival_simple stream name number entry s n low small says = (
  IsUtf8-are_ascii (codes "arrival") refl,
  (
    (
      IsUtf8-are_ascii (codes "inbox") refl,
      (
        zero,
        (
          IsUtf8-are_ascii (codes "payload") refl,
          (
            says.payload,
            (
              IsUtf8-are_ascii (codes "reply") refl,
              (
                reply_utf8 stream name entry.sequence number s n small low,
                (
                  IsUtf8-are_ascii (codes "subject") refl,
                  (says.subject, tt),
                ),
              ),
            ),
          ),
        ),
      ),
    ),
    (
      IsUtf8-are_ascii (codes "at") refl,
      (low, tt),
    ),
  ),
)

arrival_outlined : (stream name : List ℕ) (number : ℕ) (entry : Entry) → number < 2 ^ 64 → of_json (outline (arrival_data stream name number entry)) ≡ Some (arrival_data stream name number entry)
unfolding serde_json_on_literals
arrival_outlined stream name number entry low = rw (number_of-decimal number low, number_of-decimal 0 zero) refl

arrival_shallow : (stream name : List ℕ) (number : ℕ) (entry : Entry) → depth (outline (arrival_data stream name number entry)) ≤ 127
arrival_shallow stream name number entry = omega arith

arrival_fields_read : (stream name : List ℕ) (number : ℕ) (entry : Entry) → event_fields (arrival_data stream name number entry) ≡ Ok (arrival stream name number entry)
unfolding only_in event_fields_in what_fields with_key arrival_fields message_fields required given optional defaulted natural natural_of text
arrival_fields_read stream name number entry = refl

pub arrival_reads : (stream name : List ℕ) (number : ℕ) (entry : Entry) → IsUtf8 stream → IsUtf8 name → number < 2 ^ 64 → entry.sequence < 2 ^ 64 → IsText entry
    → event_line (compact_text (arrival_data stream name number entry)) ≡ Ok (arrival stream name number entry)
unfolding line_as value_as
arrival_reads stream name number entry s n low small says =
    let whole = arrival_data stream name number entry in
    let value : value_of (compact_text whole) ≡ Ok whole =
    value_reads whole (arrival_simple stream name number entry s n low small says) (arrival_shallow stream name number entry) (arrival_outlined stream name number entry low) in
    ap (λ (v : Result Data ReadError). v >>= event_of) value ∙ arrival_fields_read stream name number entry
