-- What the configuration and the info of a consumer that reads a mirror are read as.
use Rattle.std.proofs.Common.{◌≡◌, ℕ, ◌^◌, ◌<◌, ◌≤◌, List, [], ◌∷◌, Some, Ok, refl, arith}
use Rattle.std.specs.List.{AllByRecursion}
use Rattle.std.specs.Str.{IsUtf8}
use Rattle.std.specs.Fmt.{digits}
use Rattle.json.specs.Tree.{depth, items_depth}
use Rattle.json.proofs.Printed.Utf8.{IsUtf8-are_ascii}
use Rattle.serde_json.specs.Data.{Data, object, Members}
use Rattle.serde_json.specs.Read.{of_json, of_items}
use Rattle.serde_json.specs.Written.{outline, items_outline}
use Rattle.serde_json.proofs.Numbers.{number_of-decimal}
use Rattle.js_json_members.specs.declared.key.Key.{Key}
use Rattle.js_json_members.specs.declared.key.Key.TheVariants as key
use Rattle.js_json_members.specs.Member.{text, all_read}
use Rattle.js_json.specs.ConsumerConfig.{config_fields}
use Rattle.js_json.specs.ConsumerInfo.{info_fields}
use Rattle.js_json.specs.declared.consumer.config.Config.{Config}
use Rattle.js_json.specs.ConsumerInfo.{identity, progress, states}
use Rattle.js_json.specs.SequenceInfo.{sequence_info_fields}
use Rattle.js_json.proofs.OnLiterals.{infos_on_literals}
use Rattle.js_json_members.proofs.OnLiterals.{reading_on_literals}
use Rattle.js_tool_transcript.specs.RelaySetupData.{texts, config_data, info_data}
use Rattle.js_tool_transcript.specs.RelayConfig.{relay_config, relay_info}
use Rattle.js_tool_transcript.proofs.CompactText.{IsSimple, ItemsAreSimple}

-- ---- lists of texts

texts_read : (key : Key) (list : List (List ℕ)) → all_read text key (texts list) ≡ Ok list
unfolding text
texts_read key [] = refl
texts_read key (s ∷ list) = rw (texts_read key list) refl

pub texts_outlined : (list : List (List ℕ)) → of_items (items_outline (texts list)) ≡ Some (texts list)
texts_outlined [] = refl
texts_outlined (s ∷ list) = rw (texts_outlined list) refl

texts_flat : (list : List (List ℕ)) → items_depth (items_outline (texts list)) ≡ 0
texts_flat [] = refl
texts_flat (s ∷ list) = rw (texts_flat list) refl

pub texts_simple : (list : List (List ℕ)) → AllByRecursion IsUtf8 list → ItemsAreSimple IsUtf8 (texts list)
texts_simple [] h = tt
texts_simple (s ∷ list) h = (h.0, texts_simple list h.1)

-- ---- the configuration

pub config_outlined : (filter : List ℕ) (filters : List (List ℕ)) (start : ℕ) → start < 2 ^ 64
    → of_json (outline (config_data filter filters start)) ≡ Some (config_data filter filters start)
unfolding infos_on_literals
config_outlined [] [] start small = rw (number_of-decimal start small) refl
config_outlined (c ∷ cs) [] start small = rw (number_of-decimal start small) refl
config_outlined [] (f ∷ fs) start small = rw (number_of-decimal start small, texts_outlined fs) refl
config_outlined (c ∷ cs) (f ∷ fs) start small = rw (number_of-decimal start small, texts_outlined fs) refl

pub config_reads : (filter : List ℕ) (filters : List (List ℕ)) (start : ℕ) → config_fields (config_data filter filters start) ≡ Ok (relay_config filter filters start)
unfolding infos_on_literals
config_reads [] [] start = refl
config_reads (c ∷ cs) [] start = refl
config_reads [] (f ∷ fs) start = rw (texts_read key.FilterSubjects fs) refl
config_reads (c ∷ cs) (f ∷ fs) start = rw (texts_read key.FilterSubjects fs) refl

pub config_shallow : (filter : List ℕ) (filters : List (List ℕ)) (start : ℕ) → depth (outline (config_data filter filters start)) ≤ 2
config_shallow [] [] start = omega arith
config_shallow (c ∷ cs) [] start = omega arith
config_shallow [] (f ∷ fs) start = rw (texts_flat fs) (omega arith)
config_shallow (c ∷ cs) (f ∷ fs) start = rw (texts_flat fs) (omega arith)

pub config_simple : (filter : List ℕ) (filters : List (List ℕ)) (start : ℕ) → IsUtf8 filter → AllByRecursion IsUtf8 filters → start < 2 ^ 64
    → IsSimple IsUtf8 (config_data filter filters start)
config_simple [] [] start one more small = (IsUtf8-are_ascii _ refl, (IsUtf8-are_ascii _ refl, (IsUtf8-are_ascii _ refl, (small, tt))))
config_simple (c ∷ cs) [] start one more small =
    (IsUtf8-are_ascii _ refl, (IsUtf8-are_ascii _ refl, (IsUtf8-are_ascii _ refl, (one, (IsUtf8-are_ascii _ refl, (small, tt))))))
config_simple [] (f ∷ fs) start one more small =
    (IsUtf8-are_ascii _ refl, (IsUtf8-are_ascii _ refl, (IsUtf8-are_ascii _ refl, (texts_simple (f ∷ fs) more, (IsUtf8-are_ascii _ refl, (small, tt))))))
config_simple (c ∷ cs) (f ∷ fs) start one more small =
    (IsUtf8-are_ascii _ refl, (IsUtf8-are_ascii _ refl, (IsUtf8-are_ascii _ refl, (one, (IsUtf8-are_ascii _ refl, (texts_simple (f ∷ fs) more, (IsUtf8-are_ascii _ refl, (small, tt))))))))

-- ---- the info

pub info_outlined : (stream name : List ℕ) (config : Data) → of_json (outline config) ≡ Some config → of_json (outline (info_data stream name config)) ≡ Some (info_data stream name config)
unfolding infos_on_literals digits
info_outlined stream name config same = rw same refl

-- of an info with any configuration that reads
pub info_reads : (stream name : List ℕ) (further : Members) (said : Config) → config_fields (object further) ≡ Ok said
    → info_fields (info_data stream name (object further)) ≡ Ok (relay_info stream name said)
unfolding reading_on_literals identity progress states sequence_info_fields info_fields
info_reads stream name further said reads = rw reads refl
