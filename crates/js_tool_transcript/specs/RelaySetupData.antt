-- The setup of a consumer that reads a mirror, as JSON.
use Rattle.std.specs.Prelude.{ℕ, List, [], ◌∷◌, codes}
use Rattle.serde_json.specs.Data.{Data, string, array, object, Items, no_items, item, Members, no_members, member}
use Rattle.js_tool_transcript.specs.Text.{count}

-- ---- the configuration

abbrev pub texts : List (List ℕ) → Items
texts [] = no_items
texts (text ∷ more) = item (string text) (texts more)

-- the one filter, where there is one, and further members
abbrev pub with_filter : List ℕ → Members → Members
with_filter [] further = further
with_filter (c ∷ cs) further = member (codes "filter_subject") (string (c ∷ cs)) further

-- the filters, where there are any, and further members
abbrev pub with_filters : List (List ℕ) → Members → Members
with_filters [] further = further
with_filters (filter ∷ filters) further = member (codes "filter_subjects") (array (texts (filter ∷ filters))) further

-- the sequence at which it starts
abbrev pub start_member : ℕ → Members
start_member start = member (codes "opt_start_seq") (count start) no_members

-- a configuration with these filters, which starts at a sequence
abbrev pub config_data : List ℕ → List (List ℕ) → ℕ → Data
config_data filter filters start =
    object (member (codes "deliver_policy") (string (codes "by_start_sequence")) (with_filter filter (with_filters filters (start_member start))))

-- ---- the setup

-- nothing was delivered
abbrev pub nowhere_data : Data
nowhere_data = object (member (codes "consumer_seq") (count 0) (member (codes "stream_seq") (count 0) no_members))

-- the info of the consumer with this name, of the stream with this name, that was sent nothing yet
abbrev pub info_data : List ℕ → List ℕ → Data → Data
info_data stream name config =
    object (member (codes "ack_floor") nowhere_data (
    member (codes "config") config (
    member (codes "created") (string (codes "2026-01-01T00:00:00Z")) (
    member (codes "delivered") nowhere_data (
    member (codes "name") (string name) (
    member (codes "num_ack_pending") (count 0) (
    member (codes "num_pending") (count 0) (
    member (codes "num_redelivered") (count 0) (
    member (codes "num_waiting") (count 0) (
    member (codes "stream_name") (string stream) no_members))))))))))

-- an ordered pull consumer with this configuration, with all settings at their defaults and the opening at the moment 0
abbrev pub setup_data : List ℕ → List ℕ → Data → Data
setup_data stream name config =
    object (member (codes "config") config (
    member (codes "info") (info_data stream name config) (
    member (codes "mode") (string (codes "pull")) (
    member (codes "settings") (object no_members) (
    member (codes "start") (count 0) no_members)))))
