-- The transcript of a mirror that is served again: the setup of a consumer that reads it, and the arrivals of the mirror's entries.
use Rattle.std.specs.Prelude.{ℕ, ◌+◌, List, [], ◌∷◌, ◌++◌, codes}
use Rattle.serde_json.specs.Data.{Data, string, object, no_members, member}
use Rattle.serde_json.specs.Written.{compact_text}
use Rattle.js_base.specs.declared.message.Entry.{Entry}
use Rattle.js_event_log.specs.Events.{reply}
use Rattle.js_tool_transcript.specs.Text.{count}
use Rattle.js_tool_transcript.specs.RelaySetupData.{config_data, setup_data}

-- ---- the arrivals

-- an entry that arrives on the first inbox as the message with this number, at the moment of its number
abbrev pub arrival_data : List ℕ → List ℕ → ℕ → Entry → Data
arrival_data stream name number entry =
    object (member (codes "arrival") (object (
    member (codes "inbox") (count 0) (
    member (codes "payload") (string entry.payload) (
    member (codes "reply") (string (reply stream name entry.sequence number)) (
    member (codes "subject") (string entry.subject) no_members))))) (
    member (codes "at") (count number) no_members))

-- the entries arrive one after another, numbered from a number on
abbrev pub arrivals : List ℕ → List ℕ → ℕ → List Entry → List Data
arrivals stream name number [] = []
arrivals stream name number (entry ∷ entries) = arrival_data stream name number entry ∷ arrivals stream name (number + 1) entries

-- ---- the text

-- compact JSON with sorted keys, and a line feed
abbrev pub value_line : Data → List ℕ
value_line d = compact_text d ++ 10 ∷ []

abbrev pub value_lines : List Data → List ℕ
value_lines [] = []
value_lines (d ∷ ds) = value_line d ++ value_lines ds

-- The setup has the names, the filters of another setup, and the mirror's start; the arrivals are numbered from 1. A body that leaves an entry out is refused by it.
abbrev pub relay_text : List ℕ → List ℕ → List ℕ → List (List ℕ) → ℕ → List Entry → List ℕ
relay_text stream name filter filters start entries =
    value_lines (setup_data stream name (config_data filter filters start) ∷ arrivals stream name 1 entries)
