-- The lines that are written of a log: its table, its messages and holes, its transcript, and why there are none.
use Rattle.std.specs.Prelude.{ℕ, ◌+◌, ◌-◌, nat_lt, List, [], ◌∷◌, ◌++◌, codes, length, fold, flat_map, Option, Some, None, if◌then◌else◌}
use Rattle.serde_json.specs.Data.{string}
use Rattle.js_base.specs.declared.message.Entry.{Entry}
use Rattle.js_event_log.specs.Projection.{up_to, last_sequence, table, matched}
use Rattle.js_tool_transcript.specs.RelayText.{relay_text}
use Rattle.js_ordered_table.specs.declared.setup.OrderedSetup.{OrderedSetup}
use Rattle.js_ordered_table.specs.Texts.{config_of}
use Rattle.js_tool_transcript.specs.Text.{line_text, count}

-- ---- refusals

-- the setup has no configured start
abbrev pub no_start_text : List ℕ
no_start_text = line_text (string (codes "refused") ∷ string (codes "NoStart") ∷ [])

-- a yield's sequence is not above the one before it
abbrev pub not_rising_text : ℕ → List ℕ
not_rising_text last = line_text (string (codes "refused") ∷ string (codes "NotRising") ∷ count last ∷ [])

-- ---- the table

abbrev pub entry_text : Entry → List ℕ
entry_text entry = line_text (string (codes "entry") ∷ string entry.subject ∷ count entry.sequence ∷ string entry.payload ∷ [])

-- each row, then their number and the sequence up to which they stand
abbrev pub rows_text : List Entry → ℕ → List ℕ
rows_text rows last = flat_map entry_text rows ++ line_text (string (codes "table") ∷ count (length rows) ∷ count last ∷ [])

-- the entries up to a sequence, or all where none is named
abbrev pub shown : Option ℕ → List Entry → List Entry
shown None entries = entries
shown (Some sequence) entries = up_to sequence entries

-- the table of what is shown, as far as a filter matches
abbrev pub table_text : List ℕ → Option ℕ → List Entry → List ℕ
table_text filter sequence entries = rows_text (matched filter (table (shown sequence entries))) (last_sequence (shown sequence entries))

-- ---- the mirror

-- the sequences between two others, where there are any
abbrev pub hole_text : ℕ → ℕ → List ℕ
hole_text last sequence =
    if nat_lt (last + 1) sequence then line_text (string (codes "hole") ∷ count (last + 1) ∷ count (sequence - 1) ∷ []) else []

abbrev pub message_text : Entry → List ℕ
message_text entry = line_text (string (codes "message") ∷ count entry.sequence ∷ string entry.subject ∷ string entry.payload ∷ [])

-- each message, behind the hole between it and the one before
abbrev pub slots_text : ℕ → List Entry → List ℕ
slots_text last [] = []
slots_text last (entry ∷ entries) = hole_text last entry.sequence ++ message_text entry ++ slots_text entry.sequence entries

-- the sequence of the last entry, or else this one
abbrev pub last_after : ℕ → List Entry → ℕ
last_after last entries = fold (λ _ (entry : Entry). entry.sequence) last entries

-- the start, the last sequence, how many messages there are, and how many sequences from the start to the last have none
abbrev pub counts_text : ℕ → ℕ → ℕ → List ℕ
counts_text start last messages = line_text (
    string (codes "mirror") ∷ count start ∷ count last ∷ count messages ∷ count (last - (start - 1) - messages) ∷ [])

abbrev pub mirror_text : ℕ → List Entry → List ℕ
mirror_text start entries = slots_text (start - 1) entries ++ counts_text start (last_after (start - 1) entries) (length entries)

-- ---- the transcript

-- of a consumer that is sent the entries from a start on, with the filters of a setup
abbrev pub served_text : List ℕ → List ℕ → OrderedSetup → ℕ → List Entry → List ℕ
served_text stream name setup start entries = relay_text stream name (config_of setup).filter_subject (config_of setup).filter_subjects start entries
