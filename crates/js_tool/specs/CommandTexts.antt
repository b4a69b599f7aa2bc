-- The lines that `generate`, `info` and `window` write.
use Rattle.std.specs.Prelude.{ℕ, List, [], ◌∷◌, codes, Result, Ok, Err}
use Rattle.std.specs.Fmt.{signed_decimal}
use Rattle.serde_json.specs.Data.{Data, boolean, string}
use Rattle.js_tool_generate.specs.declared.summary.Summary.{Summary}
use Rattle.js_message.specs.AckSubject.{Info}
use Rattle.js_message.specs.declared.info_error.InfoError.{InfoError}
use Rattle.js_message.specs.declared.info_error.InfoError.TheVariants as error
use Rattle.js_window_workers.specs.declared.workers.WindowCounts.{WindowCounts}
use Rattle.js_tool.specs.declared.status.Status.{Status}
use Rattle.js_tool.specs.declared.status.Status.TheVariants as status
use Rattle.js_tool_transcript.specs.Text.{line_text, count, integer, text_or_null}

-- ---- generated transcripts

-- the line of how much a replay put out
abbrev pub summary_text : Summary → List ℕ
summary_text s = line_text (
    string (codes "summary") ∷ count s.events ∷ count s.yields ∷ count s.items ∷ count s.recreations ∷ count s.requests
    ∷ count s.publishes ∷ count s.subscribes ∷ count s.last ∷ [])

-- ---- what a subject says

-- the line of what a subject says. The nanoseconds are a text
abbrev pub info_text : Info → List ℕ
info_text info = line_text (
    string (codes "info") ∷ text_or_null info.domain ∷ text_or_null info.acc_hash ∷ string info.stream ∷ string info.consumer
    ∷ integer info.delivered ∷ count info.stream_sequence ∷ count info.consumer_sequence ∷ string (signed_decimal info.published)
    ∷ count info.pending ∷ text_or_null info.token ∷ [])

-- an error by its name, with its number or place
abbrev pub error_cells : InfoError → List Data
error_cells error.Prefix = string (codes "Prefix") ∷ []
error_cells (error.TokenCount n) = string (codes "TokenCount") ∷ count n ∷ []
error_cells (error.Number place) = string (codes "Number") ∷ count place ∷ []
error_cells error.Instant = string (codes "Instant") ∷ []

-- the line of a subject that says nothing
abbrev pub error_text : InfoError → List ℕ
error_text e = line_text (string (codes "refused") ∷ error_cells e)

-- the status that a subject calls for, where nothing fails
abbrev pub info_status : Result Info InfoError → Status
info_status (Ok info) = status.Done
info_status (Err e) = status.Refused

-- ---- threads on a window

-- the line of what threads came to that took permits of a window
abbrev pub window_text : ℕ → ℕ → ℕ → WindowCounts → List ℕ
window_text capacity threads calls counts = line_text (
    string (codes "window") ∷ count capacity ∷ count threads ∷ count calls
    ∷ count counts.got ∷ count counts.full ∷ boolean counts.all_free ∷ [])
