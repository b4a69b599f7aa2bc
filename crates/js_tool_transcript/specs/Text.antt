-- The text of a run, and of a refusal.
use Rattle.std.specs.Prelude.{ℕ, ℤ, Bool, pos, negsuc, ◌+◌, ◌∷◌, ◌++◌, [], List, codes, length, ◌==◌, if◌then◌else◌, flat_map, Option, Some, None}
use Rattle.std.specs.Fmt.{signed_decimal}
use Rattle.serde_json.specs.Data.{Data, null, boolean, number, string, array, unsigned, negative}
use Rattle.serde_json.specs.View.{items_of}
use Rattle.serde_json.specs.Written.{compact_text}
use Rattle.js_ordered_table.specs.declared.run.Start.{Start}
use Rattle.js_ordered_table.specs.declared.run.Start.TheVariants.{All, From}
use Rattle.js_ordered_table.specs.declared.run.ItemKind.{ItemKind}
use Rattle.js_ordered_table.specs.declared.run.ItemKind.TheVariants as kind
use Rattle.js_ordered_table.specs.declared.run.Output.{Output}
use Rattle.js_ordered_table.specs.declared.run.Output.TheVariants as out
use Rattle.js_ordered_table.specs.declared.run.Step.{Step}
use Rattle.js_ordered_table.specs.declared.run.Run.{Run}
use Rattle.js_ordered_table.specs.declared.run.Field.{Field}
use Rattle.js_ordered_table.specs.declared.run.Field.TheVariants as field
use Rattle.js_ordered_table.specs.declared.run.ReplayError.{ReplayError}
use Rattle.js_ordered_table.specs.declared.run.ReplayError.TheVariants as error
use Rattle.js_tool_transcript.specs.declared.text.line.Cell.{Cell}
use Rattle.js_tool_transcript.specs.declared.text.line.Cell.TheVariants as cell

-- ---- lines

-- a compact JSON array and a line feed
unfoldable pub line_text : List Data → List ℕ
line_text cells = compact_text (array (items_of cells)) ++ 10 ∷ []

abbrev pub count : ℕ → Data
count n = number (unsigned n)

abbrev pub integer : ℤ → Data
integer (pos n) = count n
integer (negsuc n) = number (negative (negsuc n))

-- a text, or null where there is none
abbrev pub text_or_null : Option (List ℕ) → Data
text_or_null None = null
text_or_null (Some text) = string text

-- what a cell of a line is as a JSON value
abbrev pub cell_data : Cell → Data
cell_data cell.Null = null
cell_data (cell.Truth b) = boolean b
cell_data (cell.Number n) = count n
cell_data (cell.Integer z) = integer z
cell_data (cell.Digits z) = string (signed_decimal z)
cell_data (cell.Text text) = string text.now

-- ---- outputs

abbrev pub kind_name : ItemKind → List ℕ
kind_name kind.MissingHeartbeat = codes "MissingHeartbeat"
kind_name kind.RequestLimitExceeded = codes "RequestLimitExceeded"
kind_name kind.PushBasedConsumer = codes "PushBasedConsumer"
kind_name kind.Pull = codes "Pull"
kind_name kind.Recreate = codes "Recreate"
kind_name kind.Other = codes "Other"
kind_name kind.StreamNotFound = codes "StreamNotFound"

-- where a recreated consumer starts
abbrev pub start_data : Start → Data
start_data All = string (codes "all")
start_data (From sequence) = count sequence

-- a subject that is not empty
abbrev pub unless_empty : List ℕ → List Data
unless_empty text = if length text == 0 then [] else string text ∷ []

-- the cells of an output, behind its step's number
abbrev pub output_cells : Output → List Data
output_cells (out.Yield stream_sequence consumer_sequence subject payload) = string (codes "yield") ∷ count stream_sequence ∷ count consumer_sequence ∷ string payload ∷ unless_empty subject
output_cells (out.Item kind) = string (codes "item") ∷ string (kind_name kind) ∷ []
output_cells (out.Recreate recreation_count start) = string (codes "recreate") ∷ count recreation_count ∷ start_data start ∷ []
output_cells (out.Request n subject payload) = string (codes "request") ∷ count n ∷ string subject ∷ string payload ∷ []
output_cells (out.Publish subject reply payload) = string (codes "publish") ∷ string subject ∷ text_or_null reply ∷ string payload ∷ []
output_cells (out.Subscribe inbox subject) = string (codes "subscribe") ∷ count inbox ∷ string subject ∷ []

abbrev pub output_text : ℕ → Output → List ℕ
output_text step output = line_text (count step ∷ output_cells output)

-- ---- the run

abbrev pub step_text : ℕ → Step → List ℕ
step_text n step = flat_map (output_text n) step.outputs

-- the steps, numbered from n on
abbrev pub steps_text : ℕ → List Step → List ℕ
steps_text n [] = []
steps_text n (step ∷ steps) = step_text n step ++ steps_text (n + 1) steps

-- the text of the opening and of the steps, without the last line
abbrev pub text_so_far : Run → List ℕ
text_so_far run = step_text 0 run.opening ++ steps_text 1 run.steps

-- the last line: whether the consumer has ended, and how many events there were
abbrev pub last_line : Bool → ℕ → List ℕ
last_line ended events = line_text (string (codes "end") ∷ boolean ended ∷ count events ∷ [])

abbrev pub end_text : Run → List ℕ
end_text run = last_line run.ended (length run.steps)

-- the opening's outputs, those of each event in order, and the end
unfoldable pub run_text : Run → List ℕ
run_text run = step_text 0 run.opening ++ steps_text 1 run.steps ++ end_text run

-- ---- refusals

abbrev pub field_name : Field → List ℕ
field_name field.StreamName = codes "stream_name"
field_name field.Name = codes "name"
field_name field.ApiPrefix = codes "api_prefix"
field_name field.InboxPrefix = codes "inbox_prefix"
field_name field.FilterSubject = codes "filter_subject"
field_name field.DeliverSubject = codes "deliver_subject"

-- a name, and what stands behind it
abbrev pub with_detail : List ℕ → Option Data → List Data
with_detail name None = string name ∷ []
with_detail name (Some detail) = string name ∷ detail ∷ []

-- a refusal by its name, with its field or place
abbrev pub refusal_cells : ReplayError → List Data
refusal_cells error.NoDeliverSubject = string (codes "NoDeliverSubject") ∷ []
refusal_cells (error.BadSettings field) = string (codes "BadSettings") ∷ string (field_name field) ∷ []
refusal_cells (error.BadEvent place) = string (codes "BadEvent") ∷ count place ∷ []
refusal_cells (error.SequenceEnd place) = string (codes "SequenceEnd") ∷ count place ∷ []
refusal_cells error.OutOfMemory = string (codes "OutOfMemory") ∷ []

-- the line of a refusal
abbrev pub refusal_text : ReplayError → List ℕ
refusal_text refusal = line_text (string (codes "refused") ∷ refusal_cells refusal)
