-- When a consumer has something to do though nothing comes, and the line that says so.
use Rattle.std.specs.Prelude.{ℕ, ◌+◌, ◌^◌, Bool, nat_le, nat_lt, List, [], ◌∷◌, codes, Option, Some, None, if◌then◌else◌}
use Rattle.serde_json.specs.Data.{Data, null, string}
use Rattle.js_base.specs.declared.clock.Timer.{Timer}
use Rattle.js_pull.specs.declared.reader.InfoRequest.{InfoRequest}
use Rattle.js_pull.specs.declared.reader.InfoRequest.TheVariants.{NoInfoRequest, Asked, Resting}
use Rattle.js_pull.specs.declared.reader.Reader.{Reader}
use Rattle.js_ordered_table.specs.declared.consumer.Phase.{Phase}
use Rattle.js_ordered_table.specs.declared.consumer.Phase.TheVariants.{Pulls, Pushes, Recreates, Idle, Ended, Exhausted}
use Rattle.js_ordered_table.specs.declared.consumer.Stage.{Stage}
use Rattle.js_ordered_table.specs.declared.consumer.Stage.TheVariants.{Between, Deleting, Creating, Waiting}
use Rattle.js_tool_transcript.specs.Text.{line_text, count}

-- ---- moments

-- a moment, unless it is past the last one of the type
abbrev pub within_type : ℕ → Option ℕ
within_type moment = if nat_lt moment (2 ^ 64) then Some moment else None

-- the end of a wait
abbrev pub wait_end : Timer → Option ℕ
wait_end timer = within_type (timer.set + timer.wait)

-- the end of a wait, where there is one
abbrev pub any_wait_end : Option Timer → Option ℕ
any_wait_end None = None
any_wait_end (Some timer) = wait_end timer

-- the earlier of two moments, where there are two
abbrev pub earlier : Option ℕ → Option ℕ → Option ℕ
earlier None second = second
earlier (Some first) None = Some first
earlier (Some first) (Some second) = if nat_le first second then Some first else Some second

-- ---- a consumer

-- an open info request counts with its wait; without one the expiry of the pull requests does
abbrev pub info_wait_end : InfoRequest → Option Timer → Option ℕ
info_wait_end NoInfoRequest expiry = any_wait_end expiry
info_wait_end (Asked request timeout failures) expiry = any_wait_end timeout
info_wait_end (Resting wait failures) expiry = wait_end wait

-- the first end of the waits of a pull reader that has not ended
abbrev pub reader_wait_end : Reader → Option ℕ
reader_wait_end r = if r.ended then None else earlier (info_wait_end r.inquiry r.expiry) (any_wait_end r.heartbeat_timer)

-- the end of the wait of an open recreation
abbrev pub stage_wait_end : Stage → Option ℕ
stage_wait_end Between = None
stage_wait_end (Deleting request timeout) = wait_end timeout
stage_wait_end (Creating request timeout) = wait_end timeout
stage_wait_end (Waiting wait) = wait_end wait

-- the first end of a consumer's waits; at once where its recreation is to begin, and never where it has ended
abbrev pub wakes_at : Phase → Option ℕ
wakes_at (Pulls reader) = reader_wait_end reader
wakes_at (Pushes inbox heartbeat_timer) = wait_end heartbeat_timer
wakes_at (Recreates r) = stage_wait_end r.stage
wakes_at Idle = Some 0
wakes_at Ended = None
wakes_at Exhausted = None

-- ---- the line

abbrev pub moment_or_null : Option ℕ → Data
moment_or_null None = null
moment_or_null (Some moment) = count moment

-- the moment at which a consumer wakes, behind the number of the step
abbrev pub wakes_line : ℕ → Phase → List ℕ
wakes_line step phase = line_text (count step ∷ string (codes "wakes") ∷ moment_or_null (wakes_at phase) ∷ [])

-- the same where it is asked for
abbrev pub wakes_text : Bool → ℕ → Phase → List ℕ
wakes_text asked step phase = if asked then wakes_line step phase else []
