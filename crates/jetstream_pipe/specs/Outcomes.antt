-- What became of the lines of standard input.
use Rattle.std.specs.Prelude.{◌≡◌, ℕ, ◌+◌, ◌-◌, ◌^◌, ◌++◌, min, Bool, ◌||◌, Option, None, Some, Result, Ok, Err, is_err}
use Rattle.js_context_queue.specs.declared.published.Published.{Published}
use Rattle.js_json.specs.declared.publish_ack.PublishAck.{PublishAck}
use Rattle.jetstream_pipe.specs.declared.outcomes.Outcomes.{Outcomes}
use Rattle.js_pipe.specs.Lines.{outcome_line}

-- the number of the line that has this tag: tags count from 0, lines from 1
abbrev pub number_of : ℕ → ℕ
number_of tag = min (tag + 1) (2 ^ 64 - 1)

-- the stream sequence that a message is stored under, if that is known
abbrev pub stored_under : {E : Type 0} → Result PublishAck E → Option ℕ
stored_under (Ok ack) = Some ack.sequence
stored_under (Err error) = None

-- the outcome of a line stands behind the others, and one that is not known to be stored counts as failed
pub record Adds (tag : ℕ) (stored : Option ℕ) (has_failed : Bool) (old new : Outcomes) : Type 0 where
  pub line : new.page.items ≡ old.page.items ++ outcome_line (number_of tag) stored
  pub failed : new.has_failed ≡ (old.has_failed || has_failed)

-- what a queue handed out is added
abbrev pub AddsPublished : Published → Outcomes → Outcomes → Type 0
AddsPublished published old new = Adds published.tag.0 (stored_under published.outcome) (is_err published.outcome) old new
