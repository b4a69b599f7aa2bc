-- What a poll of an ordered consumer's reader answers.
use Rattle.std.specs.Prelude.{ℕ, Result}
use Rattle.js_base.specs.declared.error.Error.{Error}
use Rattle.js_base.specs.declared.turn.Next.{Next}
use Rattle.js_link.specs.LinkView.{LinkView}
use Rattle.js_message.specs.declared.message.Message.{Message}
use Rattle.js_ordered_stream.specs.Ordered as stream
use Rattle.js_ordered_stream.specs.declared.error.OrderedErrorKind.{OrderedErrorKind}
use Rattle.js_ordered_table.specs.declared.consumer.ReplayInput.{ReplayInput}
use Rattle.js_ordered_table.specs.Poll.{Answer}
use Rattle.js_ordered_table.specs.Walk.{Position}
use Rattle.js_readers.specs.Stream.{untimed}

-- what `poll_next` answers, of which the message is handed out with how long its acknowledgement waits
abbrev pub given_answer : Next (Result Message (Error OrderedErrorKind)) → Answer
given_answer result = stream.poll_answer (untimed result)

-- a poll, and the source of the error that it answers
abbrev pub PollsWithSource : ReplayInput → ℕ → Position → Position → LinkView → LinkView → Next (Result Message (Error OrderedErrorKind)) → Type 0
PollsWithSource g now old new before after result = stream.PollsWithSource g now old new before after (untimed result)
