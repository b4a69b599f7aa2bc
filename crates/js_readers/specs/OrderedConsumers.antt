-- An ordered consumer, by pull or by push, as a subscription: what its polls do, and when nothing has come for it.
use Rattle.std.specs.Prelude.{ℕ, ◌≡◌, Result}
use Rattle.js_base.specs.declared.error.Error.{Error}
use Rattle.js_base.specs.declared.turn.Next.{Next}
use Rattle.js_link.specs.LinkView.{LinkView}
use Rattle.js_link.specs.Meets.{Meets}
use Rattle.js_link.specs.Wish.{watch_met}
use Rattle.js_message.specs.declared.message.Message.{Message}
use Rattle.js_ordered_stream.specs.declared.error.OrderedErrorKind.{OrderedErrorKind}
use Rattle.js_ordered_stream.specs.Ordered.{IsGivenKind}
use Rattle.js_ordered_table.specs.declared.consumer.ReplayInput.{ReplayInput}
use Rattle.js_ordered_table.specs.Poll.{IsPoll}
use Rattle.js_ordered_table.specs.Timers.{IsUnread, SleepsIfLeftAlone, StandsStill}
use Rattle.js_ordered_table.specs.Walk.{Position}
use Rattle.js_readers.specs.OrderedPolls.{PollsWithSource, given_answer}
use Rattle.js_readers.specs.Stream.{IsTimed}

-- a poll of a consumer that is made with this, and whose messages wait so long for the answer to a double ack: both stay, it is a poll as
-- the table of rows has it, its error has its source and a kind that is given, and one that was left alone does nothing
pub record PollsOrdered (now timeout later : ℕ) (g left : ReplayInput) (old new : Position) (before after : LinkView) (result : Next (Result Message (Error OrderedErrorKind))) : Type 0 where
  pub given : left ≡ g
  pub polls : IsPoll g Meets now old new before after (given_answer result)
  pub sources : PollsWithSource g now old new before after result
  pub kinds : IsGivenKind result
  pub sleeps : SleepsIfLeftAlone g now old new before after (given_answer result)
  pub timed : IsTimed timeout result
  pub kept : later ≡ timeout

-- the connection is as it was last told, and nothing has come for it
pub record IsOrderedQuiet (g : ReplayInput) (at : Position) (v : LinkView) : Type 0 where
  pub connection : StandsStill g.setup at.consumer.connection (watch_met v.watch)
  pub unread : IsUnread at.consumer.phase v
