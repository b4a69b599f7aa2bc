-- How a push consumer is read.
use Rattle.std.specs.Prelude.{ℕ, ◌≡◌, List, Option, Some, None, Result, Ok, Err}
use Rattle.js_base.specs.Error.{plain}
use Rattle.js_base.specs.declared.error.Error.{Error}
use Rattle.js_json.specs.declared.push.Config as push
use Rattle.js_link.specs.LinkView.{LinkView}
use Rattle.js_link.specs.Calls.{Opens}
use Rattle.js_call_consumers.specs.declared.consumer.Consumer.{Consumer}
use Rattle.js_readers.specs.PullConsumer.{message_timeout}
use Rattle.js_readers.specs.Stream.{RefusesStream}
use Rattle.js_readers.specs.declared.pull.error.StreamErrorKind.{StreamErrorKind}
use Rattle.js_readers.specs.declared.pull.error.StreamErrorKind.TheVariants.{Other}
use Rattle.js_readers.specs.PushRows.{new_messages}
use Rattle.js_readers.specs.declared.push.messages.Messages.{Messages}

-- a reader before its first poll, over an inbox that was opened for this subject, in the consumer's queue group where it has one
pub record Subscribes (r : Messages) (c : Consumer push.Config) (subject : List ℕ) (old new : LinkView) : Type 0 where
  pub inbox : ℕ
  pub opens : Opens inbox subject c.info.config.deliver_group old new
  pub reader : r ≡ new_messages inbox c.config.idle_heartbeat (message_timeout c.scope.timeout)

-- an info without a subject is refused, and nothing was sent
abbrev pub OpensFor : Option (List ℕ) → Result Messages (Error StreamErrorKind) → Consumer push.Config → LinkView → LinkView → Type 0
OpensFor None result c old new = (result ≡ Err (plain Other)) × (new ≡ old)
OpensFor (Some subject) (Ok r) c old new = Subscribes r c subject old new
OpensFor (Some subject) (Err e) c old new = RefusesStream e old new

-- what `messages` does
abbrev pub OpensMessages : Result Messages (Error StreamErrorKind) → Consumer push.Config → LinkView → LinkView → Type 0
OpensMessages result c old new = OpensFor c.info.config.deliver_subject result c old new
