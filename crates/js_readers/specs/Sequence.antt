-- Batches one after the other.
use Rattle.std.specs.Prelude.{ℕ, ◌≡◌, ◌≢◌, ◌*◌, Bool, true, false, Some, None, Result, Ok, Err}
use Rattle.js_base.specs.Clock.{second}
use Rattle.js_base.specs.Error.{plain}
use Rattle.js_base.specs.declared.error.Error.{Error}
use Rattle.js_base.specs.declared.turn.Next.{Next}
use Rattle.js_base.specs.declared.turn.Next.TheVariants as next
use Rattle.js_json.specs.declared.pull.batch.BatchConfig.{BatchConfig}
use Rattle.js_json.specs.declared.pull.Config as pull
use Rattle.js_link.specs.LinkView.{LinkView}
use Rattle.js_call_consumers.specs.declared.consumer.Consumer.{Consumer}
use Rattle.js_pull.specs.declared.reader.MessagesErrorKind.{MessagesErrorKind}
use Rattle.js_pull.specs.declared.reader.MessagesErrorKind.TheVariants as messages
use Rattle.js_readers.specs.declared.pull.batch.Batch.{Batch}
use Rattle.js_readers.specs.declared.pull.error.BatchErrorKind.{BatchErrorKind}
use Rattle.js_readers.specs.declared.pull.error.BatchErrorKind.TheVariants as kind
use Rattle.js_readers.specs.declared.pull.request.OpenFault.{OpenFault}
use Rattle.js_readers.specs.declared.pull.request.OpenFault.TheVariants as fault
use Rattle.js_readers.specs.declared.pull.sequence.Sequence.{Sequence}
use Rattle.js_readers.specs.Batch.{new_batch}
use Rattle.js_readers.specs.PullConsumer.{is_pinned, message_timeout, pull_request}
use Rattle.js_readers.specs.PullRequest.{AsksFrom}

-- a sequence of batches that ask for so much, which keeps no inbox yet
abbrev pub new_sequence : Consumer pull.Config → BatchConfig → Sequence
new_sequence c config = record { request = pull_request c config; batch = config.batch; timeout = message_timeout c.scope.timeout; kept = None }

-- pinned clients are refused, and else only memory may be wanting
abbrev pub OpensSequenceUnless : Bool → Result Sequence (Error BatchErrorKind) → Consumer pull.Config → BatchConfig → Type 0
OpensSequenceUnless true result c config = result ≡ Err (plain kind.PinnedClient)
OpensSequenceUnless false (Ok s) c config = s ≡ new_sequence c config
OpensSequenceUnless false (Err e) c config = e ≡ plain kind.OutOfMemory

abbrev pub OpensSequence : Result Sequence (Error BatchErrorKind) → Consumer pull.Config → BatchConfig → Type 0
OpensSequence result c config = OpensSequenceUnless (is_pinned c.config.priority_policy) result c config

-- the next batch was asked for, and waits 60 seconds
pub record AsksNext (b : Batch) (now : ℕ) (s after : Sequence) (old new : LinkView) : Type 0 where
  pub inbox : ℕ
  pub asks : AsksFrom s.kept (Ok inbox) s.request after.kept old new
  pub batch : b ≡ new_batch inbox s.batch (Some (record { set = now; wait = 60 * second })) s.timeout

-- the link failed
pub record FailsNext (e : Error MessagesErrorKind) (s after : Sequence) (old new : LinkView) : Type 0 where
  pub cause : OpenFault
  pub is_fault : cause ≢ fault.OutOfMemory
  pub fails : AsksFrom s.kept (Err cause) s.request after.kept old new
  pub error : e ≡ plain messages.Pull

-- what `poll_next` does: it never waits and never ends, and begins with the inbox that it has kept
abbrev pub PollsSequence : ℕ → Sequence → Next (Result Batch (Error MessagesErrorKind)) → Sequence → LinkView → LinkView → Type 0
PollsSequence now s (next.Item (Ok b)) after old new = AsksNext b now s after old new
PollsSequence now s (next.Item (Err e)) after old new = FailsNext e s after old new
PollsSequence now s next.OutOfMemory after old new = AsksFrom s.kept (Err fault.OutOfMemory) s.request after.kept old new
PollsSequence now s next.Pending after old new = ⊥
PollsSequence now s next.End after old new = ⊥

-- all but the inbox that is kept stays the same
abbrev pub KeepsAsking : Sequence → Sequence → Type 0
KeepsAsking s after = after ≡ record s { kept = after.kept }
