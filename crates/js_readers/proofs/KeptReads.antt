-- The polls of batches, of sequences of batches and of a push consumer's messages keep the connection.
use Rattle.std.proofs.Common.{◌≡◌, ℕ, Bool, true, false, List, [], ◌∷◌, Option, Some, None, Result, Ok, Err, refl, sym, ◌∙◌, subst, ◌==◌}
use Rattle.js_base.specs.declared.error.Error.{Error}
use Rattle.js_base.specs.declared.message.Message.{Message}
use Rattle.js_base.specs.declared.turn.Next.{Next}
use Rattle.js_base.specs.declared.turn.Next.TheVariants as next
use Rattle.js_link.specs.LinkView.{LinkView}
use Rattle.js_link.specs.Meets.{Meets}
use Rattle.js_link.specs.declared.wish.Met.{Met}
use Rattle.js_pull.specs.declared.reader.MessagesErrorKind.{MessagesErrorKind}
use Rattle.js_readers.specs.Batch.{AnswersTo, BatchAnswer, ClosesIf, PollsBatch, PollsFrom, TakesAll, heard}
use Rattle.js_readers.specs.PullRequest.{AsksFrom, FailsToAsk, HasInbox, KeepsInbox}
use Rattle.js_readers.specs.PushMessages.{AnswersBy, IsPoll, Lacks, PassesQuietly, PollAnswer}
use Rattle.js_readers.specs.PushRows.{wish}
use Rattle.js_readers.specs.Sequence.{PollsSequence}
use Rattle.js_readers.specs.Subscription.{KeepsConnection}
use Rattle.js_readers.specs.declared.pull.batch.Batch.{Batch}
use Rattle.js_readers.specs.declared.pull.batch.BatchOutcome.{BatchOutcome}
use Rattle.js_readers.specs.declared.pull.batch.BatchOutcome.TheVariants as heard_as
use Rattle.js_readers.specs.declared.pull.request.OpenFault.{OpenFault}
use Rattle.js_readers.specs.declared.pull.request.OpenFault.TheVariants as fault
use Rattle.js_readers.specs.declared.pull.request.OpenInbox.{OpenInbox}
use Rattle.js_readers.specs.declared.pull.request.PullRequest.{PullRequest}
use Rattle.js_readers.specs.declared.pull.sequence.Sequence.{Sequence}
use Rattle.js_readers.specs.declared.push.messages.Messages.{Messages}
use Rattle.js_readers.proofs.KeptConnections.{keeps_both, keeps_closes, keeps_fails, keeps_look, keeps_meeting, keeps_opens, keeps_publishes, keeps_same, keeps_takes}

-- ---- a batch

all_taken : (inbox : ℕ) (messages : List Message) (v u : LinkView) → TakesAll inbox messages v u → KeepsConnection v u
all_taken inbox [] v u same = keeps_same v u same
all_taken inbox (message ∷ messages) v u (between, (takes, rest)) = keeps_both v between u (keeps_takes inbox message v between takes) (all_taken inbox messages between u rest)

closed_if : (last : Bool) (inbox : ℕ) (v u : LinkView) → ClosesIf last inbox v u → KeepsConnection v u
closed_if true inbox v u closes = keeps_closes inbox v u closes
closed_if false inbox v u same = keeps_same v u same

answered : (h : BatchOutcome) (inbox : ℕ) (old : Batch) (answer : BatchAnswer) (new : Batch) (v u : LinkView) → AnswersTo h inbox old answer new v u → KeepsConnection v u
answered heard_as.Skips inbox old answer new v u never = absurd never
answered heard_as.Waits inbox old answer new v u is = keeps_same v u is.2
answered (heard_as.Hands message) inbox old answer new v u is = closed_if (old.left == 1) inbox v u is.2
answered (heard_as.Refuses e) inbox old answer new v u is = keeps_closes inbox v u is.2
answered heard_as.Ends inbox old answer new v u is = keeps_closes inbox v u is.2

from_inbox : (opened : Option ℕ) (none_left : Bool) (now : ℕ) (old : Batch) (answer : BatchAnswer) (new : Batch) (v u : LinkView) → PollsFrom opened none_left now old answer new v u → KeepsConnection v u
from_inbox None none_left now old answer new v u ended = keeps_same v u ended.2
from_inbox (Some inbox) true now old answer new v u ends = keeps_closes inbox v u ends.2
from_inbox (Some inbox) false now old answer new v u reads =
    keeps_both v reads.passed u (all_taken inbox reads.heartbeats v reads.passed reads.takes_all)
    (keeps_both reads.passed reads.between u (keeps_look inbox reads.found reads.passed reads.between reads.takes)
    (answered (heard now old reads.found) inbox old answer new reads.between u reads.answers))

pub keeps_batch_poll : (now : ℕ) (old new : Batch) (answer : BatchAnswer) (v u : LinkView) → PollsBatch now old answer new v u → KeepsConnection v u
keeps_batch_poll now old new answer v u polls = from_inbox old.inbox (old.left == 0) now old answer new v u polls

-- ---- a sequence of batches

has_inbox : (kept : Option OpenInbox) (inbox : OpenInbox) (v u : LinkView) → HasInbox kept inbox v u → KeepsConnection v u
has_inbox (Some kept) inbox v u has = keeps_same v u has.1
has_inbox None inbox v u opens = keeps_opens inbox.id.0 inbox.subject v u opens

inbox_left : (kept left : Option OpenInbox) (v u : LinkView) → KeepsInbox kept left v u → KeepsConnection v u
inbox_left kept (Some inbox) v u has = has_inbox kept inbox v u has
inbox_left kept None v u none = keeps_same v u none.1

failed_to_ask : (kept : Option OpenInbox) (v u : LinkView) → FailsToAsk kept v u → KeepsConnection v u
failed_to_ask kept v u f =
    keeps_both v f.opened u (has_inbox kept f.inbox v f.opened f.has)
    (keeps_both f.opened f.failed u (keeps_fails f.opened f.failed f.fails) (keeps_closes f.inbox.id.0 f.failed u f.closes))

asked : (kept : Option OpenInbox) (result : Result ℕ OpenFault) (request : PullRequest) (left : Option OpenInbox) (v u : LinkView) → AsksFrom kept result request left v u → KeepsConnection v u
asked kept (Ok inbox) request left v u (sends, gone) =
    keeps_both v sends.between u (has_inbox kept _ v sends.between sends.has) (keeps_publishes request.subject _ request.payload sends.between u sends.publishes)
asked kept (Err fault.Subscribe) request left v u is = keeps_fails v u is.1
asked kept (Err fault.Pull) request left v u is = failed_to_ask kept v u is.0
asked kept (Err fault.OutOfMemory) request left v u is = inbox_left kept left v u is

pub keeps_sequence_poll : (now : ℕ) (old new : Sequence) (answer : Next (Result Batch (Error MessagesErrorKind))) (v u : LinkView) → PollsSequence now old answer new v u → KeepsConnection v u
keeps_sequence_poll now old new (next.Item (Ok batch)) v u asks = asked old.kept (Ok asks.inbox) old.request new.kept v u asks.asks
keeps_sequence_poll now old new (next.Item (Err e)) v u fails = asked old.kept (Err fails.cause) old.request new.kept v u fails.fails
keeps_sequence_poll now old new next.OutOfMemory v u lacks = asked old.kept (Err fault.OutOfMemory) old.request new.kept v u lacks
keeps_sequence_poll now old new next.Pending v u never = absurd never
keeps_sequence_poll now old new next.End v u never = absurd never

-- ---- a push consumer's messages

quietly_kept : (now : ℕ) (mets : List Met) (old new : Messages) (v u : LinkView) → PassesQuietly now mets old new v u → KeepsConnection v u
quietly_kept now [] old new v u is = keeps_same v u is.1
quietly_kept now (met ∷ mets) old new v u (middle, between, meets, is, rest) =
    keeps_both v between u (keeps_meeting (wish old.next old.inbox) met v between meets) (quietly_kept now mets middle new between u rest)

last_kept : (answer : PollAnswer) (now : ℕ) (old new : Messages) (v u : LinkView) → AnswersBy answer now old new v u → KeepsConnection v u
last_kept next.Pending now old new v u p = keeps_meeting (wish old.next old.inbox) p.met v u p.meets
last_kept (next.Item (Ok message)) now old new v u p = keeps_meeting (wish old.next old.inbox) p.0.met v u p.0.meets
last_kept (next.Item (Err e)) now old new v u p = keeps_meeting (wish old.next old.inbox) p.0.met v u p.0.meets
last_kept next.End now old new v u p = keeps_meeting (wish old.next old.inbox) p.met v u p.meets
last_kept next.OutOfMemory now old new v u lacks = keeps_same v u lacks.unanswered.1

pub keeps_push_poll : (now : ℕ) (old new : Messages) (answer : PollAnswer) (v u : LinkView) → IsPoll now old answer new v u → KeepsConnection v u
keeps_push_poll now old new answer v u poll =
    keeps_both v poll.between u (quietly_kept now poll.mets old poll.last v poll.between poll.silent) (last_kept answer now poll.last new poll.between u poll.answers)
