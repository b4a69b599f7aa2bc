-- How the kinds of a reader's errors are printed.
use Rattle.std.specs.Prelude.{ℕ, List, codes}
use Rattle.js_readers.specs.declared.push.error.MessagesErrorKind.{MessagesErrorKind}
use Rattle.js_readers.specs.declared.push.error.MessagesErrorKind.TheVariants as messages

-- what a reader tells in place of a message
abbrev pub messages_text : MessagesErrorKind → List ℕ
messages_text messages.MissingHeartbeat = codes "missed idle heartbeat"
messages_text messages.ConsumerDeleted = codes "consumer deleted"
messages_text messages.PullBasedConsumer = codes "cannot use with pull consumer"
messages_text messages.Other = codes "error"
