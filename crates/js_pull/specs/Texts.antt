-- How the kinds of a reader's errors are printed.
use Rattle.std.specs.Prelude.{ℕ, List, codes}
use Rattle.js_pull.specs.declared.reader.MessagesErrorKind.{MessagesErrorKind}
use Rattle.js_pull.specs.declared.reader.MessagesErrorKind.TheVariants as messages

-- what a reader tells in place of a message
abbrev pub messages_text : MessagesErrorKind → List ℕ
messages_text messages.MissingHeartbeat = codes "missed idle heartbeat"
messages_text messages.ConsumerDeleted = codes "consumer deleted"
messages_text messages.Pull = codes "pull request failed"
messages_text messages.Other = codes "error"
messages_text messages.NoResponders = codes "no responders"
messages_text messages.RequestLimitExceeded = codes "pull request exceeded consumer limits"
messages_text messages.PushBasedConsumer = codes "cannot use with push consumer"
