-- How refusals are printed.
use Rattle.std.specs.Prelude.{ℕ, List, ◌++◌, codes}
use Rattle.std.specs.Fmt.{decimal}
use Rattle.js_message.specs.declared.acker.AckError.{AckError}
use Rattle.js_message.specs.declared.acker.AckError.TheVariants as ack
use Rattle.js_message.specs.declared.info_error.InfoError.{InfoError}
use Rattle.js_message.specs.declared.info_error.InfoError.TheVariants.{Prefix, TokenCount, Number, Instant}
use Rattle.js_message.specs.declared.message.MessageInfoError.{MessageInfoError}
use Rattle.js_message.specs.declared.message.MessageInfoError.TheVariants.{NoReply, Unreadable}

-- why a message was not acknowledged
abbrev pub ack_text : AckError → List ℕ
ack_text ack.NoReply = codes "no reply subject"
ack_text ack.LinkFailed = codes "link failed"
ack_text ack.TimedOut = codes "timed out"
ack_text ack.SubscriptionDropped = codes "subscription dropped"
ack_text ack.OutOfMemory = codes "out of memory"

-- why a text is no acknowledgement subject
abbrev pub info_text : InfoError → List ℕ
info_text Prefix = codes "the subject does not begin with $JS.ACK."
info_text (TokenCount n) = codes "the subject has " ++ (decimal n ++ codes " tokens after its prefix")
info_text (Number place) = codes "token " ++ (decimal place ++ codes " is no number in range")
info_text Instant = codes "the time is out of range"

-- why a message does not tell where it stands in its stream
abbrev pub message_info_text : MessageInfoError → List ℕ
message_info_text NoReply = codes "no reply subject"
message_info_text (Unreadable error) = codes "no acknowledgement subject: " ++ info_text error
