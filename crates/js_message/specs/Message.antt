-- What a message of a stream says.
use Rattle.std.specs.Prelude.{ℕ, Option, Some, None, List, Result, Ok, Err}
use Rattle.std.specs.Result.{result_map_both}
use Rattle.js_base.specs.declared.message.Message as base
use Rattle.js_message.specs.AckSubject as plain
use Rattle.js_message.specs.Acker.{acker}
use Rattle.js_message.specs.Info.{shown}
use Rattle.js_message.specs.declared.acker.Acker.{Acker}
use Rattle.js_message.specs.declared.info.Info.{Info}
use Rattle.js_message.specs.declared.info_error.InfoError.{InfoError}
use Rattle.js_message.specs.declared.message.Message.{Message}
use Rattle.js_message.specs.declared.message.MessageInfoError.{MessageInfoError}
use Rattle.js_message.specs.declared.message.MessageInfoError.TheVariants.{NoReply, Unreadable}

-- what was read or refused, with its texts and its time as plain values
abbrev pub shown_info : Result Info MessageInfoError → Result plain.Info MessageInfoError
shown_info result = result_map_both shown (λ error. error) result

-- what a reply subject was read as
abbrev pub info_or_error : Result plain.Info InfoError → Result plain.Info MessageInfoError
info_or_error (Ok info) = Ok info
info_or_error (Err error) = Err (Unreadable error)

-- what a reply subject says, if there is one
abbrev pub info_of : Option (List ℕ) → Result plain.Info MessageInfoError
info_of None = Err NoReply
info_of (Some reply) = info_or_error (plain.ack reply)

-- the message with no reply subject
abbrev pub without_reply : base.Message → base.Message
without_reply message = record message { reply = None }

-- what acknowledges the message
abbrev pub acker_of : Message → Acker
acker_of m = acker m.timeout m.message.reply
