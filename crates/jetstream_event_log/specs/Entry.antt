-- What a log keeps of a message.
use Rattle.std.specs.Prelude.{Result, Ok, Err}
use Rattle.js_base.specs.declared.message.Entry.{Entry}
use Rattle.js_base.specs.declared.message.Message.{Message}
use Rattle.js_message.specs.AckSubject.{Info}
use Rattle.js_message.specs.declared.message.MessageInfoError.{MessageInfoError}

-- the entry of a message, by where its reply subject says that it stands; or why that says nothing. For example: the message "a.x" with the payload "1" whose reply is "$JS.ACK.s.c.1.7.3.0.0" is the entry 7 of "a.x" with "1"
abbrev pub entry_of : Message → Result Info MessageInfoError → Result Entry MessageInfoError
entry_of message (Ok info) = Ok (record { subject = message.subject; sequence = info.stream_sequence; payload = message.payload })
entry_of message (Err error) = Err error
