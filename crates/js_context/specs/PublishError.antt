-- Why a message was not sent, or not stored.
use Rattle.std.specs.Prelude.{ℕ, ◌==◌, ◌||◌, List, codes, if◌then◌else◌}
use Rattle.js_base.specs.Error.{caused}
use Rattle.js_base.specs.declared.error.Error.{Error}
use Rattle.js_codes.specs.Errors.{api_source}
use Rattle.js_codes.specs.declared.errors.Error.{Error as ApiError}
use Rattle.js_context.specs.declared.publish_error.PublishErrorKind.{PublishErrorKind}
use Rattle.js_context.specs.declared.publish_error.PublishErrorKind.TheVariants.{StreamNotFound, TimedOut, Other, BrokenPipe, WrongLastMessageId, WrongLastSequence, MaxAckPending, MaxPayloadExceeded}

-- how a kind is printed
abbrev pub publish_text : PublishErrorKind → List ℕ
publish_text StreamNotFound = codes "no stream found for given subject"
publish_text TimedOut = codes "timed out: didn't receive ack in time"
publish_text Other = codes "publish failed"
publish_text BrokenPipe = codes "broken pipe"
publish_text WrongLastMessageId = codes "wrong last message id"
publish_text WrongLastSequence = codes "wrong last sequence"
publish_text MaxAckPending = codes "max ack pending reached"
publish_text MaxPayloadExceeded = codes "max payload size exceeded"

-- what an error code of the server means: two codes tell of a wrong last sequence
abbrev pub kind_of : ℕ → PublishErrorKind
kind_of number =
    if number == 10070 then WrongLastMessageId else if number == 10071 || number == 10164 then WrongLastSequence else Other

-- the server's error, as that of a publish
abbrev pub refusal_by : ApiError → Error PublishErrorKind
refusal_by error = caused (kind_of error.err_code.0) (api_source error)
