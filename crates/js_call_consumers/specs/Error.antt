-- How refusals of calls on consumers are printed, and the errors of the API that they hold.
use Rattle.std.specs.Prelude.{ℕ, Option, Some, None, List, ◌++◌, codes}
use Rattle.js_codes.specs.Errors.{error_text}
use Rattle.js_codes.specs.declared.errors.Error.{Error}
use Rattle.js_call_consumers.specs.declared.error.ConsumerInfoErrorKind.{ConsumerInfoErrorKind}
use Rattle.js_call_consumers.specs.declared.error.ConsumerInfoErrorKind.TheVariants as infos
use Rattle.js_call_consumers.specs.declared.error.ConsumerErrorKind.{ConsumerErrorKind}
use Rattle.js_call_consumers.specs.declared.error.ConsumerErrorKind.TheVariants as plainly
use Rattle.js_call_consumers.specs.declared.error.ConsumerCreateStrictErrorKind.{ConsumerCreateStrictErrorKind}
use Rattle.js_call_consumers.specs.declared.error.ConsumerCreateStrictErrorKind.TheVariants as strictly
use Rattle.js_call_consumers.specs.declared.error.ConsumerUpdateErrorKind.{ConsumerUpdateErrorKind}
use Rattle.js_call_consumers.specs.declared.error.ConsumerUpdateErrorKind.TheVariants as updates

-- why an info was not got
abbrev pub info_text : ConsumerInfoErrorKind → List ℕ
info_text infos.InvalidName = codes "invalid consumer name"
info_text infos.Offline = codes "consumer is offline"
info_text infos.NotFound = codes "consumer not found"
info_text infos.StreamNotFound = codes "stream not found"
info_text infos.Request = codes "request error"
info_text (infos.JetStream error) = codes "jetstream error: " ++ error_text error
info_text infos.TimedOut = codes "timed out"
info_text infos.NoResponders = codes "no responders"

-- why a consumer was not got, made or deleted
abbrev pub consumer_text : ConsumerErrorKind → List ℕ
consumer_text plainly.InvalidName = codes "invalid consumer name"
consumer_text plainly.TimedOut = codes "timed out"
consumer_text plainly.Request = codes "request error"
consumer_text plainly.InvalidConsumerType = codes "invalid consumer type"
consumer_text (plainly.JetStream error) = codes "JetStream error: " ++ error_text error
consumer_text plainly.Other = codes "consumer error"

-- why one was not made where none may be there
abbrev pub strict_text : ConsumerCreateStrictErrorKind → List ℕ
strict_text strictly.InvalidName = codes "invalid consumer name"
strict_text strictly.TimedOut = codes "timed out"
strict_text strictly.Request = codes "request error"
strict_text strictly.InvalidConsumerType = codes "invalid consumer type"
strict_text (strictly.JetStream error) = codes "JetStream error: " ++ error_text error
strict_text strictly.Other = codes "consumer error"
strict_text strictly.AlreadyExists = codes "consumer already exists"

-- why one was not changed
abbrev pub update_text : ConsumerUpdateErrorKind → List ℕ
update_text updates.InvalidName = codes "invalid consumer name"
update_text updates.TimedOut = codes "timed out"
update_text updates.Request = codes "request error"
update_text updates.InvalidConsumerType = codes "invalid consumer type"
update_text (updates.JetStream error) = codes "JetStream error: " ++ error_text error
update_text updates.Other = codes "consumer error"
update_text updates.DoesNotExist = codes "consumer does not exist"

-- the API's error that a kind holds
abbrev pub info_held : ConsumerInfoErrorKind → Option Error
info_held (infos.JetStream error) = Some error
info_held kind = None

abbrev pub consumer_held : ConsumerErrorKind → Option Error
consumer_held (plainly.JetStream error) = Some error
consumer_held kind = None

abbrev pub strict_held : ConsumerCreateStrictErrorKind → Option Error
strict_held (strictly.JetStream error) = Some error
strict_held kind = None

abbrev pub update_held : ConsumerUpdateErrorKind → Option Error
update_held (updates.JetStream error) = Some error
update_held kind = None
