-- How the kinds of errors are printed.
use Rattle.std.specs.Prelude.{ℕ, List, codes}
use Rattle.js_call.specs.declared.error.RequestErrorKind.{RequestErrorKind}
use Rattle.js_call.specs.declared.error.SendError.{SendError}
use Rattle.js_call.specs.declared.error.SendError.TheVariants.{LinkFailed, OutOfMemory}
use Rattle.js_call.specs.declared.error.RequestErrorKind.TheVariants.{TimedOut, Other, InvalidSubject, NoResponders}

-- why a request has no reply
abbrev pub request_text : RequestErrorKind → List ℕ
request_text TimedOut = codes "timed out"
request_text Other = codes "request failed"
request_text InvalidSubject = codes "invalid subject"
request_text NoResponders = codes "requested JetStream resource does not exist"

-- why nothing was sent
abbrev pub send_text : SendError → List ℕ
send_text LinkFailed = codes "link failed"
send_text OutOfMemory = codes "out of memory"
