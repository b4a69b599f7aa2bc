-- One pull request.
use Rattle.std.specs.Prelude.{ℕ, ◌≡◌, Some, None, List, Result, Ok, Err}
use Rattle.js_base.specs.Error.{plain}
use Rattle.js_base.specs.declared.error.Error.{Error}
use Rattle.js_json.specs.declared.pull.batch.BatchConfig.{BatchConfig}
use Rattle.js_json.specs.declared.pull.Config as pull
use Rattle.js_link.specs.LinkView.{LinkView}
use Rattle.js_link.specs.Calls.{Publishes, RefusedSend}
use Rattle.js_link.specs.declared.link.LinkError.{LinkError}
use Rattle.js_link.specs.declared.link.LinkError.TheVariants as link
use Rattle.js_call_consumers.specs.declared.consumer.Consumer.{Consumer}
use Rattle.js_readers.specs.declared.pull.error.BatchRequestErrorKind.{BatchRequestErrorKind}
use Rattle.js_readers.specs.declared.pull.error.BatchRequestErrorKind.TheVariants.{Publish, OutOfMemory}
use Rattle.js_readers.specs.PullConsumer.{pull_request}

abbrev pub request_fault : LinkError → BatchRequestErrorKind
request_fault link.Failed = Publish
request_fault link.OutOfMemory = OutOfMemory

-- nothing was sent, and why
pub record RefusesRequest (e : Error BatchRequestErrorKind) (old new : LinkView) : Type 0 where
  pub fault : LinkError
  pub refused : RefusedSend fault old new
  pub error : e ≡ plain (request_fault fault)

-- what `request_batch` does: the request goes out with the inbox as its reply subject
abbrev pub RequestsBatch : Result (Unit {0}) (Error BatchRequestErrorKind) → Consumer pull.Config → BatchConfig → List ℕ → LinkView → LinkView → Type 0
RequestsBatch (Ok done) c config inbox old new =
    Publishes (pull_request c config).subject (Some inbox) None (pull_request c config).payload old new
RequestsBatch (Err e) c config inbox old new = RefusesRequest e old new
