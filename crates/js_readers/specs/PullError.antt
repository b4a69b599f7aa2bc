-- How the kinds of errors are printed.
use Rattle.std.specs.Prelude.{ℕ, List, codes}
use Rattle.js_readers.specs.declared.pull.error.StreamErrorKind.{StreamErrorKind}
use Rattle.js_readers.specs.declared.pull.error.StreamErrorKind.TheVariants as stream
use Rattle.js_readers.specs.declared.pull.error.BatchErrorKind.{BatchErrorKind}
use Rattle.js_readers.specs.declared.pull.error.BatchErrorKind.TheVariants as batch
use Rattle.js_readers.specs.declared.pull.error.BatchRequestErrorKind.{BatchRequestErrorKind}
use Rattle.js_readers.specs.declared.pull.error.BatchRequestErrorKind.TheVariants as request

-- why no stream was opened
abbrev pub stream_text : StreamErrorKind → List ℕ
stream_text stream.TimedOut = codes "timed out"
stream_text stream.Other = codes "failed"
stream_text stream.OutOfMemory = codes "out of memory"

-- why no batch was asked for
abbrev pub batch_text : BatchErrorKind → List ℕ
batch_text batch.Subscribe = codes "subscribe failed"
batch_text batch.Pull = codes "pull request failed"
batch_text batch.Flush = codes "flush failed"
batch_text batch.Serialize = codes "serialize failed"
batch_text batch.PinnedClient = codes "pinned client consumers need a pull stream"
batch_text batch.OutOfMemory = codes "out of memory"

-- why a pull request was not sent
abbrev pub request_text : BatchRequestErrorKind → List ℕ
request_text request.Publish = codes "publish failed"
request_text request.Flush = codes "flush failed"
request_text request.Serialize = codes "serialize failed"
request_text request.OutOfMemory = codes "out of memory"
