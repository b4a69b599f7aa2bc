-- Of which kind an error is that a reader of an ordered consumer hands on.
use Rattle.std.proofs.Common.{Result, Ok, Err}
use Rattle.js_base.specs.declared.error.Error.{Error}
use Rattle.js_base.specs.declared.turn.Next.{Next}
use Rattle.js_base.specs.declared.turn.Next.TheVariants as next
use Rattle.js_message.specs.declared.message.Message.{Message}
use Rattle.js_ordered_stream.specs.Ordered.{IsGivenKind}
use Rattle.js_ordered_stream.specs.declared.error.OrderedErrorKind.{OrderedErrorKind}
use Rattle.js_readers.specs.Stream.{untimed}

-- it is of the kind that the reader below gave
pub keeps_kind : (result : Next (Result Message (Error OrderedErrorKind))) → IsGivenKind (untimed result) → IsGivenKind result
keeps_kind (next.Item (Ok given)) is = is
keeps_kind (next.Item (Err e)) is = is
keeps_kind next.Pending is = is
keeps_kind next.End is = is
keeps_kind next.OutOfMemory is = is
