-- How a worker's error is printed.
use Rattle.std.specs.Prelude.{ℕ, List, Option, Some}
use Rattle.js_message.specs.Texts.{ack_text}
use Rattle.js_readers_worker.specs.declared.error.WorkerError.{WorkerError}
use Rattle.js_readers_worker.specs.declared.error.WorkerError.TheVariants.{Subscription, Ack}

abbrev pub error_text : {E : Type 0} → (E → Option (List ℕ)) → WorkerError E → Option (List ℕ)
error_text text (Subscription error) = text error
error_text text (Ack error) = Some (ack_text error)
