use Rattle.std.proofs.Common.{◌≡◌, ℕ, Bool, false, Err, inl, refl, subst}
use Rattle.js_base.specs.Error.{plain}
use Rattle.js_base.specs.declared.error.Error.{Error}
use Rattle.js_json.specs.declared.pull.batch.BatchConfig.{BatchConfig}
use Rattle.js_json.specs.declared.pull.Config as pull
use Rattle.js_link.specs.LinkView.{LinkView}
use Rattle.js_call_consumers.specs.declared.consumer.Consumer.{Consumer}
use Rattle.js_readers.specs.declared.pull.error.BatchErrorKind.{BatchErrorKind}
use Rattle.js_readers.specs.declared.pull.error.BatchErrorKind.TheVariants as kind
use Rattle.js_readers.specs.declared.pull.request.OpenFault.TheVariants as fault
use Rattle.js_readers.specs.Batch.{OpensBatch, OpensUnlessPinned}
use Rattle.js_readers.specs.PullConsumer.{is_pinned}
use Rattle.js_readers.proofs.pull.batch_opening.open_batch.Goals as goal

-- no text of the request was made, and nothing was done
lacks_memory : (e : Error BatchErrorKind) (now : ℕ) (c : Consumer pull.Config) (config : BatchConfig) (v : LinkView) → false ≡ is_pinned c.config.priority_policy → e ≡ plain kind.OutOfMemory → OpensBatch (Err e) now c config v v
lacks_memory e now c config v unpinned is =
    subst (λ (pinned : Bool). OpensUnlessPinned pinned (Err e) now c config v v) unpinned
    (record { cause = fault.OutOfMemory; fails = inl refl; error = is })

pub returns-in-Err : goal.returns-in-Err
returns-in-Err g c = lacks_memory _ _ _ _ _ c.if-is_pinned.ensures c.new-in-Err.ensures
