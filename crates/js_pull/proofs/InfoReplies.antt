-- What a reader makes of an answer to an info request that says that the consumer is gone.
use Rattle.std.proofs.Common.{◌≡◌, ℕ, Bool, true, false, Option, refl, sym, subst}
use Rattle.std.specs.Prelude.{if◌then◌else◌}
use Rattle.js_base.specs.declared.message.Message.{Message}
use Rattle.js_pull.specs.declared.reader.Reader.{Reader}
use Rattle.js_pull.specs.declared.replies.Finding.TheVariants as finds
use Rattle.js_pull.specs.declared.replies.InfoReply.{InfoReply}
use Rattle.js_pull.specs.declared.replies.InfoReply.TheVariants as reply
use Rattle.js_pull.specs.declared.passed_row.PassedRow.{PassedRow}
use Rattle.js_pull.specs.Reader as rows
use Rattle.js_pull.specs.Rows.{ReadsTo, finding_of}

gone_code : (b : Bool) → finds.Gone ≡ (if b then finds.Gone else finds.Nothing) → b ≡ true
gone_code true is = refl
gone_code false is = cc

-- only an error says that the consumer is gone
pub gone_answered : (failures : ℕ) (says : InfoReply) (r new : Reader) (brought message : Option Message) (step : PassedRow) → finds.Gone ≡ finding_of says
    → ReadsTo brought message (rows.refused failures true r) new step → ReadsTo brought message (rows.answered failures says r) new step
gone_answered failures (reply.Info info) r new brought message step is steps = cc
gone_answered failures (reply.Error code) r new brought message step is steps =
    subst (λ (b : Bool). ReadsTo brought message (rows.refused failures b r) new step) (sym (gone_code (rows.is_gone code) is)) steps
gone_answered failures reply.Nothing r new brought message step is steps = cc
