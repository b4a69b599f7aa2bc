-- A consumer beside the answer to a call on it.
use Rattle.std.specs.Prelude.{◌≡◌, refl, Result, Ok, Err}
use Rattle.serde_json.specs.Data.{Data}
use Rattle.js_base.specs.declared.error.Error.{Error}
use Rattle.js_json_members.specs.Member.{◌>>=◌}
use Rattle.js_json_members.specs.declared.error.ReadError.{ReadError}
use Rattle.js_json.specs.ConsumerInfo.{info_fields}
use Rattle.js_json.specs.declared.consumer.info.Info.{Info}
use Rattle.js_call_consumers.specs.declared.consumer.Consumer.{Consumer}
use Rattle.js_call_consumers.specs.declared.info_pair.InfoCopies.{InfoCopies}

-- the info that is told, for the consumer and for the answer
abbrev pub both : Info → InfoCopies
both info = record { kept = info; answered = info }

-- what the server tells of a consumer, for both
unfoldable pub copies_fields : Data → Result InfoCopies ReadError
copies_fields d = info_fields d >>= λ info. Ok (both info)

-- the consumer with the info that was told, and else as it was; and the answer
abbrev pub renewed : {T K : Type 0} → Consumer T → Result InfoCopies (Error K) → Consumer T × Result Info (Error K)
renewed consumer (Ok copies) = (record consumer { info = copies.kept }, Ok copies.answered)
renewed consumer (Err error) = (consumer, Err error)

-- the newest info is kept and answered; an error leaves what was told last
newest_is_kept : {T K : Type 0} (consumer : Consumer T) (info : Info) → renewed {T = T} {K = K} consumer (Ok (both info)) ≡ (record consumer { info = info }, Ok info)
newest_is_kept consumer info = refl

error_keeps_the_last : {T K : Type 0} (consumer : Consumer T) (error : Error K) → renewed consumer (Err error) ≡ (consumer, Err error)
error_keeps_the_last consumer error = refl
