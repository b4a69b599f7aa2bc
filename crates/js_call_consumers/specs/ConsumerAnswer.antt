-- What the server tells of a consumer, with its configuration as that of one kind.
use Rattle.std.specs.Prelude.{◌≡◌, Result, Ok, Err}
use Rattle.serde_json.specs.Data.{Data}
use Rattle.js_base.specs.Error.{caused}
use Rattle.js_base.specs.declared.error.Error.{Error}
use Rattle.js_base.specs.declared.error.Source.{Source}
use Rattle.js_base.specs.declared.error.Source.TheVariants.{Text}
use Rattle.js_json_members.specs.Member.{◌>>=◌}
use Rattle.js_json_members.specs.declared.error.ReadError.{ReadError}
use Rattle.js_json.specs.ConsumerInfo.{info_fields}
use Rattle.js_json.specs.Conversion.{config_error_text}
use Rattle.js_json.specs.declared.consumer.config.Config.{Config}
use Rattle.js_json.specs.declared.consumer.conversion.ConfigError.{ConfigError}
use Rattle.js_json.specs.declared.consumer.info.Info.{Info}
use Rattle.js_call.specs.declared.scope.ApiScope.{ApiScope}
use Rattle.js_call_consumers.specs.declared.consumer.Consumer.{Consumer}
use Rattle.js_call_consumers.specs.declared.consumer_answer.ConsumerAnswer.{ConsumerAnswer}

-- the configuration as that of a kind, or why it is none, as the source of an error
abbrev pub as_kind : {C : Type 0} → Result C ConfigError → Result C Source
as_kind (Ok config) = Ok config
as_kind (Err fault) = Err (Text (config_error_text fault))

-- the info, and the configuration that stands in it, converted
unfoldable pub told_fields : {C : Type 0} → (Config → Result C ConfigError) → Data → Result (ConsumerAnswer C) ReadError
told_fields of_config d = info_fields d >>= λ info. Ok (record { info = info; config = as_kind (of_config info.config) })

-- the configuration beside what else is known, or why it is none
abbrev pub UnlessOther : {C K I : Type 0} → Result C Source → K → I → Result (C × I) (Error K) → Type 0
UnlessOther config other known (Ok both) = (config ≡ Ok both.0) × (known ≡ both.1)
UnlessOther config other known (Err error) = (cause : Source) × (config ≡ Err cause) × (error ≡ caused other cause)

-- the consumer, unless its configuration is that of another kind
abbrev pub converted : {C K : Type 0} → K → ApiScope → Info → Result C Source → Result (Consumer C) (Error K)
converted other scope info (Ok config) = Ok (record { scope = scope; config = config; info = info })
converted other scope info (Err cause) = Err (caused other cause)
