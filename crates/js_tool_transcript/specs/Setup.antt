-- What the first line of a transcript says.
use Rattle.std.specs.Prelude.{ℕ, List, [], ◌∷◌, codes, Option, Some, None, unwrap_or, Result, Ok, Err}
use Rattle.serde_json.specs.Data.{Data}
use Rattle.js_json_members.specs.declared.key.Key.{Key}
use Rattle.js_json_members.specs.declared.key.Key.TheVariants as key
use Rattle.js_json_members.specs.declared.error.ReadError.{ReadError}
use Rattle.js_json_members.specs.declared.error.ReadError.TheVariants.{Missing}
use Rattle.js_json_members.specs.Member.{◌>>=◌, Reads, required, defaulted, given, unless_null, text, natural, natural_of, named, nested, value_of}
use Rattle.js_json.specs.ConsumerConfig.{config_fields}
use Rattle.js_json.specs.ConsumerInfo.{info_fields}
use Rattle.js_json.specs.declared.consumer.config.Config.{Config}
use Rattle.js_json.specs.declared.consumer.info.Info.{Info}
use Rattle.js_json.specs.declared.consumer.conversion.ConfigError.{ConfigError}
use Rattle.js_json.specs.Conversion.{as_ordered_pull_config, as_ordered_push_config}
use Rattle.js_ordered_table.specs.declared.setup.Settings.{Settings}
use Rattle.js_ordered_table.specs.declared.setup.OrderedSetup.{OrderedSetup}
use Rattle.js_ordered_table.specs.declared.setup.OrderedSetup.TheVariants as setup
use Rattle.js_pull.specs.Resilience.{none}
use Rattle.js_tool_transcript.specs.declared.transcript.setup.Mode.{Mode}
use Rattle.js_tool_transcript.specs.declared.transcript.setup.Mode.TheVariants as mode
use Rattle.js_tool_transcript.specs.declared.transcript.setup.Setup.{Setup}
use Rattle.js_tool_transcript.specs.Members.{only, value_as, line_as}

-- the names of the modes
unfoldable pub mode_named : List ℕ → Option Mode
mode_named = value_of ((codes "pull", mode.Pull) ∷ (codes "push", mode.Push) ∷ [])

-- ---- settings

abbrev pub settings_keys : List Key
settings_keys = key.ApiPrefix ∷ key.InboxPrefix ∷ key.ContextTimeout ∷ key.RequestTimeout ∷ key.Retries ∷ []

-- where a request timeout is absent it is 10 seconds, and null is none
unfoldable pub settings_fields : Data → Result Settings ReadError
settings_fields d = do
  api_prefix ← given text key.ApiPrefix d
  inbox_prefix ← given text key.InboxPrefix d
  context_timeout ← defaulted (unless_null natural) key.ContextTimeout None d
  request_timeout ← given (unless_null natural) key.RequestTimeout d
  retries ← given (natural_of 32) key.Retries d
  Ok (record {
    api_prefix = unwrap_or api_prefix (codes "$JS.API");
    inbox_prefix = unwrap_or inbox_prefix (codes "_INBOX.t");
    context_timeout = context_timeout;
    request_timeout = unwrap_or request_timeout (Some 10_000_000_000);
    retries = unwrap_or retries 4_294_967_295;
    resilience = none;
  })

abbrev pub settings : Reads Settings
settings = only settings_keys settings_fields

-- ---- the consumer's configuration

-- a configuration that is one of the mode. What else the one that was read says is passed over
abbrev pub of_mode : {A : Type 0} → (A → OrderedSetup) → Result A ConfigError → Result OrderedSetup ReadError
of_mode setup (Ok config) = Ok (setup config)
of_mode setup (Err e) = Err (Missing key.DeliverSubject)

-- the ordered configuration of the mode. Push needs a deliver subject
unfoldable pub ordered_setup : Mode → Config → Result OrderedSetup ReadError
ordered_setup mode.Pull c = of_mode setup.Pull (as_ordered_pull_config c)
ordered_setup mode.Push c = of_mode setup.Push (as_ordered_push_config c)

-- ---- the line

abbrev pub setup_keys : List Key
setup_keys = key.Mode ∷ key.Start ∷ key.Settings ∷ key.Config ∷ key.Info ∷ []

-- the setup, unless the configuration is not one of the mode
unfoldable pub setup_with : Mode → ℕ → Settings → Config → Info → Result Setup ReadError
setup_with mode start settings config first =
    ordered_setup mode config >>= λ setup. Ok (record { settings = settings; setup = setup; first = first; start = start })

unfoldable pub setup_fields : Data → Result Setup ReadError
setup_fields d = do
  mode ← required (named mode_named) key.Mode d
  start ← required natural key.Start d
  settings ← required settings key.Settings d
  config ← required (nested config_fields) key.Config d
  first ← required (nested info_fields) key.Info d
  setup_with mode start settings config first

-- what the value of a line says
abbrev pub setup_of : Data → Result Setup ReadError
setup_of = value_as setup_keys setup_fields

abbrev pub setup_line : List ℕ → Result Setup ReadError
setup_line = line_as setup_keys setup_fields
