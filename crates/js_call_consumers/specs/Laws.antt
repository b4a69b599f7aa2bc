-- Which configurations of consumers can be sent.
use Rattle.std.specs.Prelude.{ℕ, ◌≡◌, Option, Some, None, List, Ok}
use Rattle.jiff.specs.Types.{Timestamp}
use Rattle.serde_json.specs.Data.{Data}
use Rattle.js_json_members.specs.Instant.{instant_text}
use Rattle.js_json_members.specs.Rows.{text_of}
use Rattle.js_json.specs.ConsumerConfig.{config_value}
use Rattle.js_json.specs.CreateRequest.{create_request_value}
use Rattle.js_json.specs.DeliverPolicy.{start_time_of}
use Rattle.js_json.specs.declared.consumer.config.Config.{Config}
use Rattle.js_json.specs.declared.consumer.create_request.CreateRequest.{CreateRequest}

-- the instant, if there is one, has a text: it is in the years 0 to 9999
abbrev pub HasText : Option Timestamp → Type 0
HasText None = Unit {0}
HasText (Some t) = (text : List ℕ) × (instant_text t.nanosecond ≡ Some text)

-- each instant of the configuration has a text
pub record HasTexts (c : Config) : Type 0 where
  pub start : HasText (start_time_of c.deliver_policy)
  pub pause : HasText c.pause_until

-- a configuration is written whose instants have texts, and a request for it has a text
pub record IsWritten (request : CreateRequest) : Type 0 where
  pub config : (d : Data) × (config_value request.config ≡ Ok d)
  pub whole : (text : List ℕ) × (text_of (create_request_value request) ≡ Ok text)

-- nothing but an instant without a text keeps a call from being made
abbrev pub InstantsAloneAreRefused : Type 0
InstantsAloneAreRefused = (request : CreateRequest) → HasTexts request.config → IsWritten request
