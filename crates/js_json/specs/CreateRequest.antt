-- The request that makes a consumer.
use Rattle.std.specs.Prelude.{List, [], ◌∷◌, Result, Ok, codes}
use Rattle.serde_json.specs.Data.{Data, string, no_members}
use Rattle.js_json_members.specs.declared.key.Key.TheVariants as key
use Rattle.js_json_members.specs.declared.error.ReadError.{ReadError}
use Rattle.js_json_members.specs.Rows.{Writes, Row, row, with_rows, object_of, always, text_data}
use Rattle.js_json.specs.declared.consumer.create_request.Action.{Action}
use Rattle.js_json.specs.declared.consumer.create_request.Action.TheVariants as action
use Rattle.js_json.specs.declared.consumer.create_request.CreateRequest.{CreateRequest}
use Rattle.js_json.specs.ConsumerConfig.{config_data}

-- the name of an action
abbrev pub action_data : Writes Action
action_data k action.CreateOrUpdate = Ok (string [])
action_data k action.Create = Ok (string (codes "create"))
action_data k action.Update = Ok (string (codes "update"))

-- the members that are written
abbrev pub create_request_rows : CreateRequest → List Row
create_request_rows c =
    row key.Action (λ k. always action_data k c.action) ∷
    row key.Config (λ k. always config_data k c.config) ∷
    row key.StreamName (λ k. always text_data k c.stream_name) ∷ []

-- the body of the request
unfoldable pub create_request_value : CreateRequest → Result Data ReadError
create_request_value c = object_of (with_rows (Ok no_members) (create_request_rows c))
