-- What a server's INFO says, and what a client says of itself, on texts.
use Rattle.std.proofs.Common.{◌≡◌, codes, true, false, Some, None, refl}
use Rattle.serde_json.proofs.OnLiterals.{serde_json_on_literals}
use Rattle.js_link_connection.specs.declared.options.Credentials.TheVariants.{User}
use Rattle.js_link_connection.specs.ConnectText.{connect_text, object_text, plain_options}
use Rattle.js_link_connection.specs.ServerInfo.{info_in, info_of}

an_info : info_of (codes "{\"server_id\":\"a\",\"max_payload\":5,\"headers\":true,\"go\":\"1\"}") ≡ Some (record { server_id = codes "a"; max_payload = 5; headers = true; auth_required = false })
unfolding serde_json_on_literals info_in info_of
an_info = refl

no_limit : info_of (codes "{\"server_id\":\"a\"}") ≡ None
unfolding serde_json_on_literals info_in info_of
no_limit = refl

no_object : info_of (codes "{") ≡ None
unfolding serde_json_on_literals info_in info_of
no_object = refl

-- a quote in a password is written as JSON has it
with_user : connect_text (record (plain_options (codes "t")) { name = Some (codes "n"); credentials = User (codes "u") (codes "p\"") })
    ≡ codes "{\"headers\":true,\"lang\":\"rattle\",\"name\":\"n\",\"no_responders\":true,\"pass\":\"p\\\"\",\"pedantic\":false,\"protocol\":1,\"user\":\"u\",\"verbose\":false,\"version\":\"1\"}"
unfolding serde_json_on_literals object_text
with_user = refl
