-- What the client says of itself in CONNECT: a JSON object whose keys are in order.
use Rattle.std.specs.Prelude.{ℕ, ◌≡◌, refl, List, [], ◌++◌, Option, Some, None, codes}
use Rattle.serde_json.specs.Data.{string}
use Rattle.serde_json.specs.Written.{compact_text}
use Rattle.js_link_connection.specs.declared.options.ConnectOptions.{ConnectOptions}
use Rattle.js_link_connection.specs.declared.options.Credentials.{Credentials}
use Rattle.js_link_connection.specs.declared.options.Credentials.TheVariants.{Anonymous, User, Token}

-- a client without a name and credentials
abbrev pub plain_options : List ℕ → ConnectOptions
plain_options token = record { name = None; credentials = Anonymous; inbox_prefix = codes "_INBOX"; inbox_token = token; quiet_time = 60_000_000_000; longest_body = 67_108_864 }

-- a member of an object, before others: its key, and a text as JSON
abbrev pub member_text : List ℕ → List ℕ → List ℕ
member_text key text = codes "\"" ++ (key ++ (codes "\":" ++ (compact_text (string text) ++ codes ",")))

-- the client's name, where it has one
abbrev pub name_text : Option (List ℕ) → List ℕ
name_text None = []
name_text (Some name) = member_text (codes "name") name

-- its token, where it shows one
abbrev pub token_text : Credentials → List ℕ
token_text Anonymous = []
token_text (User user password) = []
token_text (Token token) = member_text (codes "auth_token") token

-- its name as a user, where it shows one
abbrev pub user_text : Credentials → List ℕ
user_text Anonymous = []
user_text (User user password) = member_text (codes "user") user
user_text (Token token) = []

-- its password, where it shows one
abbrev pub password_text : Credentials → List ℕ
password_text Anonymous = []
password_text (User user password) = member_text (codes "pass") password
password_text (Token token) = []

-- the object: what the client can do, its name and what it shows
unfoldable pub object_text : List ℕ → List ℕ → List ℕ → List ℕ → List ℕ
object_text token name password user =
    codes "{" ++ (token
    ++ (codes "\"headers\":true,\"lang\":\"rattle\"," ++ (name
    ++ (codes "\"no_responders\":true," ++ (password
    ++ (codes "\"pedantic\":false,\"protocol\":1," ++ (user
    ++ codes "\"verbose\":false,\"version\":\"1\"}")))))))

-- that of these options
abbrev pub connect_text : ConnectOptions → List ℕ
connect_text options = object_text (token_text options.credentials) (name_text options.name) (password_text options.credentials) (user_text options.credentials)

-- worked: a client without a name and credentials
worked_plain : connect_text (plain_options (codes "t")) ≡ codes "{\"headers\":true,\"lang\":\"rattle\",\"no_responders\":true,\"pedantic\":false,\"protocol\":1,\"verbose\":false,\"version\":\"1\"}"
unfolding object_text
worked_plain = refl
