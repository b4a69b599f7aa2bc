-- What a server says of itself in INFO.
use Rattle.std.specs.Prelude.{ℕ, Bool, false, List, [], codes, Option, Some, None, option_and_then}
use Rattle.serde_json.specs.Data.{Data}
use Rattle.serde_json.specs.Find.{get, as_bool, as_number, as_str, as_u64}
use Rattle.serde_json.specs.Read.{read}
use Rattle.js_link_connection.specs.declared.server_info.ServerInfo.{ServerInfo}

-- a truth value, and false where there is none
abbrev pub or_false : Option Bool → Bool
or_false None = false
or_false (Some value) = value

-- a text, and the empty one where there is none
abbrev pub or_empty : Option (List ℕ) → List ℕ
or_empty None = []
or_empty (Some text) = text

-- the member of that key is true
abbrev pub is_set : List ℕ → Data → Bool
is_set key whole = or_false (option_and_then as_bool (get key whole))

-- the server's name for itself
abbrev pub name_in : Data → List ℕ
name_in whole = or_empty (option_and_then as_str (get (codes "server_id") whole))

-- what it says, by its limit
abbrev pub info_with : Data → Option ℕ → Option ServerInfo
info_with whole None = None
info_with whole (Some most) =
    Some (record { server_id = name_in whole; max_payload = most; headers = is_set (codes "headers") whole; auth_required = is_set (codes "auth_required") whole })

-- what an object says: an INFO without a limit says nothing
unfoldable pub info_in : Data → Option ServerInfo
info_in whole = info_with whole (option_and_then as_u64 (option_and_then as_number (get (codes "max_payload") whole)))

-- what a text says
unfoldable pub info_of : List ℕ → Option ServerInfo
info_of json = option_and_then info_in (read json)
