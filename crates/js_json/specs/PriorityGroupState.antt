-- A priority group, and the reader that is pinned in it.
use Rattle.std.specs.Prelude.{ℕ, List, Option, Some, None, Result, Ok, Bool, false, codes, if◌then◌else◌}
use Rattle.std.specs.Option.{option_and_then}
use Rattle.std.specs.Str.{bytes_eq}
use Rattle.jiff.specs.Types.{Timestamp}
use Rattle.serde_json.specs.Data.{Data}
use Rattle.serde_json.specs.Find.{get, as_str}
use Rattle.js_json_members.specs.declared.key.Key.TheVariants as key
use Rattle.js_json_members.specs.declared.error.ReadError.{ReadError}
use Rattle.js_json_members.specs.Key.{key_name}
use Rattle.js_json_members.specs.Member.{◌>>=◌, Reads, required, optional, text}
use Rattle.js_json_members.specs.Instant.{instant}
use Rattle.js_json.specs.declared.consumer.info.PriorityGroupState.{PriorityGroupState}

-- the text that a server writes where no reader is pinned
abbrev pub no_pin : List ℕ
no_pin = codes "0001-01-01T00:00:00Z"

-- whether a text is that one
abbrev pub is_no_pin : Option (List ℕ) → Bool
is_no_pin None = false
is_no_pin (Some s) = bytes_eq s no_pin

-- whether a member is that text
abbrev pub says_no_pin : Option Data → Bool
says_no_pin member = is_no_pin (option_and_then as_str member)

-- an instant, of which that text alone says that there is none
unfoldable pub pinned_at : Reads (Option Timestamp)
pinned_at key d = if says_no_pin (get (key_name key) d) then Ok None else optional instant key d

-- a group from its members
unfoldable pub priority_group_state_fields : Data → Result PriorityGroupState ReadError
priority_group_state_fields d = do
  group ← required text key.Group d
  pinned_client_id ← optional text key.PinnedClientId d
  pinned_ts ← pinned_at key.PinnedTs d
  Ok (record { group = group; pinned_client_id = pinned_client_id; pinned_ts = pinned_ts })
