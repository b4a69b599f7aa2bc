-- Changing a stream, and keeping what its configuration type does not name.
use Rattle.std.specs.Prelude.{ℕ, ◌≡◌, Bool, true, false, Option, Some, None, List, codes, Ok}
use Rattle.serde_json.specs.Data.{Data}
use Rattle.serde_json.specs.Written.{has_float, compact_text}
use Rattle.js_json_stream_bodies.specs.StreamConfig.{config_value}
use Rattle.js_json_stream_bodies.specs.declared.stream.config.Config.{Config}
use Rattle.js_json_stream_bodies.specs.declared.stream.info.Info.{Info}
use Rattle.js_call.specs.declared.call.Call.{Call}
use Rattle.js_call.specs.declared.raw_call.RawCall.{RawCall}
use Rattle.js_call.specs.declared.scope.ApiScope.{ApiScope}
use Rattle.js_call.specs.Scope.{asking, under}
use Rattle.js_call_streams.specs.declared.handle.StreamHandle.{StreamHandle}
use Rattle.js_call_streams.specs.declared.update.UpdatingStream.{UpdatingStream}
use Rattle.js_call_streams.specs.Create.{IsTextOf}
use Rattle.js_call_streams.specs.KeptText.{IsKeptOf}
use Rattle.js_call_streams.specs.Overlay.{is_same, over}
use Rattle.js_call_streams.specs.Update.{updating}

-- the value is what is written of the configuration, and no float stands in it
abbrev pub IsWrittenOf : Config → Data → Type 0
IsWrittenOf config value = (config_value config ≡ Ok value) × (has_float value ≡ false)

-- what is sent, by whether the configuration is written as before: what was kept, or else what is written now over the value of which it
-- was kept
abbrev pub SentBy : Bool → List ℕ → Data → Data → List ℕ → Type 0
SentBy true kept before after body = body ≡ kept
SentBy false kept before after body = (d : Data) × IsKeptOf kept d × (body ≡ compact_text (over d before after))

-- the body of an update to a configuration, by the one that was read and what was kept of it
pub record KeepsIn (kept : List ℕ) (read config : Config) (body : List ℕ) : Type 0 where
  pub before : Data
  pub after : Data
  pub was : config_value read ≡ Ok before
  pub is : config_value config ≡ Ok after
  pub plain : has_float before ≡ false
  pub sent : SentBy (is_same before after) kept before after body

-- the same for a handle: one that kept nothing asks with the configuration alone
abbrev pub SendsKept : Option (List ℕ) → Config → Config → List ℕ → Type 0
SendsKept None read config body = IsTextOf config body
SendsKept (Some kept) read config body = KeepsIn kept read config body

-- the request for an update of a stream with that body
abbrev pub asking_update : ApiScope → Config → List ℕ → RawCall
asking_update scope config body = asking scope (under (codes "STREAM.UPDATE") config.name) body

-- the request that writes the configuration over what the handle kept
abbrev pub AsksKeeping : ApiScope → StreamHandle Info → Config → RawCall → Type 0
AsksKeeping scope handle config asked =
    (body : List ℕ) × SendsKept handle.kept handle.info.config config body × (asked ≡ asking_update scope config body)

-- the call, which is not sent
abbrev pub UpdatesKeeping : ApiScope → StreamHandle Info → Config → Call UpdatingStream → Type 0
UpdatesKeeping scope handle config call =
    (asked : RawCall) × AsksKeeping scope handle config asked × (call ≡ updating config asked)

-- the call whose body is what was kept as it is: each member that was read, with its value
abbrev pub SendsBack : ApiScope → StreamHandle Info → Config → Call UpdatingStream → Type 0
SendsBack scope handle config call =
    (kept : List ℕ) → handle.kept ≡ Some kept → call ≡ updating config (asking_update scope config kept)
