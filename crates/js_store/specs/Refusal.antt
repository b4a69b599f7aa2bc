-- What a bucket of keys that is made or changed is refused with, before its stream is asked for.
use Rattle.std.specs.Prelude.{◌≡◌, pos, int_lt, not, if◌then◌else◌, Option, Some, None, codes, refl}
use Rattle.js_base.specs.Error.{plain, caused}
use Rattle.js_base.specs.declared.error.Error.{Error}
use Rattle.js_base.specs.declared.error.Source.{Source}
use Rattle.js_store.specs.Kv.{named}
use Rattle.js_store.specs.Name.{is_bucket_name}
use Rattle.js_store.specs.declared.kv.Config.{Config}
use Rattle.js_store.specs.declared.error.CreateKeyValueErrorKind.{CreateKeyValueErrorKind}
use Rattle.js_store.specs.declared.error.CreateKeyValueErrorKind.TheVariants as creates
use Rattle.js_store.specs.declared.error.UpdateKeyValueErrorKind.{UpdateKeyValueErrorKind}
use Rattle.js_store.specs.declared.error.UpdateKeyValueErrorKind.TheVariants as updates
use Rattle.js_store.specs.declared.refusal.Refusal.{Refusal}
use Rattle.js_store.specs.declared.refusal.Refusal.TheVariants.{InvalidStoreName, TooLongHistory, JetStream, LimitMarkersNotSupported}
use Rattle.js_store.specs.declared.refusal.Refused.{Refused}

-- the kind of a refusal where a bucket is made
abbrev pub create_refusal : Refusal → CreateKeyValueErrorKind
create_refusal InvalidStoreName = creates.InvalidStoreName
create_refusal TooLongHistory = creates.TooLongHistory
create_refusal JetStream = creates.JetStream
create_refusal LimitMarkersNotSupported = creates.LimitMarkersNotSupported

-- and where one is changed
abbrev pub update_refusal : Refusal → UpdateKeyValueErrorKind
update_refusal InvalidStoreName = updates.InvalidStoreName
update_refusal TooLongHistory = updates.TooLongHistory
update_refusal JetStream = updates.JetStream
update_refusal LimitMarkersNotSupported = updates.LimitMarkersNotSupported

-- an error that may have a source
abbrev pub error_with : {K : Type 0} → K → Option Source → Error K
error_with kind None = plain kind
error_with kind (Some source) = caused kind source

-- a refusal as an error
abbrev pub error_of : {K : Type 0} → (Refusal → K) → Refused → Error K
error_of kinds refused = error_with (kinds refused.refusal) refused.source

-- what a configuration is refused with: its name, and then a history above 64
abbrev pub config_refusal : Config → Option Refusal
config_refusal c =
    if not (is_bucket_name c.bucket) then Some InvalidStoreName
    else (if int_lt (pos 64) c.history then Some TooLongHistory else None)

-- 64 values of a key are not too many, 65 are, and a name with a dot goes before them
history_64_is_good : config_refusal (record (named (codes "cfg")) { history = pos 64 }) ≡ None
history_64_is_good = refl

history_65_is_refused : config_refusal (record (named (codes "cfg")) { history = pos 65 }) ≡ Some TooLongHistory
history_65_is_refused = refl

name_goes_first : config_refusal (record (named (codes "a.b")) { history = pos 65 }) ≡ Some InvalidStoreName
name_goes_first = refl
