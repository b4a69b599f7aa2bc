-- How far the server's API goes, which is asked before the stream of a bucket is made or changed.
use Rattle.std.specs.Prelude.{ℕ, ◌≡◌, ◌&&◌, nat_lt, Bool, true, false, if◌then◌else◌, Option, Some, None, Result, Ok, Err, refl}
use Rattle.std.specs.Option.{is_some}
use Rattle.js_base.specs.Error.{plain}
use Rattle.js_base.specs.declared.error.Error.{Error}
use Rattle.js_json.specs.declared.account.Account.{Account}
use Rattle.js_call.specs.declared.call.Call.{Call}
use Rattle.js_call.specs.declared.scope.ApiScope.{ApiScope}
use Rattle.js_call.specs.declared.call_sequence.Then.{Then}
use Rattle.js_call.specs.declared.call_sequence.Then.TheVariants.{First}
use Rattle.js_call_streams.specs.Account.{querying}
use Rattle.js_call_streams.specs.declared.account_error.AccountErrorKind.{AccountErrorKind}
use Rattle.js_call_streams.specs.declared.account.QueryingAccount.{QueryingAccount}
use Rattle.js_store.specs.declared.error.CreateKeyValueErrorKind.TheVariants as creates
use Rattle.js_store.specs.declared.kv.Config.{Config}
use Rattle.js_store.specs.declared.api_level.AskingLevel.{AskingLevel}
use Rattle.js_store.specs.declared.api_level.IfAllowed.{IfAllowed}
use Rattle.js_store.specs.declared.bucket_call.BucketCall.{BucketCall}
use Rattle.js_store.specs.declared.refusal.Refusal.{Refusal}
use Rattle.js_store.specs.declared.refusal.Refusal.TheVariants.{JetStream, LimitMarkersNotSupported}
use Rattle.js_store.specs.declared.refusal.Refused.{Refused}
use Rattle.js_store.specs.declared.store.Store.{Store}
use Rattle.js_store.specs.BucketCall.{Row, asking}
use Rattle.js_store.specs.Refusal.{config_refusal, create_refusal, error_of}

-- a refusal that has no source
abbrev pub refused_with : Option Refusal → Option (Result ℕ Refused)
refused_with None = None
refused_with (Some refusal) = Some (Err (record { refusal = refusal; source = None }))

-- the row of the call that asks: its answer is the level of the account's API
abbrev pub level_row : Row AskingLevel Account (Error AccountErrorKind) (Unit {0}) (Result ℕ Refused)
level_row = record {
  refused = λ s. refused_with s.refusal;
  needs = λ s account. tt;
  accepts = λ s account needs. Ok account.requests.level;
  refuses = λ s error source. Err (record { refusal = JetStream; source = Some source });
}

-- the call that asks it
abbrev pub LevelCall : Type 0
LevelCall = BucketCall (Call QueryingAccount) Account (Error AccountErrorKind) AskingLevel

-- the call, which is not sent
abbrev pub asking_level : ApiScope → Option Refusal → LevelCall
asking_level scope refusal = asking (record { refusal = refusal }) (querying scope)

-- the calls that make or change a bucket, of which none is sent: that one, and then what asks for the bucket's stream
abbrev pub LevelFirst : {S : Type 0} → (ApiScope → Config → S → Type 0) → ApiScope → Config → Then LevelCall S IfAllowed → Type 0
LevelFirst {S = S} Asks scope config calls =
    (second : S) × Asks scope config second
    × (calls ≡ First (asking_level scope (config_refusal config)) second (record { limit_markers = is_some config.limit_markers }))

-- the last answer, unless the account was told and its level allows what is asked for: markers want level 1
abbrev pub unless_allowed : {K : Type 0} → (Refusal → K) → Bool → Result ℕ Refused → Option (Result Store (Error K))
unless_allowed kinds limit_markers (Ok level) = if limit_markers && nat_lt level 1 then Some (Err (plain (kinds LimitMarkersNotSupported))) else None
unless_allowed kinds limit_markers (Err refused) = Some (Err (error_of kinds refused))

-- markers are refused at level 0 and go on at level 1, and without markers no level is asked
markers_want_a_level : unless_allowed create_refusal true (Ok 0) ≡ Some (Err (plain creates.LimitMarkersNotSupported))
markers_want_a_level = refl

level_1_allows_markers : unless_allowed create_refusal true (Ok 1) ≡ None
level_1_allows_markers = refl

no_markers_want_none : unless_allowed create_refusal false (Ok 0) ≡ None
no_markers_want_none = refl
