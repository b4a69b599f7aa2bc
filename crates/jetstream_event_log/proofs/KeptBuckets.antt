-- A bucket in which nothing expires has limits that keep the last of each key, and no other bucket has.
use Rattle.std.proofs.Common.{◌≡◌, ℕ, ℤ, pos, negsuc, Bool, true, false, if◌then◌else◌, Option, Some, None, refl, ap}
use Rattle.std.specs.Prelude.{int_lt}
use Rattle.std.specs.Option.{is_some}
use Rattle.js_store.specs.Kv.{history_of}
use Rattle.js_store.specs.declared.kv.Config.{Config}
use Rattle.js_store_table.specs.Removals.{KeepsLast}
use Rattle.jetstream_event_log.specs.BucketLimits.{NothingExpires, bucket_limits}
use Rattle.jetstream_event_log.specs.KeyPlaces.{history_in}

without_value : {A : Type 0} (o : Option A) → is_some o ≡ false → o ≡ None
without_value None none = refl
without_value (Some value) some = cc

pub kept : (config : Config) → NothingExpires config → KeepsLast (bucket_limits config)
kept config nothing = record {
  without_age = nothing.without_age;
  without_ttl = ap is_some nothing.without_markers;
  refuses = refl;
  retains = refl;
  denies = refl;
}

pub only : (config : Config) → KeepsLast (bucket_limits config) → NothingExpires config
only config keeps = record {
  without_age = keeps.without_age;
  without_markers = without_value config.limit_markers keeps.without_ttl;
}

-- a number that is chosen is no negative one
chosen : (b : Bool) (n : ℕ) → pos (history_in (if b then pos n else pos 1)) ≡ (if b then pos n else pos 1)
chosen true n = refl
chosen false n = refl

as_many : (history : ℤ) → pos (history_in (history_of history)) ≡ history_of history
as_many (pos n) = chosen (int_lt (pos 0) (pos n)) n
as_many (negsuc n) = refl

pub history : (config : Config) → pos (bucket_limits config).messages_per_subject ≡ history_of config.history
history config = as_many config.history
