-- A default keeps the limits of its consumer.
use Rattle.std.proofs.Common.{◌≡◌, ℕ, ◌*◌, ◌≤◌, Option, Some, None, arith}
use Rattle.std.specs.Prelude.{ℤ, pos, negsuc, zero, suc, true, unwrap_or}
use Rattle.js_base.specs.Clock.{second}
use Rattle.js_pull.specs.Limits.{clamp_batch, clamp_expires, clamp_heartbeat}
use Rattle.js_readers.specs.Builder.{KeepsLimits, IsWithinBatch, IsWithinExpiry, IsWithinHalf, lowered, set_or}

batch_within : (batch : ℕ) (limit : ℤ) → IsWithinBatch (clamp_batch batch limit) limit
batch_within batch (pos zero) = tt
batch_within batch (pos (suc n)) = grind arith
batch_within batch (negsuc n) = tt

expiry_within : (expires limit : ℕ) → IsWithinExpiry (Some (clamp_expires expires limit)) limit
expiry_within expires zero = tt
expiry_within expires (suc n) = grind arith

half_within : (heartbeat expires : ℕ) → 2 * clamp_heartbeat heartbeat expires ≤ expires
half_within heartbeat expires = grind arith

batch_set : (own : Option ℕ) (limit : ℤ) → own ≡ None → IsWithinBatch (unwrap_or own (clamp_batch 200 limit)) limit
batch_set own limit is = rw is (batch_within 200 limit)

expiry_set : (own : Option ℕ) (limit : ℕ) → own ≡ None → IsWithinExpiry (set_or own (Some (clamp_expires (30 * second) limit))) limit
expiry_set own limit is = rw is (expiry_within (30 * second) limit)

half_set : (own : Option ℕ) (default heartbeat : ℕ) → own ≡ None → IsWithinHalf (lowered true own (Some default) heartbeat) (set_or own (Some default))
half_set own default heartbeat is = rw is (half_within heartbeat default)

pub keeps_limits : KeepsLimits
keeps_limits max_batch max_expires s = record {
  batch = batch_set s.batch max_batch;
  expires = expiry_set s.expires max_expires;
  heartbeat = half_set s.expires (clamp_expires (30 * second) max_expires) s.heartbeat;
}
