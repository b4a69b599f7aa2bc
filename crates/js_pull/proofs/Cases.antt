-- Cases that lemmas over all rows come to.
use Rattle.std.proofs.Common.{◌≡◌, ℕ, zero, suc, ◌/◌, ◌≤◌, Bool, true, false, refl, arith}
use Rattle.std.proofs.lemmas.Bool.{leb-true}
use Rattle.std.specs.Prelude.{⊤, ◌&&◌, ◌||◌, not, nat_le, nat_lt, if◌then◌else◌}
use Rattle.js_pull.specs.declared.reader.Reader.{Reader}
use Rattle.js_pull.specs.Reader as rows

pub if_each : {A : Type 0} (P : A → Type 0) (b : Bool) (x y : A) → (⊤ → P x) → (⊤ → P y) → P (if b then x else y)
if_each P true x y px py = px tt
if_each P false x y px py = py tt

pub if_known : {A : Type 0} (P : A → Type 0) (b : Bool) (x y : A) → (b ≡ true → P x) → (b ≡ false → P y) → P (if b then x else y)
if_known P true x y px py = px refl
if_known P false x y px py = py refl

-- where the threshold asks, at most half of a batch is pending
pub half_pending : (r : Reader) → r.source.config.max_bytes ≡ 0 → rows.is_low r && not r.waiting ≡ true → r.pending ≤ r.source.config.batch / 2
half_pending r none low = leb-true r.pending (r.source.config.batch / 2)
    (messages (nat_le r.pending (r.source.config.batch / 2)) (nat_lt 0 r.source.config.max_bytes) (nat_le r.pending_bytes (r.source.config.max_bytes / 2)) (not r.waiting)
    (unlimited r.source.config.max_bytes none) low)
  where
    unlimited : (n : ℕ) → n ≡ 0 → nat_lt 0 n ≡ false
    unlimited zero e = refl
    unlimited (suc n) e = absurd (omega arith)

    messages : (a b c d : Bool) → b ≡ false → (a || (b && c)) && d ≡ true → a ≡ true
    messages true b c d e h = refl
    messages false false c d e h = h
    messages false true c d e h = absurd (never e)
      where
        never : true ≡ false → ⊥
        never e = cc
