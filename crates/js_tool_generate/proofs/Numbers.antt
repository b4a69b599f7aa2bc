-- The numbers of the episodes.
use Rattle.std.proofs.Common.{◌≡◌, ℕ, zero, suc, ◌*◌, ◌<◌, ◌≤◌, ◌⊎◌, inl, inr, arith}
use Rattle.js_tool_generate.specs.Episode.{delivered, before}

pub few : (seed episode : ℕ) → (1 ≤ delivered seed episode) × (delivered seed episode ≤ 8)
few seed episode = (omega arith, omega arith)

pub before_bound : (seed episode : ℕ) → before seed episode ≤ 8 * episode
before_bound seed zero = omega arith
before_bound seed (suc episode) = let h = before_bound seed episode in let d = few seed episode in omega (arith, h, d.1)

order : (a b : ℕ) → (a ≡ b) ⊎ ((a < b) ⊎ (b < a))
order a b = grind arith

step_rises : (seed first second : ℕ) → first ≤ suc second → (first ≤ second → before seed first ≤ before seed second)
    → (first ≡ suc second) ⊎ ((first < suc second) ⊎ (suc second < first)) → before seed first ≤ before seed (suc second)
step_rises seed first second within below (inl e) = rw e (omega arith)
step_rises seed first second within below (inr (inl less)) = let h = below (omega arith) in omega (arith, h)
step_rises seed first second within below (inr (inr more)) = absurd (omega arith)

pub before_rises : (seed first second : ℕ) → first ≤ second → before seed first ≤ before seed second
before_rises seed first zero within = let e : first ≡ zero = omega arith in rw e (omega arith)
before_rises seed first (suc second) within = step_rises seed first second within (before_rises seed first second) (order first (suc second))
