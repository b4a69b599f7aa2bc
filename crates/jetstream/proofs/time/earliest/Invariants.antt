use Rattle.std.proofs.Common.{◌≡◌, ℕ, take}
use Rattle.std.specs.List.{list_any}
use Rattle.js_base.specs.Clock.{has_come}
use Rattle.jetstream.proofs.time.earliest.Given as goal

abbrev pub invariant-loop-moment : goal.invariant-loop-moment
invariant-loop-moment l = record {
  first : (now : ℕ) → has_come l.first now ≡ list_any (λ x. has_come x now) (take l.moment-index l.moments);
}
