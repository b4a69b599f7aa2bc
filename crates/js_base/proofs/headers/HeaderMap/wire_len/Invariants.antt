use Rattle.std.proofs.Common.{◌≡◌, ◌+◌, ◌-◌, ◌^◌, min, take, sum_by}
use Rattle.js_base.specs.Headers.{line_len}
use Rattle.js_base.proofs.headers.HeaderMap.wire_len.Given as goal

-- the sum so far
abbrev pub invariant-loop-header : goal.invariant-loop-header
invariant-loop-header l =
    (l.header-items ≡ l.self) × (l.len ≡ min (12 + sum_by line_len (take l.header-index l.self)) (2 ^ 64 - 1))
