use Rattle.std.proofs.Common.{◌≡◌, length}
use Rattle.js_link_wire.specs.Headers.{headers_in}
use Rattle.js_link_wire.proofs.HeaderSteps.{with_front}
use Rattle.js_link_wire.proofs.headers.headers_in.Given as goal

-- the headers so far, with those of what is left
abbrev pub invariant-loop-headers : goal.invariant-loop-headers
invariant-loop-headers l = with_front l.headers (headers_in l.left) ≡ headers_in l.bytes

abbrev pub decreases-loop-headers : goal.decreases-loop-headers
decreases-loop-headers l = length l.left
