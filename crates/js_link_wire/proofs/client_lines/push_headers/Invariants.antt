use Rattle.std.proofs.Common.{◌≡◌, ◌++◌, flat_map}
use Rattle.js_base.specs.Headers.{pairs}
use Rattle.js_link_wire.specs.Written.{header_line}
use Rattle.js_link_wire.proofs.client_lines.push_headers.Given as goal

-- what was written, with the lines that are still to be written
abbrev pub invariant-loop-header : goal.invariant-loop-header
invariant-loop-header l = l.out.items ++ flat_map header_line (pairs l.header-iterator) ≡ l.initial.out.items ++ flat_map header_line (pairs l.headers)
