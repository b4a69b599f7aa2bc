use Rattle.std.proofs.Common.{◌≡◌, ◌-◌, ◌<◌, ◌≤◌, length}
use Rattle.std.specs.Io.KnownBytes.{Consumes}
use Rattle.js_tool_io.proofs.transfer.read_through.Given as goal

abbrev pub invariant-loop-read : goal.invariant-loop-read
invariant-loop-read g l = record {
  so_far : Consumes (g.S.Source.left l.initial.input) (g.S.Source.left l.input) l.read;
  room : 0 < length l.buf;
  counted : l.length ≡ length l.read;
  within : l.length ≤ 67_108_864;
  later : g.S.Source.faults l.initial.input ≤ g.S.Source.faults l.input;
}

abbrev pub decreases-loop-read : goal.decreases-loop-read
decreases-loop-read g l = 67_108_864 - l.length
