use Rattle.std.proofs.Common.{◌≡◌, ◌+◌, ◌≤◌, [], length, vec_capacity, vec_len}
use Rattle.js_ordered_table.specs.Passes.{input_of}
use Rattle.js_ordered.proofs.ReplayRuns.{Goes}
use Rattle.js_ordered.proofs.replay.add_steps.Given as goal

abbrev pub invariant-loop-place : goal.invariant-loop-place
invariant-loop-place l = record {
  goes : Goes (input_of l.context) l.events l.fn.state l.place l.state l.steps.items;
  outputs : l.outputs.items ≡ [];
  rested : l.todo.tasks.items ≡ [];
  room : vec_len l.steps + length l.events ≤ vec_capacity l.steps + l.place;
}
