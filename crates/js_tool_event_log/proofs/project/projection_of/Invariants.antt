use Rattle.std.proofs.Common.{◌≡◌, ◌++◌, length}
use Rattle.std.specs.Vec.Iter.{into_iter_items, into_iter_len}
use Rattle.js_event_log.specs.Projection.{last_sequence}
use Rattle.js_event_log.specs.RunProjection.{not_rising}
use Rattle.js_tool_event_log.proofs.project.projection_of.Given as goal

abbrev pub invariant-loop-entry : goal.invariant-loop-entry
invariant-loop-entry l = record {
  applied : l.projection ++ into_iter_items l.entry-iterator ≡ into_iter_items l.initial.entry-iterator;
  rises : not_rising 0 (into_iter_items l.initial.entry-iterator) ≡ not_rising (last_sequence l.projection) (into_iter_items l.entry-iterator);
  count : into_iter_len l.entry-iterator ≡ length (into_iter_items l.entry-iterator);
}
