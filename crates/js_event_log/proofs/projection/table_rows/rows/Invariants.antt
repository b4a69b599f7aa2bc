use Rattle.std.proofs.Common.{◌≡◌, ◌++◌}
use Rattle.js_event_log.specs.ProjectionPlaces.{rows_at}
use Rattle.js_event_log.proofs.projection.table_rows.rows.Given as goal

abbrev pub invariant-loop-place : goal.invariant-loop-place
invariant-loop-place l = rows_at l.filter l.entries l.places.entries ≡ l.rows.items ++ rows_at l.filter l.entries l.place-iterator
