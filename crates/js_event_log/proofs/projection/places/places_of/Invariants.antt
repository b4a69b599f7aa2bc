use Rattle.std.proofs.Common.{take}
use Rattle.js_event_log.specs.ProjectionPlaces.{IsPlaced}
use Rattle.js_event_log.proofs.projection.places.places_of.Given as goal

abbrev pub invariant-loop-place : goal.invariant-loop-place
invariant-loop-place l = IsPlaced l.places.entries (take l.place l.entries)
