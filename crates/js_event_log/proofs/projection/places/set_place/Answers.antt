use Rattle.std.proofs.Common.{◌∙◌}
use Rattle.js_event_log.proofs.ProjectionPlaces.{placed_at}
use Rattle.js_event_log.proofs.projection.places.set_place.Goals as goal

pub returns-clause-ok : goal.returns-clause-ok
returns-clause-ok c = λ entries h at.
    placed_at c.args.places.now c.insert.new.self c.in_ok-subject.subject c.args.place entries c.args.entry.now at (c.in_ok-subject.ensures.ok ∙ c.as_str.ensures)
    c.in_ok-insert.ensures.entries c.in_ok-insert.ensures.updates h
