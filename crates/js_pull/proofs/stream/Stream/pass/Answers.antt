use Rattle.js_pull.proofs.NextRow.{step_seen}
use Rattle.js_pull.proofs.stream.Stream.pass.Goals as goal

pub returns-in-Ok : goal.returns-in-Ok
returns-in-Ok g c =
    step_seen _ _ _ _ c.meet.new.held c.finish.new.self.held _ (g.L.Link.view c.meet.new.link) c.finish.ensures.held (c.finish.ensures.passes _ _ c.in-Ok.ensures.met)
