use Rattle.js_ordered_recorder.proofs.ActSequences.{writes_step}
use Rattle.js_ordered_recorder.proofs.recorder.Recorder.write_taken.Goals as goal

pub returns-clause-goes : goal.returns-clause-goes
returns-clause-goes g c = λ v.
    writes_step g.R.Recording.writes c.args.now c.args.self.now c.begin_event.new.self c.in-Some.taken c.later.result c.in_ok-kind.field-0 c.write_event-self.result v c.args.recording.now c.write_event-self.new.recording
    c.in-Some.is c.later.ensures c.in_ok-kind.ensures c.begin_event.ensures c.write_event-self.ensures
