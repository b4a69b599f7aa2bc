use Rattle.js_ordered_recorder.proofs.ActSequences.{world, writes_then}
use Rattle.js_ordered_recorder.proofs.recorder.Recorder.resume.Goals as goal

pub returns-clause-goes : goal.returns-clause-goes
returns-clause-goes g c = λ v.
    writes_then g.R.Recording.writes c.args.now (world c.args.self.now v) (world c.write_taken.new.self v) (world c.pass_event.new.self v) c.args.recording.now c.write_taken.new.recording
    (c.in_ok-write_taken.ensures.goes v) (c.pass_event.ensures.goes c.args.now v) c.pass_event.ensures.fault
