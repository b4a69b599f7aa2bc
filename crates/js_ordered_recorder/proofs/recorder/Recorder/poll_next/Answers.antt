use Rattle.std.proofs.Common.{Option, sym, subst}
use Rattle.js_ordered_recorder.specs.declared.recording.RecordingFault.{RecordingFault}
use Rattle.js_ordered_recorder.specs.Acts.{World}
use Rattle.js_ordered_recorder.specs.Recording.{WritesAll}
use Rattle.js_ordered_recorder.proofs.ActSequences.{world}
use Rattle.js_ordered_recorder.proofs.RecorderStates.{answers_come}
use Rattle.js_ordered_recorder.proofs.recorder.Recorder.poll_next.Goals as goal

pub returns : goal.returns
returns g c =
    let view = g.L.Link.view in
    let a : World = world c.args.self.now (view c.args.link.now) in
    let b : World = world c.answer.new.self (view c.run-ending.new.link) in
    let ran = c.run-ending.ensures in
    let answers = c.answer.ensures.answers c.args.now (view c.run-ending.new.link) a ran.0 ran.1 ran.2 in
    record {
      es = ran.0;
      worked = ran.1;
      answers = answers;
      wrote = subst (λ (w : Option RecordingFault). WritesAll g.R.Recording.writes c.args.self.now.fault ran.0 w c.args.recording.now c.run-ending.new.recording) (sym c.answer.ensures.fault) ran.3;
      stands = answers_come c.args.now c.answer.result a b ran.0 ran.1 answers;
    }
