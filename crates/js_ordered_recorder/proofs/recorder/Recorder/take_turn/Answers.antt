use Rattle.std.proofs.Common.{Option, [], refl, ap}
use Rattle.std.specs.Prelude.{is_some}
use Rattle.js_ordered_recorder.specs.declared.recorder.Recorder.{Recorder}
use Rattle.js_ordered_recorder.specs.declared.link_event.Taken.{Taken}
use Rattle.js_ordered_recorder.proofs.ActSequences.{quiet_turn, turn_on}
use Rattle.js_ordered_recorder.proofs.recorder.Recorder.take_turn.Goals as goal

pub returns-in-None : goal.returns-in-None
returns-in-None g c =
    let view = g.L.Link.view in
    ([], quiet_turn c.args.now c.args.self.now (view c.args.link.now) (view c.take.new.link) c.in-None.ensures c.requires.rests c.requires.empty c.requires.alive, (refl, refl))

pub returns-in-Ok : goal.returns-in-Ok
returns-in-Ok g c =
    let view = g.L.Link.view in
    let mid : Option Taken → Recorder = λ t. record c.args.self.now { taken = t } in
    let turned = turn_on g.R.Recording.writes c.args.now c.args.self.now (mid c.replace_with.new.place) c.resume.new.self c.in-Some.taken (view c.args.link.now) (view c.take.new.link) c.args.recording.now c.resume.new.recording
    c.in-Some.ensures c.requires.rests c.requires.empty c.requires.alive (ap mid c.replace_with.ensures) c.resume.ensures.goes in
    (turned.0, (turned.1, c.in-Ok.ensures.rests, c.in-Ok.ensures.counted (ap (λ (t : Option Taken). is_some t) c.replace_with.ensures)), turned.2)

pub returns-in-Err : goal.returns-in-Err
returns-in-Err g c =
    let view = g.L.Link.view in
    let mid : Option Taken → Recorder = λ t. record c.args.self.now { taken = t } in
    turn_on g.R.Recording.writes c.args.now c.args.self.now (mid c.replace_with.new.place) c.resume.new.self c.in-Some.taken (view c.args.link.now) (view c.take.new.link) c.args.recording.now c.resume.new.recording
    c.in-Some.ensures c.requires.rests c.requires.empty c.requires.alive (ap mid c.replace_with.ensures) c.resume.ensures.goes
