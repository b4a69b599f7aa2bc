use Rattle.std.proofs.Common.{◌≡◌, ◌++◌, [], Option, true, refl, subst}
use Rattle.js_ordered_recorder.specs.declared.recording.RecordingFault.{RecordingFault}
use Rattle.js_ordered_table.specs.Fold.{is_over}
use Rattle.js_ordered_recorder.specs.Acts.{World, phase_of}
use Rattle.js_ordered_recorder.specs.Recording.{WritesAll}
use Rattle.js_ordered_recorder.proofs.ActSequences.{over_turn, turns_on, world}
use Rattle.js_ordered_recorder.proofs.recorder.Recorder.turn.Goals as goal

pub returns-in-Some : goal.returns-in-Some
returns-in-Some g c =
    let done = c.in-Some.ensures.works c.args.now in
    ([], done.0, done.1, (refl, c.in-Some.ensures.fault))

pub returns-then-is_over : goal.returns-then-is_over
returns-then-is_over g c =
    let view = g.L.Link.view in
    let a : World = world c.args.self.now (view c.args.link.now) in
    let b : World = world c.work_all.new.self (view c.work_all.new.link) in
    let over : is_over (phase_of c.work_all.new.self) ≡ true = cc in
    let done = c.in-None.ensures.works c.args.now in
    ([], done.0, over_turn c.args.now a b done.0 done.1 over, (refl, c.in-None.ensures.fault))

pub take_turn-requires-clause-rests : goal.take_turn-requires-clause-rests
take_turn-requires-clause-rests g c = (c.in-None.ensures.works c.args.now).1.1.rests

pub take_turn-requires-clause-empty : goal.take_turn-requires-clause-empty
take_turn-requires-clause-empty g c = (c.in-None.ensures.works c.args.now).1.1.empty

pub returns-else-is_over : goal.returns-else-is_over
returns-else-is_over g c =
    let view = g.L.Link.view in
    let a : World = world c.args.self.now (view c.args.link.now) in
    let b : World = world c.work_all.new.self (view c.work_all.new.link) in
    let d : World = world c.take_turn.new.self (view c.take_turn.new.link) in
    let done = c.in-None.ensures.works c.args.now in
    let turned = c.take_turn.ensures in (
      turned.0,
      done.0 ++ [],
      turns_on c.args.now c.take_turn.result a b d turned.0 done.0 done.1.0 c.in-None.ensures.count turned.1,
      subst (λ (w : Option RecordingFault). WritesAll g.R.Recording.writes w turned.0 c.take_turn.new.self.fault c.args.recording.now c.take_turn.new.recording) c.in-None.ensures.fault turned.2,
    )
