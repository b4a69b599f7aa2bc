use Rattle.std.proofs.Common.{◌++◌, []}
use Rattle.js_ordered_recorder.specs.Acts.{World}
use Rattle.js_ordered_recorder.proofs.ActSequences.{ends_on, goes_on, world}
use Rattle.js_ordered_recorder.proofs.Written.{writes_on}
use Rattle.js_ordered_recorder.proofs.recorder.Recorder.run.Goals as goal

pub returns-in-Err : goal.returns-in-Err
returns-in-Err g c =
    let resumed = c.in-Err.ensures.goes (g.L.Link.view c.args.link.now) in
    (resumed.0, [], resumed.1, resumed.2)

pub turns-init : goal.turns-init
turns-init g c =
    let resumed = c.in-Ok.ensures.goes (g.L.Link.view c.args.link.now) in
    record { so = (resumed.0, [], resumed.1, resumed.2); rests = c.in-Ok.ensures.rests }

pub returns-in-Some : goal.returns-in-Some
returns-in-Some g c =
    let view = g.L.Link.view in
    let a : World = world c.args.self.now (view c.args.link.now) in
    let b : World = world c.turns.self (view c.turns.link) in
    let d : World = world c.turn.new.self (view c.turn.new.link) in
    let so = c.turns.invariant.so in
    let turned = c.in-Some.ensures in (
      so.0 ++ turned.0,
      so.1 ++ turned.1,
      ends_on c.args.now c.in-Some.ending a b d so.0 turned.0 so.1 turned.1 so.2 turned.2,
      writes_on g.R.Recording.writes so.0 turned.0 c.args.self.now.fault c.turns.self.fault c.turn.new.self.fault c.args.recording.now c.turns.recording c.turn.new.recording so.3 turned.3,
    )

pub turns-preserved : goal.turns-preserved
turns-preserved g c =
    let view = g.L.Link.view in
    let a : World = world c.args.self.now (view c.args.link.now) in
    let b : World = world c.turns.self (view c.turns.link) in
    let d : World = world c.turn.new.self (view c.turn.new.link) in
    let so = c.turns.invariant.so in
    let turned = c.in-None.ensures in
    record {
      so = (
        so.0 ++ turned.0,
        so.1 ++ turned.1,
        goes_on c.args.now a b d so.0 turned.0 so.1 turned.1 so.2 turned.2.0,
        writes_on g.R.Recording.writes so.0 turned.0 c.args.self.now.fault c.turns.self.fault c.turn.new.self.fault c.args.recording.now c.turns.recording c.turn.new.recording so.3 turned.3,
      );
      rests = turned.2.1;
    }
