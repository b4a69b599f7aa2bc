use Rattle.std.proofs.Common.{◌≡◌, ℕ, ◌-◌, ◌^◌, List}
use Rattle.js_ordered_table.specs.declared.event.Event.{Event}
use Rattle.js_ordered_table.specs.declared.run.Output.{Output}
use Rattle.js_ordered_recorder.specs.Acts.{Rests, World}
use Rattle.js_ordered_recorder.specs.Recorder.{Goes}
use Rattle.js_ordered_recorder.specs.Recording.{WritesAll}
use Rattle.js_ordered_recorder.proofs.recorder.Recorder.run.Given as goal

-- nothing was for the user so far
abbrev pub invariant-turns : goal.invariant-turns
invariant-turns g l =
    let view = g.L.Link.view in
    record {
      so : (es : List Event) × (worked : List Output) × Goes l.now (record { recorder = l.fn.self; link = view l.fn.link }) es worked (record { recorder = l.self; link = view l.link })
          × WritesAll g.R.Recording.writes l.fn.self.fault es l.self.fault l.fn.recording l.recording;
      rests : Rests l.self;
    }

abbrev pub decreases-turns : goal.decreases-turns
decreases-turns g l = 2 ^ 64 - l.self.replay.value.count
