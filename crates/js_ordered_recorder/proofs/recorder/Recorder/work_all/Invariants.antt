use Rattle.std.specs.Prelude.{◌≡◌, ℕ}
use Rattle.js_ordered_recorder.specs.Acts.{Rests, World}
use Rattle.js_ordered_recorder.proofs.ActSequences.{WorkedSo, outputs_left}
use Rattle.js_ordered_recorder.proofs.recorder.Recorder.work_all.Given as goal

-- nothing was for the user so far
abbrev pub invariant-outputs : goal.invariant-outputs
invariant-outputs g l =
    let view = g.L.Link.view in
    record {
      so : (now : ℕ) → WorkedSo now (record { recorder = l.fn.self; link = view l.fn.link }) (record { recorder = l.self; link = view l.link });
      rests : Rests l.self;
      fault : l.self.fault ≡ l.fn.self.fault;
      count : l.self.replay.value.count ≡ l.fn.self.replay.value.count;
    }

abbrev pub decreases-outputs : goal.decreases-outputs
decreases-outputs g l = outputs_left l.self
