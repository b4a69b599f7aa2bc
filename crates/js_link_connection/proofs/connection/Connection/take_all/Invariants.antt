use Rattle.std.proofs.Common.{◌≡◌, length}
use Rattle.js_link_connection.proofs.Frames.{SoFar}
use Rattle.js_link_connection.proofs.connection.Connection.take_all.Given as goal

abbrev pub invariant-frames : goal.invariant-frames
invariant-frames l = record {
  so_far : SoFar l.fn.self.most l.fn.self.came l.fn.self l.self;
  most : l.self.most ≡ l.fn.self.most;
  quiet : l.self.keep_alive.quiet ≡ l.fn.self.keep_alive.quiet;
}

abbrev pub decreases-frames : goal.decreases-frames
decreases-frames l = length l.self.came
