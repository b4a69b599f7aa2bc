use Rattle.std.proofs.Common.{refl}
use Rattle.js_ordered.proofs.drive.pull_rows.finish.Goals as goal

pub returns : goal.returns
returns c = λ m. record {
  told = c.take_notice-told.result.told;
  consumer = c.take_notice-told.new.consumer;
  steps = c.take_notice-told.ensures m;
  outputs = c.tell.ensures;
  state = refl;
}
