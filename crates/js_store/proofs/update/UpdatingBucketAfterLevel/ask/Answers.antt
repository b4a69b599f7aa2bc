use Rattle.std.proofs.Common.{◌≡◌}
use Rattle.js_store.specs.Kv.{stream_config}
use Rattle.js_store.specs.Update.{changed_bucket}
use Rattle.js_store.proofs.update.UpdatingBucketAfterLevel.ask.Goals as goal

-- the stream that is asked for is the one that the bucket is
pub returns : goal.returns
returns c =
    let named : c.in_ok-changed.changed ≡ changed_bucket c.args.scope.now c.args.config = c.in_ok-changed.ensures.0 in
    let is : c.in_ok-changed.stream ≡ stream_config c.args.config = c.in_ok-changed.ensures.1 in
    (c.in_ok-asked.asked, rw is at c.in_ok-asked.ensures, rw named at c.new.ensures)
