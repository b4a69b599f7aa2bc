use Rattle.std.proofs.Common.{◌≡◌, ◌<◌, length, option_copied, arith}
use Rattle.js_event_log.specs.Mirror.{entry_with}
use Rattle.js_event_log.proofs.MirrorPass.{pass_more, held_at, lack_more}
use Rattle.js_event_log.proofs.mirror.merge.missing.Goals as goal

pub loop-entry-preserved : goal.loop-entry-preserved
loop-entry-preserved c =
    let within : c.loop-entry.entry-index < length c.args.other.now = omega (arith, c.loop-entry-test.true) in
    let held : option_copied c.first_with.result ≡ entry_with c.entry-item.result.sequence c.args.one.now =
    held_at c.args.one.now c.loop-entry.rest.now c.skip_below-rest.result.now c.args.other.now c.loop-entry.entry-index c.entry-item.result (option_copied c.first_with.result)
    c.entry-item.is within c.loop-entry.invariant.pass c.skip_below-rest.ensures c.first_with.ensures in
    record {
      pass = pass_more c.args.one.now c.loop-entry.rest.now c.skip_below-rest.result.now c.args.other.now c.loop-entry.entry-index c.entry-item.result
          c.entry-item.is within c.loop-entry.invariant.pass c.skip_below-rest.ensures;
      lacking = lack_more c.args.one.now c.args.other.now c.loop-entry.missing.items c.add_lacked.new.missing.items c.loop-entry.entry-index c.entry-item.result (option_copied c.first_with.result)
          c.entry-item.is within c.loop-entry.invariant.lacking held c.in_ok-add_lacked.ensures;
    }
