use Rattle.std.proofs.Common.{◌≡◌, ◌<◌, true, false, length, option_copied, sym, ◌∙◌, arith}
use Rattle.js_event_log.specs.Mirror.{entry_with}
use Rattle.js_event_log.proofs.MirrorPass.{pass_begins, pass_more, held_at, search_begins, conflict_at, search_more, search_all}
use Rattle.js_event_log.proofs.mirror.merge.first_conflict.Goals as goal

pub loop-entry-init : goal.loop-entry-init
loop-entry-init c = record {
  pass = pass_begins c.args.one.now c.args.other.now c.requires.one c.requires.other;
  search = search_begins c.args.one.now c.args.other.now c.requires.other;
}

pub returns-then-is_other-clause-some : goal.returns-then-is_other-clause-some
returns-then-is_other-clause-some c =
    let within : c.loop-entry.entry-index < length c.args.other.now = omega (arith, c.loop-entry-test.true) in
    let held : option_copied c.first_with.result ≡ entry_with c.entry-item.result.sequence c.args.one.now =
    held_at c.args.one.now c.loop-entry.rest.now c.skip_below-rest.result.now c.args.other.now c.loop-entry.entry-index c.entry-item.result (option_copied c.first_with.result)
    c.entry-item.is within c.loop-entry.invariant.pass c.skip_below-rest.ensures c.first_with.ensures in
    conflict_at c.args.one.now c.loop-entry.rest.now c.args.other.now c.loop-entry.entry-index c.entry-item.result (option_copied c.first_with.result)
    c.entry-item.is within c.loop-entry.invariant.pass c.loop-entry.invariant.search held (c.is_other.ensures.0 c.if-is_other.true)

pub loop-entry-preserved : goal.loop-entry-preserved
loop-entry-preserved c =
    let within : c.loop-entry.entry-index < length c.args.other.now = omega (arith, c.loop-entry-test.true) in
    let held : option_copied c.first_with.result ≡ entry_with c.entry-item.result.sequence c.args.one.now =
    held_at c.args.one.now c.loop-entry.rest.now c.skip_below-rest.result.now c.args.other.now c.loop-entry.entry-index c.entry-item.result (option_copied c.first_with.result)
    c.entry-item.is within c.loop-entry.invariant.pass c.skip_below-rest.ensures c.first_with.ensures in
    record {
      pass = pass_more c.args.one.now c.loop-entry.rest.now c.skip_below-rest.result.now c.args.other.now c.loop-entry.entry-index c.entry-item.result
          c.entry-item.is within c.loop-entry.invariant.pass c.skip_below-rest.ensures;
      search = search_more c.args.one.now c.args.other.now c.loop-entry.entry-index c.entry-item.result (option_copied c.first_with.result)
          c.entry-item.is within c.loop-entry.invariant.search held
          (λ differs. let both : true ≡ false = sym (c.is_other.ensures.1 differs) ∙ c.if-is_other.false in absurd (cc));
    }

pub returns-clause-none : goal.returns-clause-none
returns-clause-none c = search_all c.args.one.now c.args.other.now c.loop-entry.entry-index (omega (arith, c.loop-entry-test.false)) c.loop-entry.invariant.search
