use Rattle.std.proofs.Common.{refl}
use Rattle.js_ordered_table.specs.Passes.{input_of}
use Rattle.js_ordered.specs.Drive.{matter_now}
use Rattle.js_ordered.specs.Give.{IsOpening}
use Rattle.js_ordered_table.specs.Fold.{passing}
use Rattle.js_ordered_table.specs.Texts.{inbox_subject}
use Rattle.js_ordered_table.specs.Texts.{pull_source}
use Rattle.std.proofs.Common.{◌≡◌, []}
use Rattle.js_ordered.proofs.DrivenRows.{succeeds_pull, ok_holds}
use Rattle.js_ordered.proofs.drive.success.succeed_pull.Goals as goal

pub returns-in-Ok : goal.returns-in-Ok
returns-in-Ok c =
    let g = input_of c.args.context.now.consumer in
    let now = c.args.context.now.consumer.moment in
    let m = matter_now c.args.context.now in
    let w = c.args.state.now in
    succeeds_pull g now m c.args.info.now c.args.recreation w _ c.subscribe-inbox.result c.subscribe-inbox.new.inboxes_opened c.args.outputs.now.items c.subscribe-inbox.new.outputs.items c.pass_succeed_pull.new.consumer c.pass_succeed_pull.result c.requires.pull
    (c.subscribe-inbox.ensures w.link_up (inbox_subject g w.inboxes_opened) (ok_holds (λ next. IsOpening w.link_up w.inboxes_opened (inbox_subject g w.inboxes_opened) next.opening) c.next_reader.result _ c.in-Ok.is c.next_reader.ensures.opening))
    (c.pass_succeed_pull.ensures m (passing g now w) c.args.info.now (ok_holds (λ next. next.source ≡ pull_source g w.consumer.core.recreation_count 0 [] c.args.info.now) c.next_reader.result _ c.in-Ok.is c.next_reader.ensures.source)) refl
