use Rattle.std.proofs.Common.{refl}
use Rattle.js_ordered_table.specs.Passes.{input_of}
use Rattle.js_ordered.specs.Drive.{matter_now}
use Rattle.js_ordered.specs.Give.{IsOpening}
use Rattle.js_ordered_table.specs.Fold.{passing}
use Rattle.js_ordered_table.specs.Texts.{inbox_subject}
use Rattle.js_ordered.proofs.DrivenRows.{creates_push, ok_holds}
use Rattle.js_ordered.proofs.drive.recreation.create_push.Goals as goal

pub returns-in-Ok : goal.returns-in-Ok
returns-in-Ok c =
    let g = input_of c.args.context.now.consumer in
    let now = c.args.context.now.consumer.moment in
    let m = matter_now c.args.context.now in
    let w = c.args.state.now in
    creates_push g now m c.args.recreation w _ c.subscribe-inbox.result c.subscribe-inbox.new.inboxes_opened c.args.outputs.now.items c.subscribe-inbox.new.outputs.items c.pass_create.new.consumer c.pass_create.result c.requires.push
    (c.subscribe-inbox.ensures w.link_up (inbox_subject g w.inboxes_opened) (ok_holds (λ opening. IsOpening w.link_up w.inboxes_opened (inbox_subject g w.inboxes_opened) opening) c.create_inbox.result c.in-Ok.opening c.in-Ok.is c.create_inbox.ensures))
    (c.pass_create.ensures m (passing g now w)) refl
