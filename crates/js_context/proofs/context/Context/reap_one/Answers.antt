use Rattle.js_context.proofs.AckLooks.{looks_at, some_is}
use Rattle.js_context.proofs.context.Context.reap_one.Goals as goal

pub returns : goal.returns
returns g c ack after is =
    let sent = some_is _ _ (c.in-Some.ensures.first ack after is) in (
      c.look.result,
      c.is_settled-settled.ensures,
      looks_at _ ack after c.look.result c.is_settled-settled.result _ _ _ _ _ sent c.look.ensures c.is_settled-settled.ensures
          c.settle_or_keep.ensures.gives (c.settle_or_keep.ensures.list ack after is),
    )
