use Rattle.std.proofs.Common.{sym, subst, arith}
use Rattle.js_event_log.specs.Mirror.{RisesFrom}
use Rattle.js_event_log.proofs.MirrorLookup.{weaker}
use Rattle.js_event_log.proofs.mirror.Mirror.get.Goals as goal

pub entry_with-requires : goal.entry_with-requires
entry_with-requires c =
    subst (λ es. RisesFrom 0 es) (sym c.deref.ensures.value) (weaker 0 c.self.inside.start c.self.inside.entries.items (omega arith) c.self.invariant.1)
