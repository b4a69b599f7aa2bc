use Rattle.std.proofs.Common.{sym, subst, arith}
use Rattle.js_event_log.specs.Mirror.{RisesFrom}
use Rattle.js_event_log.proofs.MirrorLookup.{weaker}
use Rattle.js_event_log.proofs.mirror.Mirror.serve.Goals as goal

pub entries_from-requires : goal.entries_from-requires
entries_from-requires c =
    subst (λ es. RisesFrom 0 es) (sym c.deref.ensures.value) (weaker 0 c.self.inside.start c.self.inside.entries.items (omega arith) c.self.invariant.1)
