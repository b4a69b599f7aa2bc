use Rattle.std.proofs.Common.{◌≡◌, List, sym, ap, ◌∙◌, subst, arith}
use Rattle.js_base.specs.declared.message.Entry.{Entry}
use Rattle.js_event_log.specs.Mirror.{Mirrored, RisesFrom}
use Rattle.js_event_log.specs.MirrorCauses.{HasMergeCause}
use Rattle.js_event_log.proofs.MirrorLookup.{weaker}
use Rattle.js_event_log.proofs.mirror.Mirror.check_merge.Goals as goal

pub check-requires-clause-own : goal.check-requires-clause-own
check-requires-clause-own c =
    subst (λ es. RisesFrom 0 es) (sym c.deref.ensures.value) (weaker 0 c.self.inside.start c.self.inside.entries.items (omega arith) c.self.invariant.1)

pub check-requires-clause-other : goal.check-requires-clause-other
check-requires-clause-other c =
    subst (λ es. RisesFrom 0 es) (sym c.deref-2.ensures.value) (weaker 0 c.other.inside.start c.other.inside.entries.items (omega arith) c.other.invariant.1)

pub returns : goal.returns
returns c =
    let one : Mirrored = record { start = c.self.inside.start; entries = c.deref.result.now } in
    let other : Mirrored = record { start = c.other.inside.start; entries = c.deref-2.result.now } in
    let is : one ≡ c.args.self.now = ap (λ (es : List Entry). record { start = c.self.inside.start; entries = es }) c.deref.ensures.value ∙ c.self.view_is in
    let is_other : other ≡ c.args.other.now = ap (λ (es : List Entry). record { start = c.other.inside.start; entries = es }) c.deref-2.ensures.value ∙ c.other.view_is in
    subst (λ (m : Mirrored). HasMergeCause m c.args.other.now c.check.result) is (subst (λ (n : Mirrored). HasMergeCause one n c.check.result) is_other c.check.ensures)
