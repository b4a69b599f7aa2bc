use Rattle.std.proofs.Common.{◌≡◌, ◌<◌, ◌-◌, [], ◌∷◌, ◌++◌, sym, ap, ◌∙◌, subst, arith}
use Rattle.js_event_log.specs.Mirror.{RisesFrom, last_sequence}
use Rattle.js_event_log.proofs.MirrorLookup.{last_from, rises_push}
use Rattle.js_event_log.proofs.mirror.Mirror.push.Goals as goal

pub invariant_of-self-2 : goal.invariant_of-self-2
invariant_of-self-2 c =
    let start = c.self.inside.start in
    let es = c.self.inside.entries.items in
    let e = c.args.entry in
    let all : c.push_reserved.new.self.items ≡ es ++ e ∷ [] = c.push_reserved.ensures.items ∙ ap (λ xs. xs ++ e ∷ []) c.reserve.ensures.items in
    let last : last_from (start - 1) es < e.sequence = omega (arith, c.last-last.ensures, ap last_sequence c.self.view_is) in
    (c.self.invariant.0, subst (λ xs. RisesFrom start xs) (sym all) (rises_push start (start - 1) es e c.self.invariant.1 (omega arith) last))
