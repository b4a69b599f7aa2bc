use Rattle.std.proofs.Common.{◌≡◌, ◌<◌, [], ◌∷◌, ◌++◌, length, sym, ap, ◌∙◌, subst, arith}
use Rattle.js_event_log.specs.Projection.{RisesAbove, last_sequence}
use Rattle.js_event_log.specs.ProjectionPlaces.{IsPlaced}
use Rattle.js_event_log.proofs.ProjectionOrder.{rises_push}
use Rattle.js_event_log.proofs.projection.Projection.apply.Goals as goal

pub invariant_of-self-2 : goal.invariant_of-self-2
invariant_of-self-2 c =
    let es = c.self.inside.entries.items in
    let e = c.args.entry in
    let all : c.push_reserved.new.self.items ≡ es ++ e ∷ [] = c.push_reserved.ensures.items ∙ ap (λ xs. xs ++ e ∷ []) c.reserve.ensures.items in
    let last : last_sequence es < e.sequence = subst (λ n. n < e.sequence) (c.last_sequence-last.ensures ∙ ap last_sequence c.deref.ensures.value) c.if-entry-last.false in
    let room : length es ≡ c.len.result = omega (arith, c.len.ensures, c.reserve.ensures.len, c.self.inside.entries.ok.0) in
    subst (λ xs. RisesAbove 0 xs × IsPlaced c.set_place.new.places.entries xs) (sym all)
    (rises_push es e c.self.invariant.0 last, c.in_ok-set_place.ensures.ok es c.self.invariant.1 room)
