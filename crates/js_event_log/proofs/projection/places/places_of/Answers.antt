use Rattle.std.proofs.Common.{◌≡◌, ◌<◌, ◌+◌, [], ◌∷◌, ◌++◌, length, take, sym, ap, ◌∙◌, subst, arith}
use Rattle.std.proofs.lemmas.List.{take_more, take_all, length-take-le}
use Rattle.js_event_log.specs.ProjectionPlaces.{IsPlaced}
use Rattle.js_event_log.proofs.ProjectionPlaces.{placed_none}
use Rattle.js_event_log.proofs.projection.places.places_of.Goals as goal

pub loop-place-init : goal.loop-place-init
loop-place-init c = placed_none c.new-places.result c.new-places.ensures.empty

pub loop-place-preserved : goal.loop-place-preserved
loop-place-preserved c =
    let es = c.args.entries.now in
    let i = c.loop-place.place in
    let e = c.index-entries-place.result in
    let within : i < length es = omega (arith, c.loop-place-test.true) in
    let all : take i es ++ e ∷ [] ≡ take (i + 1) es = ap (λ x. take i es ++ x ∷ []) c.index-entries-place.is ∙ sym (take_more es i e within) in
    subst (λ xs. IsPlaced c.set_place.new.places.entries xs) all
    (c.in_ok-set_place.ensures.ok (take i es) c.loop-place.invariant (length-take-le i es (omega (arith, within))))

pub returns : goal.returns
returns c =
    subst (λ xs. IsPlaced c.loop-place.places.entries xs) (take_all c.loop-place.place c.args.entries.now c.loop-place-test.false) c.loop-place.invariant
