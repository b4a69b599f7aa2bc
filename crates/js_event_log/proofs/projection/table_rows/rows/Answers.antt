use Rattle.std.proofs.Common.{◌≡◌, [], ◌++◌, sym, ap, ◌∙◌}
use Rattle.std.specs.List.{slice_get, cons_option}
use Rattle.std.proofs.lemmas.List.{append-nil}
use Rattle.js_event_log.specs.ProjectionPlaces.{shown, rows_at}
use Rattle.js_event_log.proofs.ProjectionRows.{rows_of_table, rows_more}
use Rattle.js_event_log.proofs.projection.table_rows.rows.Goals as goal

pub loop-place-preserved : goal.loop-place-preserved
loop-place-preserved c =
    let f = c.args.filter.now in
    let es = c.args.entries.now in
    let done = c.loop-place.rows.items in
    let left = c.next.new.self in
    let row = shown f (slice_get es c.in-Some.place.now) in
    let added : c.add_row.new.rows.items ≡ done ++ cons_option row [] = c.in_ok-add_row.ensures ∙ ap (λ o. done ++ cons_option o []) c.shown_at.ensures in
    c.loop-place.invariant
    ∙ ap (λ ps. done ++ rows_at f es ps) c.in-Some.ensures.steps
    ∙ rows_more row done (rows_at f es left)
    ∙ ap (λ rows. rows ++ rows_at f es left) (sym added)

pub returns : goal.returns
returns c =
    let f = c.args.filter.now in
    let es = c.args.entries.now in
    let done = c.loop-place.rows.items in
    let all : rows_at f es c.args.places.now.entries ≡ done = c.loop-place.invariant ∙ ap (λ ps. done ++ rows_at f es ps) c.in-None.ensures.steps.0 ∙ append-nil done in
    sym all ∙ rows_of_table f es c.args.places.now c.requires c.iter-place-items.ensures.found
