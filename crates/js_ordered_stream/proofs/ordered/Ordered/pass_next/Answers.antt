use Rattle.std.proofs.Common.{ap, ◌∙◌, ◌++◌}
use Rattle.js_ordered_table.specs.Tasks.{next_rows}
use Rattle.js_ordered_stream.specs.declared.remaining_rows.TaskQueue.{TaskQueue}
use Rattle.js_ordered_stream.specs.Rows.{kept_if, later_of, read_in}
use Rattle.js_ordered_stream.specs.Ordered.{given_to, position_of}
use Rattle.js_ordered_stream.proofs.NextRow.{next_passed, next_closed, next_lacks}
use Rattle.js_ordered_stream.proofs.SteadyStates.{lacks_steady, settles_at}
use Rattle.js_ordered_stream.proofs.ordered.Ordered.pass_next.Goals as goal

pub keep_remaining-requires-clause-plain : goal.keep_remaining-requires-clause-plain
keep_remaining-requires-clause-plain g c =
    let view = g.L.Link.view in
    let old = c.args.self.now in
    let new = c.pass_over.new.self in
    let done = c.in-Ok.done in
    (settles_at (given_to old) (given_to new) c.args.now old.left new.left old.consumer new.consumer (view c.args.link.now) (view c.pass_over.new.link) (kept_if done.looked new.left.seen) done c.pass_over.ensures.given c.in-Ok.ensures.todo c.requires c.in-Ok.ensures.passes).plain

pub keep_remaining-requires-clause-turn : goal.keep_remaining-requires-clause-turn
keep_remaining-requires-clause-turn g c =
    let view = g.L.Link.view in
    let old = c.args.self.now in
    let new = c.pass_over.new.self in
    let done = c.in-Ok.done in
    (settles_at (given_to old) (given_to new) c.args.now old.left new.left old.consumer new.consumer (view c.args.link.now) (view c.pass_over.new.link) (kept_if done.looked new.left.seen) done c.pass_over.ensures.given c.in-Ok.ensures.todo c.requires c.in-Ok.ensures.passes).turn

pub keep_remaining-requires-clause-held : goal.keep_remaining-requires-clause-held
keep_remaining-requires-clause-held g c =
    let view = g.L.Link.view in
    let old = c.args.self.now in
    let new = c.pass_over.new.self in
    let done = c.in-Ok.done in
    (settles_at (given_to old) (given_to new) c.args.now old.left new.left old.consumer new.consumer (view c.args.link.now) (view c.pass_over.new.link) (kept_if done.looked new.left.seen) done c.pass_over.ensures.given c.in-Ok.ensures.todo c.requires c.in-Ok.ensures.passes).held

pub returns-in-Ok-clause-turns : goal.returns-in-Ok-clause-turns
returns-in-Ok-clause-turns g c =
    let view = g.L.Link.view in
    let old = c.args.self.now in
    let done = c.in-Ok.done in
    let kept = kept_if done.looked c.pass_over.new.self.left.seen in
    let m = read_in kept in
    next_passed (given_to old) c.args.now old.left c.keep_remaining.new.self.left old.consumer c.pass_over.new.self.consumer c.keep_remaining.new.self.consumer kept done c.is_reading-was_reading.result c.keep_remaining.result (view c.args.link.now) (view c.pass_over.new.link)
    c.in-Ok.ensures.passes c.keep_remaining.ensures.consumer c.is_reading-was_reading.ensures c.keep_remaining.ensures.seen
    (c.keep_remaining.ensures.left ∙ ap (λ (t : TaskQueue). next_rows m done.next ++ later_of t) c.in-Ok.ensures.todo) c.keep_remaining.ensures.turned

pub returns-in-Err-Closed-clause-turns : goal.returns-in-Err-Closed-clause-turns
returns-in-Err-Closed-clause-turns g c =
    let view = g.L.Link.view in
    let old = c.args.self.now in
    next_closed (given_to old) c.args.now old.left old.consumer c.pass_over.new.self.consumer (position_of c.close.new.self) (view c.args.link.now) (view c.pass_over.new.link) c.pass_over.new.self.left.seen (rw c.in-Err-Closed.field-0-is at c.in-Err-Closed.ensures.passes) c.close.ensures.place

pub returns-in-Err-OutOfMemory-clause-turns : goal.returns-in-Err-OutOfMemory-clause-turns
returns-in-Err-OutOfMemory-clause-turns g c =
    let view = g.L.Link.view in
    let old = c.args.self.now in
    next_lacks (given_to old) c.args.now old.left c.pass_over.new.self.left old.consumer c.pass_over.new.self.consumer (view c.args.link.now) (view c.pass_over.new.link) c.pass_over.new.self.left.seen (rw c.in-Err-OutOfMemory.field-0-is at c.in-Err-OutOfMemory.ensures.passes) c.in-Err-OutOfMemory.ensures.kept

pub returns-in-Err-OutOfMemory-clause-steady : goal.returns-in-Err-OutOfMemory-clause-steady
returns-in-Err-OutOfMemory-clause-steady g c =
    let view = g.L.Link.view in
    let old = c.args.self.now in
    let new = c.pass_over.new.self in
    lacks_steady (given_to old) (given_to new) c.args.now old.left new.left old.consumer new.consumer (view c.args.link.now) (view c.pass_over.new.link) new.left.seen c.pass_over.ensures.given (rw c.in-Err-OutOfMemory.field-0-is at c.in-Err-OutOfMemory.ensures.passes) c.in-Err-OutOfMemory.ensures.kept c.requires
