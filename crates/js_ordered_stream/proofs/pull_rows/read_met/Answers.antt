use Rattle.std.proofs.Common.{sym, ◌∙◌}
use Rattle.js_pull.specs.Rows.{brought}
use Rattle.js_ordered_stream.specs.Rows.{answer_in}
use Rattle.js_pull.specs.Reader.{wish}
use Rattle.js_pull.specs.Rows.{row_of}
use Rattle.js_ordered_stream.proofs.RowMet.{closing}
use Rattle.js_ordered_stream.proofs.PassedRows.{meets_as}
use Rattle.js_ordered_stream.proofs.pull_rows.read_met.Goals as goal

pub returns-then-is_shut : goal.returns-then-is_shut
returns-then-is_shut g c =
    let view = g.L.Link.view in
    let reply = brought (answer_in c.args.seen.now) in
    let met = c.in_ok-met.met in
    let asked = wish (row_of reply c.args.due) c.args.reader.now in
    closing asked met (view c.args.link.now) (view c.ask_for.new.link)
    (meets_as _ asked met (view c.args.link.now) (view c.ask_for.new.link) (c.in_ok-wish.ensures reply) c.in_ok-met.ensures.met) (sym c.is_shut.ensures ∙ c.if-is_shut.true)

pub returns : goal.returns
returns g c =
    let view = g.L.Link.view in
    let reply = brought (answer_in c.args.seen.now) in
    let met = c.in_ok-met.met in
    let asked = wish (row_of reply c.args.due) c.args.reader.now in
    record {
      meets = meets_as _ asked met (view c.args.link.now) (view c.ask_for.new.link) (c.in_ok-wish.ensures reply) c.in_ok-met.ensures.met;
      is_open = sym c.is_shut.ensures ∙ c.if-is_shut.false;
      informed = c.in_ok-informed.ensures;
    }
