use Rattle.std.proofs.Common.{sym, subst}
use Rattle.js_ordered_stream.specs.Polled.{IsSteady}
use Rattle.js_ordered_stream.specs.Rows.{seen_after}
use Rattle.js_ordered_stream.specs.Ordered.{PassesFirst}
use Rattle.js_ordered_table.specs.declared.consumer.ReplayInput.{ReplayInput}
use Rattle.js_ordered_stream.proofs.ordered.Ordered.pass_over.Goals as goal

pub pass_first-requires : goal.pass_first-requires
pass_first-requires g c = subst (λ (x : ReplayInput). IsSteady x.setup c.args.self.now.consumer c.args.self.now.left) (sym c.get-given.ensures) c.requires

pub returns-clause-passes : goal.returns-clause-passes
returns-clause-passes g c =
    let view = g.L.Link.view in
    subst (λ (x : ReplayInput). PassesFirst x c.args.now c.args.self.now.left c.args.self.now.consumer c.pass_first.new.consumer (view c.args.link.now) (view c.pass_first.new.link) (seen_after c.pass_first.result c.pass_first.new.seen) c.pass_first.result) c.get-given.ensures c.pass_first.ensures.passes
