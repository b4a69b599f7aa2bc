use Rattle.std.proofs.Common.{Bool, ◌<◌, Option, refl, sym, ap, subst, ◌∙◌}
use Rattle.std.specs.Prelude.{is_some}
use Rattle.js_base.specs.declared.message.Message.{Message}
use Rattle.js_ordered_stream.specs.Rows.{message_in}
use Rattle.js_ordered_stream.specs.Ordered.{given_to, is_given, position_of}
use Rattle.js_ordered_stream.proofs.Strides.{Walked, walked_none, error_given, on_waits, on_silent, on_hands, on_tells, on_exhausted, on_closed, on_lacks}
use Rattle.js_ordered_stream.proofs.Measure.{measure, silent_smaller}
use Rattle.js_ordered_stream.proofs.NextRow.{rested}
use Rattle.js_ordered_stream.proofs.ordered.Ordered.walk.Goals as goal

pub rows-init : goal.rows-init
rows-init g c = record { given = refl; steady = c.requires.steady; walked = walked_none (given_to c.args.self.now) c.args.now (position_of c.args.self.now) (g.L.Link.view c.args.link.now) c.requires.over }

pub returns-then-may_wait-clause-sources : goal.returns-then-may_wait-clause-sources
returns-then-may_wait-clause-sources g c =
    let view = g.L.Link.view in (
      on_waits (given_to c.args.self.now) c.args.now c.rows.quiet c.is_empty-begins.result c.may_wait.result (position_of c.args.self.now) (position_of c.rows.self) (view c.args.link.now) (view c.rows.link) c.rows.invariant.walked
          (rested c.rows.self.left c.is_empty-begins.result c.is_empty-begins.ensures) c.may_wait.ensures c.if-may_wait.true,
      tt,
    )

pub rows-preserved : goal.rows-preserved
rows-preserved g c =
    let view = g.L.Link.view in
    record {
      given = c.pass_next.ensures.given ∙ c.rows.invariant.given;
      steady = c.pass_next.ensures.steady;
      walked = subst (λ (q : Bool). Walked (given_to c.args.self.now) c.args.now q (position_of c.args.self.now) (position_of c.pass_next.new.self) (view c.args.link.now) (view c.pass_next.new.link)) (sym c.is_quiet-quiet.ensures)
          (on_silent (given_to c.args.self.now) (given_to c.rows.self) c.args.now c.rows.quiet c.is_empty-begins.result c.in-Silent.stirs (position_of c.args.self.now) (position_of c.rows.self) (position_of c.pass_next.new.self) (view c.args.link.now) (view c.rows.link) (view c.pass_next.new.link)
          c.rows.invariant.given c.rows.invariant.walked (rested c.rows.self.left c.is_empty-begins.result c.is_empty-begins.ensures) c.in-Silent.ensures.turns);
    }

pub rows-smaller : goal.rows-smaller
rows-smaller g c =
    let view = g.L.Link.view in
    subst (λ (q : Bool). measure q (position_of c.pass_next.new.self) (view c.pass_next.new.link) < measure c.rows.quiet (position_of c.rows.self) (view c.rows.link)) (sym c.is_quiet-quiet.ensures)
    (silent_smaller (given_to c.rows.self) c.args.now c.rows.quiet c.is_empty-begins.result c.in-Silent.stirs c.rows.self.consumer c.rows.self.left (message_in c.pass_next.new.self.left.seen) (position_of c.pass_next.new.self) (view c.rows.link) (view c.pass_next.new.link)
    c.rows.invariant.steady c.is_empty-begins.ensures (sym c.may_wait.ensures ∙ c.if-may_wait.false) c.in-Silent.ensures.turns)

pub hand_out-requires-clause-message : goal.hand_out-requires-clause-message
hand_out-requires-clause-message g c = ap (λ (o : Option Message). is_some o) c.in-Hands.ensures.turns.1

pub returns-in-Hands-clause-sources : goal.returns-in-Hands-clause-sources
returns-in-Hands-clause-sources g c =
    let view = g.L.Link.view in
    on_hands (given_to c.args.self.now) (given_to c.rows.self) c.args.now c.rows.quiet (message_in c.pass_next.new.self.left.seen) c.hand_out.result (position_of c.args.self.now) (position_of c.rows.self) (position_of c.pass_next.new.self) (position_of c.hand_out.new.self) (view c.args.link.now) (view c.rows.link) (view c.pass_next.new.link)
    c.rows.invariant.given c.rows.invariant.walked c.in-Hands.ensures.turns c.hand_out.ensures.place c.hand_out.ensures.answer

pub returns-in-Tells-clause-sources : goal.returns-in-Tells-clause-sources
returns-in-Tells-clause-sources g c =
    let view = g.L.Link.view in
    on_tells (given_to c.args.self.now) (given_to c.rows.self) c.args.now c.rows.quiet c.in-Tells.kind (message_in c.pass_next.new.self.left.seen) c.tell.result (position_of c.args.self.now) (position_of c.rows.self) (position_of c.pass_next.new.self) (position_of c.tell.new.self) (view c.args.link.now) (view c.rows.link) (view c.pass_next.new.link)
    c.rows.invariant.given c.rows.invariant.walked c.tell.ensures.tells c.tell.ensures.source c.in-Tells.ensures.turns c.tell.ensures.place

pub returns-in-Exhausted-clause-sources : goal.returns-in-Exhausted-clause-sources
returns-in-Exhausted-clause-sources g c =
    let view = g.L.Link.view in
    on_exhausted (given_to c.args.self.now) (given_to c.rows.self) c.args.now c.rows.quiet c.sequence_end.result (position_of c.args.self.now) (position_of c.rows.self) (position_of c.pass_next.new.self) (view c.args.link.now) (view c.rows.link) (view c.pass_next.new.link)
    c.rows.invariant.given c.rows.invariant.walked c.sequence_end.ensures.tells c.sequence_end.ensures.source c.in-Exhausted.ensures.turns

pub returns-in-Closed-clause-sources : goal.returns-in-Closed-clause-sources
returns-in-Closed-clause-sources g c =
    let view = g.L.Link.view in (
      on_closed (given_to c.args.self.now) (given_to c.rows.self) c.args.now c.rows.quiet (position_of c.args.self.now) (position_of c.rows.self) (position_of c.pass_next.new.self) (view c.args.link.now) (view c.rows.link) (view c.pass_next.new.link)
          c.rows.invariant.given c.rows.invariant.walked c.in-Closed.ensures.turns,
      tt,
    )

pub returns-in-OutOfMemory-clause-sources : goal.returns-in-OutOfMemory-clause-sources
returns-in-OutOfMemory-clause-sources g c =
    let view = g.L.Link.view in (
      on_lacks (given_to c.args.self.now) (given_to c.rows.self) c.args.now c.rows.quiet (position_of c.args.self.now) (position_of c.rows.self) (position_of c.pass_next.new.self) (view c.args.link.now) (view c.rows.link) (view c.pass_next.new.link)
          c.rows.invariant.given c.rows.invariant.walked c.in-OutOfMemory.ensures.turns,
      tt,
    )

pub returns-in-Tells-clause-kinds : goal.returns-in-Tells-clause-kinds
returns-in-Tells-clause-kinds g c = ap is_given c.tell.ensures.tells ∙ error_given c.in-Tells.kind

pub returns-in-Exhausted-clause-kinds : goal.returns-in-Exhausted-clause-kinds
returns-in-Exhausted-clause-kinds g c = ap is_given c.sequence_end.ensures.tells
