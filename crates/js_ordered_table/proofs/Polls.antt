-- A poll of a consumer with an honest server keeps what is known, and the yield that it hands out joins the last one.
use Rattle.std.proofs.Common.{◌≡◌, ℕ, Bool, true, false, List, [], ◌∷◌, Option, Some, None, subst, sym}
use Rattle.std.specs.Prelude.{⊤}
use Rattle.js_ordered_table.specs.declared.consumer.ReplayInput.{ReplayInput}
use Rattle.js_base.specs.declared.message.Message.{Message}
use Rattle.js_message.specs.AckSubject.{Place, readable_as}
use Rattle.js_ordered_table.specs.Walk.{Position, Stride, Moved, walk, handed, IsHonestWalk, IsKeptPosition}
use Rattle.js_ordered_table.specs.Poll.{Answer, Yields, Tells, HandsEnd, Waits, Ends, Lacks, yielded, handed_by, closed_at, JoinsPlace, JoinsAnswer, KeepsPoll, HasWholeLists}
use Rattle.js_ordered_table.specs.declared.setup.OrderedSetup.{OrderedSetup}
use Rattle.js_ordered_table.specs.declared.run.Output.{Output}
use Rattle.js_ordered_table.specs.declared.run.Output.TheVariants as out
use Rattle.js_ordered_table.specs.Gapless.{Server}
use Rattle.js_ordered_table.specs.Invariant.{Joins, Extends}
use Rattle.js_ordered_table.proofs.WalkInvariant.{KeepsAlong, walk_keeps}

-- the first that is handed out, if it is a yield, joins
abbrev JoinsFirst : OrderedSetup → Server → ℕ → List Output → Type 0
JoinsFirst setup s last [] = ⊤
JoinsFirst setup s last (out.Yield sequence number subject payload ∷ outputs) = Joins setup s last (record { subject = subject; sequence = sequence; payload = payload })
JoinsFirst setup s last (_ ∷ outputs) = ⊤

first_joins : (setup : OrderedSetup) (s : Server) (last after : ℕ) (outputs : List Output) → Extends setup s last outputs after → JoinsFirst setup s last (handed outputs)
first_joins setup s last after [] e = tt
first_joins setup s last after (out.Yield sequence number subject payload ∷ outputs) e = e.0
first_joins setup s last after (out.Item kind ∷ outputs) e = tt
first_joins setup s last after (out.Recreate recreation_count start ∷ outputs) e = first_joins setup s last after outputs e
first_joins setup s last after (out.Request number subject payload ∷ outputs) e = first_joins setup s last after outputs e
first_joins setup s last after (out.Publish subject reply payload ∷ outputs) e = first_joins setup s last after outputs e
first_joins setup s last after (out.Subscribe inbox subject ∷ outputs) e = first_joins setup s last after outputs e

yield_joins : (setup : OrderedSetup) (s : Server) (last : ℕ) (place : Option Place) (message : Message) → JoinsFirst setup s last (yielded place message ∷ []) → JoinsPlace setup s last place message
yield_joins setup s last None message j = tt
yield_joins setup s last (Some place) message j = j

answer_joins : (setup : OrderedSetup) (s : Server) (last : ℕ) (answer : Answer) → JoinsFirst setup s last (handed_by answer) → JoinsAnswer setup s last answer
answer_joins setup s last (Yields message) j = yield_joins setup s last (readable_as message.reply) message j
answer_joins setup s last (Tells kind) j = tt
answer_joins setup s last HandsEnd j = tt
answer_joins setup s last Waits j = tt
answer_joins setup s last Ends j = tt
answer_joins setup s last Lacks j = tt

closed_kept : (setup : OrderedSetup) (s : Server) (closed : Bool) (at : Position) → IsKeptPosition setup s at → IsKeptPosition setup s (closed_at closed at)
closed_kept setup s true at k = record { consumer = (tt, k.consumer.1); todo = tt }
closed_kept setup s false at k = k

-- what a poll's contract says of honest servers follows from the rows that it passed
pub poll_gapless : (g : ReplayInput) (strides : List Stride) (closed : Bool) (old new : Position) (answer : Answer)
    → new ≡ closed_at closed (walk g strides old).position → handed (walk g strides old).outputs ≡ handed_by answer
    → (s : Server) → HasWholeLists g.setup s → IsKeptPosition g.setup s old → IsHonestWalk g s strides old
    → KeepsPoll g.setup s old.consumer.core.stream_sequence new answer
poll_gapless g strides closed old new answer leads handed_is s whole k honest =
    let moved : Moved = walk g strides old in
    let along : KeepsAlong g s old.consumer.core.stream_sequence moved = walk_keeps g s whole strides old k honest in
    record {
      kept = subst (λ (at : Position). IsKeptPosition g.setup s at) (sym leads) (closed_kept g.setup s closed moved.position along.kept);
      joins = answer_joins g.setup s old.consumer.core.stream_sequence answer
          (subst (λ (outputs : List Output). JoinsFirst g.setup s old.consumer.core.stream_sequence outputs) handed_is
          (first_joins g.setup s old.consumer.core.stream_sequence moved.position.consumer.core.stream_sequence moved.outputs along.extends));
    }
