-- Polls of a consumer that is kept extend what it has yielded, so that from its opening on there is no gap.
use Rattle.std.proofs.Common.{◌≡◌, ℕ, Bool, true, false, List, [], ◌∷◌, refl, sym, ap, subst, ◌∙◌}
use Rattle.js_link.specs.declared.wish.Wish.{Wish}
use Rattle.js_link.specs.declared.wish.Met.{Met}
use Rattle.js_ordered_table.specs.declared.consumer.ReplayInput.{ReplayInput}
use Rattle.js_ordered_table.specs.declared.run.Output.{Output}
use Rattle.js_ordered_table.specs.declared.run.Output.TheVariants as out
use Rattle.js_ordered_table.specs.declared.setup.OrderedSetup.{OrderedSetup}
use Rattle.js_ordered_table.specs.Gapless.{Server, IsGapless, yields}
use Rattle.js_ordered_table.specs.Invariant.{Extends}
use Rattle.js_ordered_table.proofs.Chains.{extends_append, extends_gapless}
use Rattle.js_ordered_table.specs.Walk.{Position, IsHonestWalk, IsKeptPosition, handed, walk}
use Rattle.js_ordered_table.specs.Poll.{Answer, HasWholeLists, IsPoll, closed_at, handed_by}
use Rattle.js_ordered_table.specs.Lifetime.{ArePolls, handed_out}
use Rattle.js_ordered_table.proofs.WalkInvariant.{KeepsAlong, walk_keeps}

-- what is sent is no yield
extends_handed : (setup : OrderedSetup) (s : Server) (last after : ℕ) (outputs : List Output) → Extends setup s last outputs after → Extends setup s last (handed outputs) after
extends_handed setup s last after [] e = e
extends_handed setup s last after (out.Yield sequence number subject payload ∷ outputs) e = (e.0, extends_handed setup s sequence after outputs e.1)
extends_handed setup s last after (out.Item kind ∷ outputs) e = extends_handed setup s last after outputs e
extends_handed setup s last after (out.Recreate recreation_count start ∷ outputs) e = extends_handed setup s last after outputs e
extends_handed setup s last after (out.Request number subject payload ∷ outputs) e = extends_handed setup s last after outputs e
extends_handed setup s last after (out.Publish subject reply payload ∷ outputs) e = extends_handed setup s last after outputs e
extends_handed setup s last after (out.Subscribe inbox subject ∷ outputs) e = extends_handed setup s last after outputs e

-- a closed inbox takes nothing back
closed_same : (closed : Bool) (at : Position) → at.consumer.core.stream_sequence ≡ (closed_at closed at).consumer.core.stream_sequence
closed_same true at = refl
closed_same false at = refl

-- what one poll hands out joins what was yielded before it
poll_extends : {V : Type 0} (g : ReplayInput) (meets : Wish → Met → V → V → Type 0) (s : Server) → HasWholeLists g.setup s
    → (now : ℕ) (from to : Position) (before after : V) (answer : Answer) (poll : IsPoll g meets now from to before after answer) → IsKeptPosition g.setup s from → IsHonestWalk g s poll.strides from
    → Extends g.setup s from.consumer.core.stream_sequence (handed_by answer) to.consumer.core.stream_sequence
poll_extends g meets s whole now from to before after answer poll kept honest =
    let moved = walk g poll.strides from in
    let along : KeepsAlong g s from.consumer.core.stream_sequence moved = walk_keeps g s whole poll.strides from kept honest in
    let same : moved.position.consumer.core.stream_sequence ≡ to.consumer.core.stream_sequence =
    closed_same poll.closed moved.position ∙ ap (λ (at : Position). at.consumer.core.stream_sequence) (sym poll.leads) in
    subst (λ (n : ℕ). Extends g.setup s from.consumer.core.stream_sequence (handed_by answer) n) same
    (subst (λ (outputs : List Output). Extends g.setup s from.consumer.core.stream_sequence outputs moved.position.consumer.core.stream_sequence) poll.out
    (extends_handed g.setup s from.consumer.core.stream_sequence moved.position.consumer.core.stream_sequence moved.outputs along.extends))

-- and so does what all of them hand out
polls_extend : {V : Type 0} (g : ReplayInput) (meets : Wish → Met → V → V → Type 0) (s : Server) → HasWholeLists g.setup s
    → (answers : List Answer) (from : Position) → IsKeptPosition g.setup s from → ArePolls g meets s from answers
    → (last : ℕ) × Extends g.setup s from.consumer.core.stream_sequence (handed_out answers) last
polls_extend g meets s whole [] from kept polls = (from.consumer.core.stream_sequence, refl)
polls_extend g meets s whole (answer ∷ answers) from kept (now, to, before, after, poll, honest, polls) =
    let more : (last : ℕ) × Extends g.setup s to.consumer.core.stream_sequence (handed_out answers) last =
    polls_extend g meets s whole answers to (poll.gapless s whole kept honest).kept polls in (
      more.0,
      extends_append g.setup s from.consumer.core.stream_sequence to.consumer.core.stream_sequence more.0 (handed_by answer) (handed_out answers)
          (poll_extends g meets s whole now from to before after answer poll kept honest) more.1,
    )

-- from a position at which nothing was yielded yet
pub polls_gapless : {V : Type 0} (g : ReplayInput) (meets : Wish → Met → V → V → Type 0) (s : Server) → HasWholeLists g.setup s
    → (answers : List Answer) (from : Position) → IsKeptPosition g.setup s from → from.consumer.core.stream_sequence ≡ 0 → ArePolls g meets s from answers
    → IsGapless s g.setup (yields (handed_out answers))
polls_gapless g meets s whole answers from kept none polls =
    let all : (last : ℕ) × Extends g.setup s from.consumer.core.stream_sequence (handed_out answers) last = polls_extend g meets s whole answers from kept polls in
    extends_gapless g.setup s all.0 (handed_out answers) (subst (λ (n : ℕ). Extends g.setup s n (handed_out answers) all.0) none all.1)
