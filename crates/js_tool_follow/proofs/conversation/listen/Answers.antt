use Rattle.std.proofs.Common.{List, ℕ, ◌++◌, ◌∷◌, []}
use Rattle.js_tool_follow.proofs.conversation.listen.Goals as goal

pub returns-in-Some : goal.returns-in-Some
returns-in-Some g c = λ asked from told at.
    let (now, is) = c.turns.invariant asked from told at in
    c.in-Some.ensures.turn asked from now is

pub turns-preserved : goal.turns-preserved
turns-preserved g c = λ asked from told at.
    let (now, is) = c.turns.invariant asked from told at in
    let (line, further) = c.in_default.ensures.turn asked from now is in
    (now ++ line ∷ [], further)
