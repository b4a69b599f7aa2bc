use Rattle.std.proofs.Common.{◌≡◌, ℕ, ◌-◌, ◌<◌, ◌≤◌, length, sym, ◌∙◌, arith}
use Rattle.js_message.proofs.Cuts.{dot_below, start_boundary, start_le_end, end_boundary, token_cut}
use Rattle.js_message.specs.DotPositions.{dots_of, token_start, token_end}
use Rattle.js_message.proofs.dot_positions.Dots.token.Goals as goal

pub start-start-requires-clause-fits : goal.start-start-requires-clause-fits
start-start-requires-clause-fits c = λ (h : 0 < c.args.k).
    let kept = c.requires.dots.kept (c.args.k - 1) (omega arith) (omega arith) in
    let below = dot_below c.args.text.now (c.args.k - 1) (omega (arith, c.requires.dots.counted)) in
    omega (arith, kept, below)

pub range-requires-clause-start_le_end : goal.range-requires-clause-start_le_end
range-requires-clause-start_le_end c =
    let text = c.args.text.now in
    let starts = c.start-start.ensures (dots_of text) c.requires.dots c.requires.within in
    let ends = c.end-end.ensures (dots_of text) c.requires.dots in
    let within : c.args.k ≤ length (dots_of text) = omega (arith, c.requires.dots.counted) in
    rw (starts, ends) (start_le_end text c.args.k within)

pub range-requires-clause-start_boundary : goal.range-requires-clause-start_boundary
range-requires-clause-start_boundary c =
    let text = c.args.text.now in
    let starts = c.start-start.ensures (dots_of text) c.requires.dots c.requires.within in
    let within : c.args.k ≤ length (dots_of text) = omega (arith, c.requires.dots.counted) in
    λ _. rw starts (start_boundary text c.args.k c.utf8.text within)

pub range-requires-clause-end_boundary : goal.range-requires-clause-end_boundary
range-requires-clause-end_boundary c =
    let text = c.args.text.now in
    let ends = c.end-end.ensures (dots_of text) c.requires.dots in
    rw ends (end_boundary text c.args.k)

pub returns : goal.returns
returns c =
    let text = c.args.text.now in
    let starts = c.start-start.ensures (dots_of text) c.requires.dots c.requires.within in
    let ends = c.end-end.ensures (dots_of text) c.requires.dots in
    let within : c.args.k ≤ length (dots_of text) = omega (arith, c.requires.dots.counted) in
    c.range.ensures.value ∙ rw (starts, ends) (sym (token_cut text c.args.k within))
