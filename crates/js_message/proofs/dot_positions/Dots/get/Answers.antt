use Rattle.std.proofs.Common.{◌≡◌, ℕ, ◌<◌, ◌≤◌, ◌+◌, length, [], sym, arith}
use Rattle.std.proofs.lemmas.Option.{slice_get-get_or, slice_get_past}
use Rattle.js_base.specs.Subject.{tokens}
use Rattle.js_message.proofs.Cuts.{tokens_counted}
use Rattle.js_message.proofs.dot_positions.Dots.get.Goals as goal

pub returns-then-k-self : goal.returns-then-k-self
returns-then-k-self c =
    let ts = tokens c.args.text.now in
    let counted = tokens_counted 0 c.args.text.now in
    let same = slice_get-get_or ts c.args.k [] (omega (arith, counted)) in
    cc

pub returns-else-k-self : goal.returns-else-k-self
returns-else-k-self c =
    let counted = tokens_counted 0 c.args.text.now in
    sym (slice_get_past (tokens c.args.text.now) c.args.k (omega (arith, counted)))
