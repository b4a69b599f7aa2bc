use Rattle.std.proofs.Common.{◌≤◌, ◌+◌, ℕ, List, length, sym, subst, arith}
use Rattle.std.proofs.lemmas.List.{take_rest}
use Rattle.js_tool_follow.specs.IncomingLines.{HasNoFeed, IsFirstFeed}
use Rattle.js_tool_follow.proofs.LinesReceived.{first_behind, none_behind}
use Rattle.js_tool_follow.proofs.incoming_lines.IncomingLines.first_feed.Goals as goal

pub returns-in-Some : goal.returns-in-Some
returns-in-Some c =
    let found = c.in-Some.ensures in
    let n = c.args.searched in
    let bytes = c.left.result.now in
    subst (λ (bytes : List ℕ). IsFirstFeed bytes (n + c.in-Some.end)) c.left.ensures
    (first_behind bytes _ n c.in-Some.end (take_rest bytes n) (subst (λ (bytes : List ℕ). HasNoFeed bytes n) (sym c.left.ensures) c.requires.before)
    found.0.high found.1 (λ k lt. found.0.before k (omega arith) lt))

pub returns-in-None : goal.returns-in-None
returns-in-None c =
    let n = c.args.searched in
    let bytes = c.left.result.now in
    subst (λ (bytes : List ℕ). HasNoFeed bytes (length bytes)) c.left.ensures
    (none_behind bytes _ n (take_rest bytes n) (subst (λ (bytes : List ℕ). HasNoFeed bytes n) (sym c.left.ensures) c.requires.before)
    (subst (λ (bytes : List ℕ). n ≤ length bytes) (sym c.left.ensures) c.requires.within) (λ k lt. c.in-None.ensures k (omega arith) lt))
