use Rattle.std.proofs.Common.{arith}
use Rattle.std.proofs.lemmas.List.{take_rest}
use Rattle.js_tool_io.proofs.Cuts.{cut_found, cut_none}
use Rattle.js_tool_io.proofs.line_cut.cut_line.Goals as goal

pub returns-in-Some-clause-line : goal.returns-in-Some-clause-line
returns-in-Some-clause-line c =
    let found = c.in-Some.ensures in
    rw (take_rest c.args.bytes.now) (cut_found c.args.bytes.now c.in-Some.end found.0.high found.1 (λ k lt. found.0.before k (omega arith) lt))

pub returns-in-None-clause-line : goal.returns-in-None-clause-line
returns-in-None-clause-line c = cut_none c.args.bytes.now c.requires (λ k lt. c.in-None.ensures k (omega arith) lt)
