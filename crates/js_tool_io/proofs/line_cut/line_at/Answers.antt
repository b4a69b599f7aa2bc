use Rattle.std.proofs.lemmas.List.{take_rest}
use Rattle.js_tool_io.proofs.Cuts.{line_there}
use Rattle.js_tool_io.proofs.line_cut.line_at.Goals as goal

pub returns-clause-line : goal.returns-clause-line
returns-clause-line c =
    let behind = take_rest c.args.bytes.now c.args.at in
    let cut = c.cut_line.ensures in
    line_there c.args.bytes.now c.cut_line.result.0.now c.cut_line.result.1.now c.args.at c.requires
    (rw behind at cut.line) (rw behind at cut.front) (rw behind at cut.rest) (rw behind at cut.shorter)
