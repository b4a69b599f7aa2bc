use Rattle.std.proofs.Common.{◌++◌}
use Rattle.js_tool_io.specs.Lines.{lines_of}
use Rattle.js_tool_event_log.proofs.YieldsPassed.{ends_read}
use Rattle.js_tool_event_log.proofs.replay_entries.read_yields.Goals as goal

pub returns-in-Ok-Done : goal.returns-in-Ok-Done
returns-in-Ok-Done c =
    let told = rw c.in-Ok-Done.field-0-is at c.in-Ok-Done.ensures.outcome in
    ends_read c.args.setup.now (lines_of c.args.piece.now ++ lines_of c.args.bytes) _ told

pub returns-in-Ok-Refused : goal.returns-in-Ok-Refused
returns-in-Ok-Refused c =
    let told = rw c.in-Ok-Refused.field-0-is at c.in-Ok-Refused.ensures.outcome in
    ends_read c.args.setup.now (lines_of c.args.piece.now ++ lines_of c.args.bytes) _ told

pub returns-in-Ok-BadLine : goal.returns-in-Ok-BadLine
returns-in-Ok-BadLine c =
    let told = rw c.in-Ok-BadLine.field-0-is at c.in-Ok-BadLine.ensures.outcome in
    ends_read c.args.setup.now (lines_of c.args.piece.now ++ lines_of c.args.bytes) _ told
