use Rattle.js_tool_follow.proofs.Calls.{reads_punctually}
use Rattle.js_tool_follow.proofs.incoming_lines.IncomingLines.fill.Goals as goal

pub returns-in-Err-clause-punctual : goal.returns-in-Err-clause-punctual
returns-in-Err-clause-punctual g c = λ asked lines none has. reads_punctually asked _ _ _ _ lines c.args.self.now.left c.in-Err.ensures none has

pub returns-in_err-extend_from_slice-clause-punctual : goal.returns-in_err-extend_from_slice-clause-punctual
returns-in_err-extend_from_slice-clause-punctual g c = λ asked lines none has. reads_punctually asked _ _ _ _ lines c.args.self.now.left c.in-Ok.ensures none has

pub returns-clause-punctual : goal.returns-clause-punctual
returns-clause-punctual g c = λ asked lines none has. reads_punctually asked _ _ _ _ lines c.args.self.now.left c.in-Ok.ensures none has
