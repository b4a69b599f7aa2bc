use Rattle.std.proofs.Common.{arith}
use Rattle.js_tool_transcript.proofs.Headers.{wrong_count}
use Rattle.js_tool_transcript.proofs.transcript.message.header_of.Goals as goal

pub returns-in-len1 : goal.returns-in-len1
returns-in-len1 c = wrong_count c.args.key c.args.items.now (λ two. omega arith)

pub returns-in-len3-up : goal.returns-in-len3-up
returns-in-len3-up c = wrong_count c.args.key c.args.items.now (λ two. omega arith)
