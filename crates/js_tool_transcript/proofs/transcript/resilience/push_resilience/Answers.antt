use Rattle.js_tool_transcript.proofs.ResilienceRead.{reads_back}
use Rattle.js_tool_transcript.proofs.transcript.resilience.push_resilience.Goals as goal

pub returns-clause-reads : goal.returns-clause-reads
returns-clause-reads c = λ k. reads_back k c.args.resilience
