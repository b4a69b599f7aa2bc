use Rattle.std.proofs.Common.{◌≡◌, rules}
use Rattle.std.specs.Prelude.{Err}
use Rattle.js_json_members.proofs.Gathered.{gathered_4}
use Rattle.js_tool_transcript.specs.ExtendedSetup.{resilience_fields}
use Rattle.js_tool_transcript.proofs.transcript.resilience.resilience_fields.Goals as goal

pub returns-in_err-stalled : goal.returns-in_err-stalled
unfolding resilience_fields
returns-in_err-stalled c =
    let is : c.from_residual.result ≡ Err c.in_err-stalled.field-0.0 = search rules in
    rw (is) (gathered_4 _ _ _ _ _ _ _ _ _ c.in_err-stalled.ensures.first c.option.ensures c.option-2.ensures c.option-3.ensures c.option-4.ensures _)
