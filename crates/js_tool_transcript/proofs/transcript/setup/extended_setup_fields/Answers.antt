use Rattle.std.proofs.Common.{◌≡◌, rules}
use Rattle.std.specs.Prelude.{Err}
use Rattle.js_json_members.proofs.Gathered.{gathered_2}
use Rattle.js_tool_transcript.specs.ExtendedSetup.{extended_setup_fields}
use Rattle.js_tool_transcript.proofs.transcript.setup.extended_setup_fields.Goals as goal

pub returns-in_err-resilience : goal.returns-in_err-resilience
unfolding extended_setup_fields
returns-in_err-resilience c =
    let is : c.from_residual.result ≡ Err c.in_err-resilience.field-0.0 = search rules in
    rw (is) (gathered_2 _ _ _ _ _ c.in_err-resilience.ensures.first c.resilience_member.ensures c.setup_fields.ensures _)
