use Rattle.std.proofs.Common.{◌≡◌, rules}
use Rattle.std.specs.Prelude.{Err}
use Rattle.js_json_members.proofs.Gathered.{gathered_5}
use Rattle.js_tool_transcript.specs.Setup.{setup_fields}
use Rattle.js_tool_transcript.proofs.transcript.setup.setup_fields.Goals as goal

pub returns-in_err-mode : goal.returns-in_err-mode
unfolding setup_fields
returns-in_err-mode c =
    let is : c.from_residual.result ≡ Err c.in_err-mode.field-0.0 = search rules in
    rw (is) (gathered_5 _ _ _ _ _ _ _ _ _ _ _ c.in_err-mode.ensures.first c.required.ensures c.required-2.ensures c.settings_of.ensures c.required-3.ensures c.first_info.ensures _)
