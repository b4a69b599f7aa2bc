use Rattle.std.proofs.Common.{◌∙◌, ap, Ok}
use Rattle.js_tool_generate.proofs.Infos.{first_is, first_answer, first_fails}
use Rattle.js_tool_generate.proofs.setup.first_info.Goals as goal

pub returns-in-Ok-Ok : goal.returns-in-Ok-Ok
returns-in-Ok-Ok c = first_is c.as_bytes.result.now c.in-Ok-Ok.info (c.as_bytes.ensures.value ∙ c.in_ok-text.ensures) (c.in-Ok-Ok.ensures ∙ ap Ok c.in-Ok-Ok.field-0-is)

pub unreachable-requires : goal.unreachable-requires
unreachable-requires c =
    let is = first_answer c.as_bytes.result.now c.in-Ok-Err.field-0 (c.as_bytes.ensures.value ∙ c.in_ok-text.ensures) c.in-Ok-Err.ensures in
    let other = c.in-Ok-Err.field-0-is in
    cc

pub want_of_memory-requires : goal.want_of_memory-requires
want_of_memory-requires c = first_fails c.as_bytes.result.now c.in-Err.error (c.as_bytes.ensures.value ∙ c.in_ok-text.ensures) c.in-Err.ensures
