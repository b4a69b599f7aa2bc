use Rattle.std.specs.Prelude.{string_bytes}
use Rattle.js_call_streams.proofs.HasText.{text_only_memory, body_written}
use Rattle.js_call_streams.proofs.request_body.body_of.Goals as goal

pub written-requires : goal.written-requires
written-requires g c = text_only_memory string_bytes _ _ c.requires c.to_text.ensures

pub returns : goal.returns
returns g c = body_written string_bytes _ _ _ _ c.to_text.ensures c.in_ok-text.ensures c.in_ok-from_string.ensures
