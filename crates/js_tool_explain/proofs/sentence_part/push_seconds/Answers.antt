use Rattle.js_tool_explain.specs.SentencePart.{seconds_text}
use Rattle.js_tool_explain.proofs.Digits.{joined}
use Rattle.js_tool_explain.proofs.sentence_part.push_seconds.Goals as goal

pub returns : goal.returns
unfolding seconds_text
returns c = joined _ _ _ _ _ _ _ c.in_ok-push_number.ensures c.in_ok-push_decimals.ensures c.in_ok-extend_from_slice.ensures.items
