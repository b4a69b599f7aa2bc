use Rattle.js_tool_explain.proofs.sentence_part.+push_digits.Given as goal

abbrev pub decreases-push_digits : goal.decreases-push_digits
decreases-push_digits l = l.places
