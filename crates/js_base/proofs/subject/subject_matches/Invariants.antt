use Rattle.std.proofs.Common.{◌≡◌, length}
use Rattle.js_base.specs.Subject.{tokens_match, tokens}
use Rattle.js_base.proofs.subject.subject_matches.Given as goal

-- what is left matches where the whole does
abbrev pub invariant-loop-filter : goal.invariant-loop-filter
invariant-loop-filter l = tokens_match l.filters l.tokens ≡ tokens_match (tokens l.fn.filter) (tokens l.fn.subject)

abbrev pub decreases-loop-filter : goal.decreases-loop-filter
decreases-loop-filter l = length l.filters
