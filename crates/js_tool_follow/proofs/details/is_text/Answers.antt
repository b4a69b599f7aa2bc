use Rattle.std.proofs.Common.{refl}
use Rattle.std.proofs.lemmas.Bool.{false_from_ne_true}
use Rattle.std.proofs.lemmas.Str.{IsUtf8-from_is_utf8, is_utf8-from_IsUtf8}
use Rattle.js_tool_follow.proofs.details.is_text.Goals as goal

pub returns-in-Ok : goal.returns-in-Ok
returns-in-Ok c = let found = c.in-Ok.ensures.cases in rw (is_utf8-from_IsUtf8 _ found.1) refl

pub returns-in-Err : goal.returns-in-Err
returns-in-Err c = let none = c.in-Err.ensures.cases in rw (false_from_ne_true _ (λ e. none.0 (IsUtf8-from_is_utf8 _ e))) refl
