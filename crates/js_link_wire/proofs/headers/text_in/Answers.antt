use Rattle.std.proofs.Common.{ap, sym, refl, Ok}
use Rattle.std.proofs.lemmas.Bool.{false_from_ne_true}
use Rattle.std.proofs.lemmas.Str.{IsUtf8-from_is_utf8, is_utf8-from_IsUtf8}
use Rattle.js_link_wire.specs.Headers.{text_in}
use Rattle.js_link_wire.proofs.headers.text_in.Goals as goal

pub returns-in-Ok : goal.returns-in-Ok
unfolding text_in
returns-in-Ok c = let found = c.in-Ok.ensures.cases in rw (is_utf8-from_IsUtf8 _ found.1) (ap Ok (sym found.0))

pub returns-in-Err : goal.returns-in-Err
unfolding text_in
returns-in-Err c = let none = c.in-Err.ensures.cases in rw (false_from_ne_true _ (λ e. none.0 (IsUtf8-from_is_utf8 _ e))) refl
