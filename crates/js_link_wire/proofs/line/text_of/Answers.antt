use Rattle.std.proofs.Common.{ap, sym, refl, Ok}
use Rattle.std.proofs.lemmas.Bool.{false_from_ne_true}
use Rattle.std.proofs.lemmas.Str.{IsUtf8-from_is_utf8, is_utf8-from_IsUtf8}
use Rattle.js_link_wire.specs.Lines.{text_of}
use Rattle.js_link_wire.proofs.line.text_of.Goals as goal

pub returns-in-Ok : goal.returns-in-Ok
unfolding text_of
returns-in-Ok c =
    let found = c.in-Ok.ensures.cases in
    rw (c.in_ok-without_return.ensures, is_utf8-from_IsUtf8 _ found.1) (ap Ok (sym found.0))

pub returns-in-Err : goal.returns-in-Err
unfolding text_of
returns-in-Err c =
    let none = c.in-Err.ensures.cases in
    rw (c.in_ok-without_return.ensures, false_from_ne_true _ (λ e. none.0 (IsUtf8-from_is_utf8 _ e))) refl
