use Rattle.std.proofs.Common.{◌≡◌, ℕ, ◌≤◌, pos, ◌∙◌, w64, refl, sym, ap, Some, to_z, arith}
use Rattle.std.proofs.lemmas.Int.{to_z_pos}
use Rattle.js_base.proofs.Numeral.{signed_of-parse}
use Rattle.js_message.proofs.Digits.{signed_of-digits}
use Rattle.js_message.proofs.numbers.read_i64.Goals as goal

pub returns-in-Some : goal.returns-in-Some
returns-in-Some c =
    let number = c.in-Some.number in
    let small : number ≤ 9223372036854775807 = omega arith in
    ap Some (to_z_pos w64 number (omega arith)) ∙ sym (signed_of-digits w64 9223372036854775807 c.args.text.now number refl c.in-Some.ensures small)

pub returns-in_default : goal.returns-in_default
returns-in_default c = c.ok.ensures.value ∙ signed_of-parse w64 9223372036854775807 c.args.text.now c.parse.result refl c.parse.ensures.value.0
