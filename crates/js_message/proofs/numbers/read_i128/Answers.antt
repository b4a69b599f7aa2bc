use Rattle.std.proofs.Common.{◌≡◌, ℕ, ◌<◌, ◌≤◌, ◌^◌, ◌∙◌, refl, sym, ap, Some, arith}
use mir.Syntax.{w128}
use Rattle.std.proofs.lemmas.Int.{to_z_pos}
use Rattle.std.specs.Str.Parse.{digits_value}
use Rattle.js_base.proofs.Numeral.{signed_of-parse}
use Rattle.js_message.proofs.Digits.{below, signed_of-digits}
use Rattle.js_message.proofs.numbers.read_i128.Goals as goal

pub returns-in-Some : goal.returns-in-Some
returns-in-Some c =
    let number = c.in-Some.number in
    let text = c.args.text.now in
    let short : digits_value 10 text < 10 ^ 19 = below text 19 c.in-Some.ensures.digits c.in-Some.ensures.few in
    let small : number < 10 ^ 19 = omega (arith, c.in-Some.ensures.value) in
    ap Some (to_z_pos w128 number (omega arith)) ∙ sym (signed_of-digits w128 170141183460469231731687303715884105727 text number refl c.in-Some.ensures (omega arith))

pub returns-in-None : goal.returns-in-None
returns-in-None c = c.ok.ensures.value ∙ signed_of-parse w128 170141183460469231731687303715884105727 c.args.text.now c.parse.result refl c.parse.ensures.value.0
