use Rattle.std.proofs.Common.{◌≡◌, ℕ, ◌<◌, ◌≤◌, ◌+◌, ◌*◌, ◌^◌, length, get_or, take, arith}
use Rattle.std.proofs.lemmas.Int.Digits.{digits_more, digits_value_more}
use Rattle.std.proofs.lemmas.List.{length-take-le}
use Rattle.std.proofs.lemmas.Str.{digit_value_digit}
use Rattle.std.specs.Str.Parse.{digits_value}
use Rattle.js_message.proofs.Digits.{below}
use Rattle.js_message.proofs.numbers.read_digits.Goals as goal

pub overflow_mul-number : goal.overflow_mul-number
overflow_mul-number c =
    let bytes = c.as_bytes-bytes.result.now in
    let i = c.loop-byte.byte-index in
    let few : length (take i bytes) ≤ 18 = omega (arith, length-take-le i bytes (omega arith)) in
    let b : digits_value 10 (take i bytes) < 10 ^ 18 = below (take i bytes) 18 c.loop-byte.invariant.0 few in
    omega (arith, c.loop-byte.invariant.1)

pub overflow_add-number : goal.overflow_add-number
overflow_add-number c =
    let bytes = c.as_bytes-bytes.result.now in
    let i = c.loop-byte.byte-index in
    let few : length (take i bytes) ≤ 18 = omega (arith, length-take-le i bytes (omega arith)) in
    let b : digits_value 10 (take i bytes) < 10 ^ 18 = below (take i bytes) 18 c.loop-byte.invariant.0 few in
    omega (arith, c.loop-byte.invariant.1)

pub loop-byte-preserved : goal.loop-byte-preserved
loop-byte-preserved c =
    let bytes = c.as_bytes-bytes.result.now in
    let i = c.loop-byte.byte-index in
    let low : 48 ≤ get_or bytes i 0 = omega arith in
    let high : get_or bytes i 0 ≤ 57 = omega arith in
    let digit = digit_value_digit (get_or bytes i 0) (low, high) in
    (digits_more 10 bytes i (omega arith) c.loop-byte.invariant.0 (omega (arith, digit)), omega (arith, digit, digits_value_more 10 bytes i (omega arith), c.loop-byte.invariant.1))
