-- Worked examples, which the definitions compute.
use Rattle.std.specs.Prelude.{◌≡◌, ℕ, pos, neg_ℤ, refl, true, false, Bool, List, [], ◌∷◌, Some, None, Ok, Err, codes}
use Rattle.js_base.specs.Headers.{is_sendable}
use Rattle.js_base.specs.Numeral.{unsigned_of, signed_of}
use Rattle.js_base.specs.Results.{both, all_3}

abbrev sends : List ℕ → List ℕ → Bool
sends name value = is_sendable (record { name = name; value = value } ∷ [])

plain_header : sends (codes "Nats-Msg-Id") (codes "a: 1") ≡ true
plain_header = refl

-- a value with a line feed would bring a header of its own
two_lines : sends (codes "A") (codes "1\r\nB: 2") ≡ false
two_lines = refl

name_with_a_colon : sends (codes "A: 1\r\nB") (codes "2") ≡ false
name_with_a_colon = refl

name_with_a_space : sends (codes "A B") (codes "1") ≡ false
name_with_a_space = refl

-- one bad header of two is enough
second_is_bad : is_sendable (record { name = codes "A"; value = codes "1" } ∷ record { name = codes "B"; value = 0 ∷ [] } ∷ []) ≡ false
second_is_bad = refl

last_of_a_byte : unsigned_of 8 (codes "+255") ≡ Some 255
last_of_a_byte = refl

past_a_byte : unsigned_of 8 (codes "256") ≡ None
past_a_byte = refl

signed_number : signed_of (neg_ℤ (pos 128)) (pos 127) (codes "-128") ≡ Some (neg_ℤ (pos 128))
signed_number = refl

no_number : signed_of (neg_ℤ (pos 128)) (pos 127) (codes "-") ≡ None
no_number = refl

first_of_two_errors : both {A = ℕ} {B = ℕ} {E = ℕ} (Err 1) (Err 2) ≡ Err 1
first_of_two_errors = refl

error_behind_a_value : all_3 {A = ℕ} {B = ℕ} {C = ℕ} {E = ℕ} (Ok 1) (Err 2) (Ok 3) ≡ Err 2
error_behind_a_value = refl

three_values : all_3 {A = ℕ} {B = ℕ} {C = ℕ} {E = ℕ} (Ok 1) (Ok 2) (Ok 3) ≡ Ok (1, 2, 3)
three_values = refl
