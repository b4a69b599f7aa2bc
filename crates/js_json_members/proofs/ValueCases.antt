-- The cases of `value_of`.
use Rattle.std.proofs.Common.{◌≡◌, ℕ, List, Bool, true, false, Option, Some, None, Ok, Err, cond, refl, ap}
use Rattle.std.specs.Str.{IsUtf8, is_utf8}
use Rattle.std.proofs.lemmas.Str.{IsUtf8-from_is_utf8, is_utf8-from_IsUtf8}
use Rattle.serde_json.specs.Data.{Data}
use Rattle.serde_json.specs.Read.{read}
use Rattle.serde_json.specs.Written.{has_float}
use Rattle.js_json_members.specs.declared.error.ReadError.TheVariants.{NotJson, Float}
use Rattle.js_json_members.specs.Member.{float_free}
use Rattle.js_json_members.specs.Value.{value_of, without_float}

pub value_found : (bytes : List ℕ) (d : Data) → IsUtf8 bytes → read bytes ≡ Some d → has_float d ≡ false
    → value_of bytes ≡ Ok d
unfolding value_of float_free
value_found bytes d utf8 is none = rw (is_utf8-from_IsUtf8 bytes utf8, is, none) refl

pub value_floats : (bytes : List ℕ) (d : Data) → IsUtf8 bytes → read bytes ≡ Some d → has_float d ≡ true
    → value_of bytes ≡ Err Float
unfolding value_of float_free
value_floats bytes d utf8 is some = rw (is_utf8-from_IsUtf8 bytes utf8, is, some) refl

refused_by : (b : Bool) (found : Option Data) → (b ≡ true → found ≡ None)
    → cond b (without_float found) (Err NotJson) ≡ Err NotJson
refused_by true found none = ap without_float (none refl)
refused_by false found none = refl

pub value_refused : (bytes : List ℕ) → (IsUtf8 bytes → read bytes ≡ None) → value_of bytes ≡ Err NotJson
unfolding value_of float_free
value_refused bytes none = refused_by (is_utf8 bytes) (read bytes) (λ utf8. none (IsUtf8-from_is_utf8 bytes utf8))
