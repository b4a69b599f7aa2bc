-- The first value of a name is that of the header which `find` finds.
use Rattle.std.proofs.Common.{◌≡◌, ℕ, List, [], ◌∷◌, Option, Some, Bool, true, false, cond, refl}
use Rattle.std.specs.Prelude.{option_map}
use Rattle.std.specs.Str.{bytes_eq}
use Rattle.js_base.specs.declared.headers.Header.{Header}
use Rattle.js_base.specs.Headers.{first_found, first_value}

picked : (test : Bool) (header : Header) (found : Option Header) (value : Option (List ℕ)) → option_map (λ h. h.value) found ≡ value → option_map (λ h. h.value) (cond test (Some header) found) ≡ cond test (Some header.value) value
picked true header found value e = refl
picked false header found value e = e

pub found_is : (name : List ℕ) (headers : List Header) → first_found name headers ≡ first_value name headers
found_is name [] = refl
found_is name (header ∷ headers) = picked (bytes_eq name header.name) header _ _ (found_is name headers)
