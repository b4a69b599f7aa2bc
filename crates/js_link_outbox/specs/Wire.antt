-- What may reach a wire, and why a call was refused.
use Rattle.std.specs.Prelude.{ℕ, ◌≡◌, ◌+◌, ◌&&◌, Bool, true, false, Option, Some, None, Result, Ok, Err, List, [], length, nat_le, codes, refl}
use Rattle.js_base.specs.Headers.{all_headers, is_sendable, wire_len}
use Rattle.js_base.specs.Subject.{is_valid_subject}
use Rattle.js_base.specs.declared.headers.Header.{Header}
use Rattle.js_link.specs.declared.link.LinkError.{LinkError}
use Rattle.js_link.specs.declared.link.LinkError.TheVariants.{Failed, OutOfMemory}

-- a text that is a subject, or none
abbrev pub is_subject_or_none : Option (List ℕ) → Bool
is_subject_or_none None = true
is_subject_or_none (Some text) = is_valid_subject text

-- how long payload and headers are together
abbrev pub size : Option (List Header) → List ℕ → ℕ
size headers payload = length payload + wire_len (all_headers headers)

-- a message that is read as the one that it is, and that is no longer than the limit
abbrev pub may_publish : ℕ → List ℕ → Option (List ℕ) → Option (List Header) → List ℕ → Bool
may_publish limit subject reply headers payload =
    (is_valid_subject subject && is_subject_or_none reply) && (is_sendable (all_headers headers) && nat_le (size headers payload) limit)

-- a subscription that is read as the one that it is
abbrev pub may_subscribe : List ℕ → Option (List ℕ) → Bool
may_subscribe subject group = is_valid_subject subject && is_subject_or_none group

-- a call fails exactly where it may not be made
abbrev pub FailsUnless : {T : Type 0} → Bool → Result T LinkError → Type 0
FailsUnless may (Ok made) = may ≡ true
FailsUnless may (Err Failed) = may ≡ false
FailsUnless may (Err OutOfMemory) = may ≡ true

-- worked: a limit of five bytes takes five, and neither six nor a subject with a space
worked : (may_publish 5 (codes "a.b") None None (codes "12345") ≡ true) × (may_publish 5 (codes "a.b") None None (codes "123456") ≡ false) × (may_publish 5 (codes "a b") None None [] ≡ false) × (may_publish 5 (codes "a") (Some []) None [] ≡ false)
worked = (refl, refl, refl, refl)
