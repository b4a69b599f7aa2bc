-- The first line feed ends the first line.
use Rattle.std.proofs.Common.{◌≡◌, ℕ, suc, ◌+◌, ◌-◌, ◌<◌, ◌≤◌, inl, inr, min, Bool, true, false, cond, not, List, [], ◌∷◌, length, take, drop, Some, None, Ok, Err, refl, arith}
use Rattle.std.proofs.lemmas.Bool.{false_from_ne_true, le-leb, lt-leb, eq-eqb, ne_eqb, cases_lt}
use Rattle.std.proofs.lemmas.List.{get_or-take, length-take, length-take-le, take_rest, take_all}
use Rattle.std.proofs.lemmas.List.Sums.{position_or_len_is, passes_at_first}
use Rattle.std.specs.List.{position_or_len}
use Rattle.memchr.specs.Find.{IsFirstByte, is_byte}
use Rattle.js_link_wire.specs.declared.damage.Damage.TheVariants.{LineTooLong}
use Rattle.js_link_wire.specs.declared.damage.Unread.TheVariants.{More, Damaged}
use Rattle.js_link_wire.specs.Lines.{is_feed, line_limit, line_at}

-- where the first line feed stands, or the length where there is none
abbrev pub feed_place : List ℕ → ℕ
feed_place bytes = position_or_len is_feed bytes

place_on : (b : Bool) (n m : ℕ) → n ≤ m → cond b (1 + n) 0 ≤ suc m
place_on true n m h = omega (arith, h)
place_on false n m h = omega arith

pub place_within : (bytes : List ℕ) → feed_place bytes ≤ length bytes
place_within [] = omega arith
place_within (b ∷ bytes) = place_on (not (is_feed b)) (feed_place bytes) (length bytes) (place_within bytes)

-- ---- what the first line is, by the place of the feed

pub cut_at : (bytes : List ℕ) (k : ℕ) → feed_place bytes ≡ k → k < line_limit bytes → k < length bytes → line_at bytes ≡ Ok (take k bytes, drop (k + 1) bytes)
unfolding line_at
cut_at bytes k at few within =
    let len : length (take k bytes) ≡ k = length-take-le k bytes (omega arith) in
    rw (at, len, lt-leb (line_limit bytes) k few, ne_eqb k (length bytes) (λ e. omega arith)) refl

pub ends_late : (bytes : List ℕ) → line_limit bytes ≤ feed_place bytes → line_limit bytes ≤ length bytes → line_at bytes ≡ Err (Damaged LineTooLong)
unfolding line_at
ends_late bytes late long =
    rw (le-leb (line_limit bytes) (length (take (feed_place bytes) bytes)) (omega (arith, length-take (feed_place bytes) bytes))) refl

pub ends_nowhere : (bytes : List ℕ) → length bytes ≤ feed_place bytes → length bytes < line_limit bytes → line_at bytes ≡ Err More
unfolding line_at
ends_nowhere bytes none few =
    rw (take_all (feed_place bytes) bytes none, lt-leb (line_limit bytes) (length bytes) few, eq-eqb (length bytes) (length bytes) refl) refl

-- ---- a search of the first n bytes

-- it found a feed at k
pub feed_found : (bytes : List ℕ) (n k : ℕ) → n ≤ length bytes → IsFirstByte (is_byte 10) (take n bytes) (Some k) → (feed_place bytes ≡ k) × (k < n)
feed_found bytes n k long h =
    let lt : k < n = omega (arith, length-take n bytes, h.0.high) in (
      position_or_len_is is_feed bytes k 0 (omega arith)
          (λ j below. false_from_ne_true _ (λ e. let in_front : j < n = omega arith in h.0.before j (omega arith) below (rw (get_or-take n bytes j 0 in_front) e)))
          (λ _. rw (get_or-take n bytes k 0 lt) at h.1),
      lt,
    )

-- it found none
pub feed_later : (bytes : List ℕ) (n : ℕ) → n ≤ length bytes → IsFirstByte (is_byte 10) (take n bytes) None → n ≤ feed_place bytes
feed_later bytes n long h =
    elim (cases_lt (feed_place bytes) n) [
      | inl lt ↦ absurd (h (feed_place bytes) (omega arith) (omega (arith, length-take n bytes)) (rw (get_or-take n bytes (feed_place bytes) 0 lt) (passes_at_first is_feed bytes 0 (omega arith))))
      | inr le ↦ le
    ]

pub line_found : (bytes : List ℕ) (n k limit : ℕ) → limit ≡ line_limit bytes → n ≡ min limit (length bytes) → IsFirstByte (is_byte 10) (take n bytes) (Some k)
    → line_at bytes ≡ Ok (take k bytes, take (length bytes - (k + 1)) (drop (k + 1) bytes))
line_found bytes n k limit is-limit is-min h =
    let found = feed_found bytes n k (omega arith) h in
    rw take_rest (cut_at bytes k found.0 (omega arith) (omega arith))

pub line_short : (bytes : List ℕ) (n limit : ℕ) → limit ≡ line_limit bytes → n ≡ min limit (length bytes) → IsFirstByte (is_byte 10) (take n bytes) None → length bytes < limit
    → line_at bytes ≡ Err More
line_short bytes n limit is-limit is-min h few =
    let later = feed_later bytes n (omega arith) h in ends_nowhere bytes (omega arith) (omega arith)

pub line_long : (bytes : List ℕ) (n limit : ℕ) → limit ≡ line_limit bytes → n ≡ min limit (length bytes) → IsFirstByte (is_byte 10) (take n bytes) None → limit ≤ length bytes
    → line_at bytes ≡ Err (Damaged LineTooLong)
line_long bytes n limit is-limit is-min h many =
    let later = feed_later bytes n (omega arith) h in ends_late bytes (omega arith) (omega arith)
