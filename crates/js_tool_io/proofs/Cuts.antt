-- The first line feed cuts the first line off.
use Rattle.std.proofs.Common.{◌≡◌, ℕ, zero, suc, ◌+◌, ◌<◌, ◌==◌, Bool, List, [], ◌∷◌, length, get_or, take, drop, true, false, refl, arith, add-one}
use Rattle.std.proofs.Common.{◌++◌, append_assoc, append-nil, if◌then◌else◌, Option, None, Some, MatchOption, IfSome, ap, sym, ◌∙◌, length-append, ◌≤◌, ◌-◌}
use Rattle.std.proofs.lemmas.List.{drop-drop, length-drop}
use Rattle.js_tool_io.specs.Pieces.{EndsLine}
use Rattle.js_tool_io.specs.Lines.{lines_of, onto_first}

is_false : (b : Bool) → (b ≡ true → ⊥) → b ≡ false
is_false true never = absurd (never refl)
is_false false never = refl

pub cut_found : (bytes : List ℕ) (i : ℕ) → i < length bytes → (get_or bytes i 0 == 10) ≡ true → ((k : ℕ) → k < i → (get_or bytes k 0 == 10) ≡ true → ⊥) → lines_of bytes ≡ take i bytes ∷ lines_of (drop (i + 1) bytes)
cut_found [] i lt here below = absurd (omega arith)
cut_found (b ∷ bytes) zero lt here below = rw here refl
cut_found (b ∷ bytes) (suc i) lt here below =
    let other = is_false (b == 10) (below 0 (omega arith)) in
    rw (other, cut_found bytes i (omega arith) here (λ k h. below (suc k) (omega arith)), add-one, add-one) refl

pub cut_none : (bytes : List ℕ) → 0 < length bytes → ((k : ℕ) → k < length bytes → (get_or bytes k 0 == 10) ≡ true → ⊥) → lines_of bytes ≡ bytes ∷ []
cut_none [] lt below = absurd (omega arith)
cut_none (b ∷ []) lt below = rw (is_false (b == 10) (below 0 (omega arith))) refl
cut_none (b ∷ c ∷ bytes) lt below =
    rw (is_false (b == 10) (below 0 (omega arith)), cut_none (c ∷ bytes) (omega arith) (λ k h. below (suc k) (omega arith))) refl

onto_first-append : (b : ℕ) (x y : List (List ℕ)) → 0 < length x → onto_first b (x ++ y) ≡ onto_first b x ++ y
onto_first-append b [] y some = absurd (omega arith)
onto_first-append b (line ∷ x) y some = refl

some_onto : (b : ℕ) (x : List (List ℕ)) → 0 < length (onto_first b x)
some_onto b [] = omega arith
some_onto b (line ∷ x) = omega arith

some_line : (b : Bool) (c : ℕ) (x : List (List ℕ)) → 0 < length (if b then [] ∷ x else onto_first c x)
some_line true c x = omega arith
some_line false c x = some_onto c x

some_lines : (front : List ℕ) → 0 < length (lines_of (front ++ 10 ∷ []))
some_lines [] = omega arith
some_lines (b ∷ front) = some_line (b == 10) b (lines_of (front ++ 10 ∷ []))

cut_at : (t : Bool) (b : ℕ) (x y : List (List ℕ)) → 0 < length x → (if t then [] ∷ (x ++ y) else onto_first b (x ++ y)) ≡ (if t then [] ∷ x else onto_first b x) ++ y
cut_at true b x y some = refl
cut_at false b x y some = onto_first-append b x y some

-- after a line feed new lines begin
lines_joined : (front q : List ℕ) → lines_of (front ++ 10 ∷ q) ≡ lines_of (front ++ 10 ∷ []) ++ lines_of q
lines_joined [] q = refl
lines_joined (b ∷ front) q = rw (lines_joined front q) (cut_at (b == 10) b (lines_of (front ++ 10 ∷ [])) (lines_of q) (some_lines front))

-- so the lines of pieces are the pieces' lines
pub lines_append : (p q : List ℕ) → (0 < length q → EndsLine p) → lines_of (p ++ q) ≡ lines_of p ++ lines_of q
lines_append p [] ends = simp append-nil
lines_append p (b ∷ q) ends =
    let e = ends (omega arith) in
    rw e.1 (rw append_assoc (lines_joined e.0 (b ∷ q)))

-- a piece that was taken off has the first of the lines that were left, and the rest have the others
module _ {Piece : Type 0} (items : Piece → List ℕ) where
  pub piece_lines : (taken : Option Piece) (old new : List ℕ) → MatchOption taken (old ≡ []) (λ piece. old ≡ items piece ++ new) → IfSome taken (λ piece. 0 < length new → EndsLine (items piece))
      → MatchOption taken (old ≡ []) (λ piece. lines_of old ≡ lines_of (items piece) ++ lines_of new)
  piece_lines None old new whole ends = whole
  piece_lines (Some piece) old new whole ends = ap lines_of whole ∙ lines_append (items piece) new ends

  pub piece_length : (taken : Option Piece) (old new : List ℕ) → MatchOption taken (old ≡ []) (λ piece. old ≡ items piece ++ new) → IfSome taken (λ piece. length old ≡ length (items piece) + length new)
  piece_length None old new whole = tt
  piece_length (Some piece) old new whole = ap length whole ∙ length-append (items piece) new

fewer_on : (feed : Bool) (b n : ℕ) (lines : List (List ℕ)) → length lines ≤ n → length (if feed then [] ∷ lines else onto_first b lines) ≤ suc n
fewer_on true b n lines fewer = omega (arith, fewer)
fewer_on false b n [] fewer = omega arith
fewer_on false b n (line ∷ lines) fewer = omega (arith, fewer)

-- there are not more lines than bytes
pub fewer_lines : (bytes : List ℕ) → length (lines_of bytes) ≤ length bytes
fewer_lines [] = omega arith
fewer_lines (b ∷ bytes) = fewer_on (b == 10) b (length bytes) (lines_of bytes) (fewer_lines bytes)

-- what is cut off behind a place is the line there
pub line_there : (bytes line rest : List ℕ) (at : ℕ) → at < length bytes → lines_of (drop at bytes) ≡ line ∷ lines_of rest → take (length line) (drop at bytes) ≡ line
    → drop (length (drop at bytes) - length rest) (drop at bytes) ≡ rest → length rest < length (drop at bytes)
    → lines_of (drop at bytes) ≡ take (length line) (drop at bytes) ∷ lines_of (drop (length bytes - length rest) bytes)
line_there bytes line rest at within cut front behind shorter =
    let long : length (drop at bytes) ≡ length bytes - at = length-drop at bytes in
    let place : length bytes - length rest ≡ at + (length (drop at bytes) - length rest) = omega (arith, within, shorter, long) in
    let same : drop (length bytes - length rest) bytes ≡ rest =
    ap (λ (n : ℕ). drop n bytes) place ∙ sym (drop-drop (length (drop at bytes) - length rest) at bytes) ∙ behind in
    cut ∙ ap (λ (l : List ℕ). l ∷ lines_of rest) (sym front) ∙ ap (λ (after : List ℕ). take (length line) (drop at bytes) ∷ lines_of after) (sym same)
