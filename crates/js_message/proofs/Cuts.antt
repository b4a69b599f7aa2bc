-- The tokens of a text lie between its dots.
use Rattle.std.proofs.Common.{add-zero, ◌≡◌, ℕ, zero, suc, ◌+◌, ◌-◌, ◌<◌, ◌≤◌, Bool, true, false, cond, eqb, List, [], ◌∷◌, ◌++◌, length, get_or, take, drop, refl, ap, ◌∙◌, arith}
use Rattle.std.proofs.lemmas.Bool.{eqb-true, eq-eqb, ne_eqb}
use Rattle.std.proofs.Math.Nat.{sub_self}
use Rattle.std.proofs.lemmas.List.{take_more, append-nil, length-take-le}
use Rattle.std.proofs.lemmas.Str.{IsCharBoundary-start, IsCharBoundary-end, IsCharBoundary-before_ascii, IsCharBoundary-after_ascii}
use Rattle.std.specs.Str.{IsUtf8, IsCharBoundary}
use Rattle.std.specs.List.{onto_first, slice_range}
use Rattle.js_base.specs.Subject.{tokens}
use Rattle.js_message.specs.AckSubject.{token_at}
use Rattle.js_message.specs.DotPositions.{dots_from, dots_of, token_start, token_end}

-- one byte more
push_step : (t : Bool) (place : ℕ) (ds es more : List ℕ) → es ≡ ds ++ more → cond t (place ∷ es) es ≡ cond t (place ∷ ds) ds ++ more
push_step true place ds es more h = ap (λ xs. place ∷ xs) h
push_step false place ds es more h = h

push : (place : ℕ) (bytes : List ℕ) (byte : ℕ) → dots_from place (bytes ++ byte ∷ []) ≡ dots_from place bytes ++ cond (eqb byte 46) ((place + length bytes) ∷ []) []
push place [] byte = simp add-zero
push place (b ∷ bs) byte =
    let e : place + 1 + length bs ≡ place + suc (length bs) = omega arith in
    push_step (eqb b 46) place _ _ _ (push (place + 1) bs byte ∙ ap (λ n. dots_from (place + 1) bs ++ cond (eqb byte 46) (n ∷ []) []) e)

pub dots_more : (text : List ℕ) (i : ℕ) → i < length text → dots_of (take (i + 1) text) ≡ dots_of (take i text) ++ cond (eqb (get_or text i 0) 46) (i ∷ []) []
dots_more text i h =
    let e : 0 + length (take i text) ≡ i = omega (arith, length-take-le i text (omega arith)) in
    ap dots_of (take_more text i 0 h) ∙ push 0 (take i text) (get_or text i 0) ∙ ap (λ n. dots_of (take i text) ++ cond (eqb (get_or text i 0) 46) (n ∷ []) []) e

-- a byte that is a dot, and one that is none
pub more_there : (text : List ℕ) (i : ℕ) → i < length text → get_or text i 0 ≡ 46 → dots_of (take (i + 1) text) ≡ dots_of (take i text) ++ i ∷ []
more_there text i h e = dots_more text i h ∙ ap (λ t. dots_of (take i text) ++ cond t (i ∷ []) []) (eq-eqb (get_or text i 0) 46 e)

pub none_there : (text : List ℕ) (i : ℕ) → i < length text → (get_or text i 0 ≡ 46 → ⊥) → dots_of (take (i + 1) text) ≡ dots_of (take i text)
none_there text i h e = dots_more text i h ∙ ap (λ t. dots_of (take i text) ++ cond t (i ∷ []) []) (ne_eqb (get_or text i 0) 46 e) ∙ append-nil (dots_of (take i text))

-- no more dots than bytes
fewer : (t : Bool) (place : ℕ) (ds : List ℕ) (n : ℕ) → length ds ≤ n → length (cond t (place ∷ ds) ds) ≤ suc n
fewer true place ds n h = omega arith
fewer false place ds n h = omega arith

pub dots_few : (place : ℕ) (bytes : List ℕ) → length (dots_from place bytes) ≤ length bytes
dots_few place [] = omega arith
dots_few place (b ∷ bs) = fewer (eqb b 46) place (dots_from (place + 1) bs) (length bs) (dots_few (place + 1) bs)

-- one token more than dots
one_more : (t : Bool) (place b : ℕ) (ds : List ℕ) (ts : List (List ℕ)) → length ts ≡ length ds + 1 → length (cond t ([] ∷ ts) (onto_first b ts)) ≡ length (cond t (place ∷ ds) ds) + 1
one_more true place b ds ts h = omega arith
one_more false place b ds [] h = absurd (omega arith)
one_more false place b ds (x ∷ xs) h = h

pub tokens_counted : (place : ℕ) (bytes : List ℕ) → length (tokens bytes) ≡ length (dots_from place bytes) + 1
tokens_counted place [] = refl
tokens_counted place (b ∷ bs) = one_more (eqb b 46) place b (dots_from (place + 1) bs) (tokens bs) (tokens_counted (place + 1) bs)

-- a place that is listed is that of a dot
pub record IsDot (place : ℕ) (bytes : List ℕ) (dot : ℕ) : Type 0 where
  pub low : place ≤ dot
  pub high : dot < place + length bytes
  pub byte : get_or bytes (dot - place) 0 ≡ 46

raise : (place b : ℕ) (bs : List ℕ) (dot : ℕ) → IsDot (place + 1) bs dot → IsDot place (b ∷ bs) dot
raise place b bs dot h =
    let e : dot - place ≡ suc (dot - (place + 1)) = omega arith in
    record { low = omega arith; high = omega arith; byte = rw e h.byte }

dot_step : (t : Bool) (place b : ℕ) (bs ds : List ℕ) (k : ℕ) → eqb b 46 ≡ t → ((j : ℕ) → j < length ds → IsDot (place + 1) bs (get_or ds j 0)) → k < length (cond t (place ∷ ds) ds) → IsDot place (b ∷ bs) (get_or (cond t (place ∷ ds) ds) k 0)
dot_step true place b bs ds zero e ih h = record { low = omega arith; high = omega arith; byte = rw (sub_self place) (eqb-true b 46 e) }
dot_step true place b bs ds (suc j) e ih h = raise place b bs _ (ih j (omega arith))
dot_step false place b bs ds k e ih h = raise place b bs _ (ih k h)

pub dot_at : (place : ℕ) (bytes : List ℕ) (k : ℕ) → k < length (dots_from place bytes) → IsDot place bytes (get_or (dots_from place bytes) k 0)
dot_at place [] k h = absurd (omega arith)
dot_at place (b ∷ bs) k h = dot_step (eqb b 46) place b bs (dots_from (place + 1) bs) k refl (dot_at (place + 1) bs) h

-- the places rise
rise_step : (t : Bool) (place : ℕ) (ds : List ℕ) (k : ℕ) → ((j : ℕ) → j < length ds → place + 1 ≤ get_or ds j 0) → ((j : ℕ) → suc j < length ds → get_or ds j 0 < get_or ds (suc j) 0) → suc k < length (cond t (place ∷ ds) ds) → get_or (cond t (place ∷ ds) ds) k 0 < get_or (cond t (place ∷ ds) ds) (suc k) 0
rise_step true place ds zero low ih h = omega (arith, low 0)
rise_step true place ds (suc j) low ih h = ih j (omega arith)
rise_step false place ds k low ih h = ih k h

pub dots_rise : (place : ℕ) (bytes : List ℕ) (k : ℕ) → suc k < length (dots_from place bytes) → get_or (dots_from place bytes) k 0 < get_or (dots_from place bytes) (suc k) 0
dots_rise place [] k h = absurd (omega arith)
dots_rise place (b ∷ bs) k h = rise_step (eqb b 46) place (dots_from (place + 1) bs) k (λ j l. (dot_at (place + 1) bs j l).low) (dots_rise (place + 1) bs) h

-- the first token ends at the first dot, or with the text
more_left : (e place : ℕ) → place + 1 ≤ e → e - place ≡ suc (e - (place + 1))
more_left e place h = omega arith

first_step : (t : Bool) (place b : ℕ) (bs ds : List ℕ) (ts : List (List ℕ)) (end' : ℕ) → place + 1 ≤ get_or ds 0 end' → get_or ts 0 [] ≡ take (get_or ds 0 end' - (place + 1)) bs → get_or (cond t ([] ∷ ts) (onto_first b ts)) 0 [] ≡ take (get_or (cond t (place ∷ ds) ds) 0 end' - place) (b ∷ bs)
first_step true place b bs ds ts end' low ih = simp (sub_self place)
first_step false place b bs ds [] end' low ih = rw (more_left (get_or ds 0 end') place low) (ap (λ x. b ∷ x) ih)
first_step false place b bs ds (x ∷ xs) end' low ih = rw (more_left (get_or ds 0 end') place low) (ap (λ y. b ∷ y) ih)

-- no place is below the first
low_step : (t : Bool) (place : ℕ) (ds : List ℕ) (end' : ℕ) → place + 1 ≤ get_or ds 0 end' → place ≤ get_or (cond t (place ∷ ds) ds) 0 end'
low_step true place ds end' h = omega arith
low_step false place ds end' h = omega arith

first_low : (place : ℕ) (bytes : List ℕ) (end' : ℕ) → end' ≡ place + length bytes → place ≤ get_or (dots_from place bytes) 0 end'
first_low place [] end' q = omega arith
first_low place (b ∷ bs) end' q = low_step (eqb b 46) place (dots_from (place + 1) bs) end' (first_low (place + 1) bs end' (omega arith))

first_token : (place : ℕ) (bytes : List ℕ) (end' : ℕ) → end' ≡ place + length bytes → get_or (tokens bytes) 0 [] ≡ take (get_or (dots_from place bytes) 0 end' - place) bytes
first_token place [] end' q = let z : end' - place ≡ 0 = omega arith in rw z refl
first_token place (b ∷ bs) end' q = first_step (eqb b 46) place b bs (dots_from (place + 1) bs) (tokens bs) end' (first_low (place + 1) bs end' (omega arith)) (first_token (place + 1) bs end' (omega arith))

-- each other token lies behind a dot, up to the next or to the end of the text
later_step : (t : Bool) (place b : ℕ) (bs ds : List ℕ) (ts : List (List ℕ)) (end' k : ℕ) → ((j : ℕ) → j < length ds → place + 1 ≤ get_or ds j 0) → get_or ts 0 [] ≡ take (get_or ds 0 end' - (place + 1)) bs → ((j : ℕ) → j < length ds → get_or ts (suc j) [] ≡ take (get_or ds (suc j) end' - (get_or ds j 0 + 1)) (drop (get_or ds j 0 + 1 - (place + 1)) bs)) → k < length (cond t (place ∷ ds) ds) → get_or (cond t ([] ∷ ts) (onto_first b ts)) (suc k) [] ≡ take (get_or (cond t (place ∷ ds) ds) (suc k) end' - (get_or (cond t (place ∷ ds) ds) k 0 + 1)) (drop (get_or (cond t (place ∷ ds) ds) k 0 + 1 - place) (b ∷ bs))
later_step true place b bs ds ts end' zero low first ih h = let e : place + 1 - place ≡ 1 = omega arith in rw e first
later_step true place b bs ds ts end' (suc j) low first ih h =
    let l : place + 1 ≤ get_or ds j 0 = low j (omega arith) in
    let e : get_or ds j 0 + 1 - place ≡ suc (get_or ds j 0 + 1 - (place + 1)) = omega arith in
    rw e (ih j (omega arith))
later_step false place b bs ds [] end' k low first ih h =
    let l : place + 1 ≤ get_or ds k 0 = low k h in
    let e : get_or ds k 0 + 1 - place ≡ suc (get_or ds k 0 + 1 - (place + 1)) = omega arith in
    rw e (ih k h)
later_step false place b bs ds (x ∷ xs) end' k low first ih h =
    let l : place + 1 ≤ get_or ds k 0 = low k h in
    let e : get_or ds k 0 + 1 - place ≡ suc (get_or ds k 0 + 1 - (place + 1)) = omega arith in
    rw e (ih k h)

later_token : (place : ℕ) (bytes : List ℕ) (k end' : ℕ) → end' ≡ place + length bytes → k < length (dots_from place bytes) → get_or (tokens bytes) (suc k) [] ≡ take (get_or (dots_from place bytes) (suc k) end' - (get_or (dots_from place bytes) k 0 + 1)) (drop (get_or (dots_from place bytes) k 0 + 1 - place) bytes)
later_token place [] k end' q h = absurd (omega arith)
later_token place (b ∷ bs) k end' q h = later_step (eqb b 46) place b bs (dots_from (place + 1) bs) (tokens bs) end' k (λ j l. (dot_at (place + 1) bs j l).low) (first_token (place + 1) bs end' (omega arith)) (λ j l. later_token (place + 1) bs j end' (omega arith) l) h

-- what the places of the dots and the list of tokens have to do with each other
pub token_cut : (text : List ℕ) (k : ℕ) → k ≤ length (dots_of text) → token_at k (tokens text) ≡ slice_range text (token_start (dots_of text) k) (token_end (dots_of text) (length text) k)
token_cut text zero h = first_token 0 text (length text) (omega arith)
token_cut text (suc k) h =
    let e : get_or (dots_of text) k 0 + 1 - 0 ≡ get_or (dots_of text) k 0 + 1 = omega arith in
    rw e at (later_token 0 text k (length text) (omega arith) (omega arith))

-- a place in the list, or past it
in_or_past : (P : ℕ → Type 0) (ds : List ℕ) (k e : ℕ) → (k < length ds → P (get_or ds k 0)) → (length ds ≤ k → P e) → P (get_or ds k e)
in_or_past P [] k e inside past = past (omega arith)
in_or_past P (d ∷ ds) zero e inside past = inside (omega arith)
in_or_past P (d ∷ ds) (suc k) e inside past = in_or_past P ds k e (λ h. inside (omega arith)) (λ h. past (omega arith))

-- a token begins before it ends, and a text may be cut at both places
pub dot_below : (text : List ℕ) (k : ℕ) → k < length (dots_of text) → get_or (dots_of text) k 0 < length text
dot_below text k h = let d = dot_at 0 text k h in omega (arith, d.high)

is_dot : (text : List ℕ) (k : ℕ) → k < length (dots_of text) → get_or text (get_or (dots_of text) k 0) 0 ≡ 46
is_dot text k h =
    let d = dot_at 0 text k h in
    let e : get_or (dots_of text) k 0 - 0 ≡ get_or (dots_of text) k 0 = omega arith in
    rw e at d.byte

pub start_le_end : (text : List ℕ) (k : ℕ) → k ≤ length (dots_of text) → token_start (dots_of text) k ≤ token_end (dots_of text) (length text) k
start_le_end text zero h = omega arith
start_le_end text (suc k) h =
    in_or_past (λ n. get_or (dots_of text) k 0 + 1 ≤ n) (dots_of text) (suc k) (length text)
    (λ l. let r = dots_rise 0 text k l in omega (arith, r))
    (λ _. let b = dot_below text k (omega arith) in omega (arith, b))

pub start_boundary : (text : List ℕ) (k : ℕ) → IsUtf8 text → k ≤ length (dots_of text) → IsCharBoundary text (token_start (dots_of text) k)
start_boundary text zero u h = IsCharBoundary-start text u
start_boundary text (suc k) u h = IsCharBoundary-after_ascii text (get_or (dots_of text) k 0) u (dot_below text k (omega arith)) (omega (arith, is_dot text k (omega arith)))

pub end_boundary : (text : List ℕ) (k : ℕ) → IsCharBoundary text (token_end (dots_of text) (length text) k)
end_boundary text k =
    in_or_past (IsCharBoundary text) (dots_of text) k (length text)
    (λ h. IsCharBoundary-before_ascii text (get_or (dots_of text) k 0) (dot_below text k h) (omega (arith, is_dot text k h)))
    (λ _. IsCharBoundary-end text)

-- where a token begins, behind the dot before it
pub later_start : (places : List ℕ) (k : ℕ) → 0 < k → token_start places k ≡ get_or places (k - 1) 0 + 1
later_start places zero h = absurd (omega arith)
later_start places (suc k) h = let e : suc k - 1 ≡ k = omega arith in rw e refl
