-- Events that are added one after another.
use Rattle.std.proofs.Common.{◌≡◌, ℕ, zero, suc, ◌+◌, ◌-◌, ◌*◌, ◌%◌, ◌<◌, ◌≤◌, List, [], ◌∷◌, ◌++◌, length, take, codes, Result, Ok, Err, OnOk, refl, sym, ap, ap₂, ◌∙◌, arith, append_assoc, append-nil, length-append, add-one}
use Rattle.std.proofs.lemmas.List.{take-append-le}
use Rattle.js_ordered_table.specs.declared.event.Event.{Event}
use Rattle.js_ordered_table.specs.declared.event.EventKind.{EventKind}
use Rattle.js_tool_generate.specs.declared.episode.Episode.{Episode}
use Rattle.js_tool_generate.specs.Episode.{draw, delivered, before, info_text, name_of, delivery, deliveries, answer, recovery, happens, episodes}
use Rattle.js_tool_generate.specs.Transcript.{at_places, generated}
use Rattle.js_tool_generate.proofs.Numbers.{before_bound}

-- ---- places

pub length_places : (place : ℕ) (whats : List EventKind) → length (at_places place whats) ≡ length whats
length_places place [] = refl
length_places place (what ∷ whats) = let h = length_places (place + 1) whats in omega (arith, h)

places_append : (place : ℕ) (first second : List EventKind) → at_places place (first ++ second) ≡ at_places place first ++ at_places (place + length first) second
places_append place [] second = ap (λ (p : ℕ). at_places p second) (let e : place ≡ place + 0 = omega arith in e)
places_append place (what ∷ first) second =
    ap (λ (es : List Event). record { at = place * 1_000_000; what = what } ∷ es)
    (places_append (place + 1) first second ∙ ap (λ (p : ℕ). at_places (place + 1) first ++ at_places p second) (let e : place + 1 + length first ≡ place + suc (length first) = omega arith in e))

-- an event is added, and others follow it
pub pushed : (old new : List Event) (what : EventKind) (whats : List EventKind) → new ≡ old ++ record { at = (length old + 1) * 1_000_000; what = what } ∷ []
    → new ++ at_places (length new + 1) whats ≡ old ++ at_places (length old + 1) (what ∷ whats)
pushed old new what whats e =
    let e1 : Event = record { at = (length old + 1) * 1_000_000; what = what } in
    let longer : length new ≡ length old + 1 = ap length e ∙ length-append old (e1 ∷ []) in
    ap₂ (λ (es : List Event) (n : ℕ). es ++ at_places (n + 1) whats) e longer
    ∙ append_assoc old (e1 ∷ []) (at_places (length old + 1 + 1) whats)

-- the next delivery, where one is left
pub next_delivery : (inbox before number left : ℕ) (more : List EventKind) → 0 < left
    → deliveries inbox before number left ++ more ≡ delivery inbox before number ∷ (deliveries inbox before (number + 1) (left - 1) ++ more)
next_delivery inbox before number zero more some = absurd (omega arith)
next_delivery inbox before number (suc left) more some =
    ap (λ (n : ℕ). delivery inbox before number ∷ (deliveries inbox before (number + 1) n ++ more)) (let e : left ≡ suc left - 1 = omega arith in e)

-- four events are added
pub four_pushed : (a b c d e : List Event) (first second third fourth : EventKind)
    → b ≡ a ++ record { at = (length a + 1) * 1_000_000; what = first } ∷ []
    → c ≡ b ++ record { at = (length b + 1) * 1_000_000; what = second } ∷ []
    → d ≡ c ++ record { at = (length c + 1) * 1_000_000; what = third } ∷ []
    → e ≡ d ++ record { at = (length d + 1) * 1_000_000; what = fourth } ∷ []
    → e ≡ a ++ at_places (length a + 1) (first ∷ second ∷ third ∷ fourth ∷ [])
four_pushed a b c d e first second third fourth p q r s =
    sym (append-nil e) ∙ pushed d e fourth [] s ∙ pushed c d third (fourth ∷ []) r ∙ pushed b c second (third ∷ fourth ∷ []) q ∙ pushed a b first (second ∷ third ∷ fourth ∷ []) p

-- the gap and what follows it
pub recovery_pushed : (a b c d e : List Event) (number before delivered : ℕ) (deleted created : List ℕ)
    → deleted ≡ codes "{\"success\":true}" → created ≡ info_text (name_of (number + 1))
    → b ≡ a ++ record { at = (length a + 1) * 1_000_000; what = delivery number before (delivered + 2) } ∷ []
    → c ≡ b ++ record { at = (length b + 1) * 1_000_000; what = answer (2 * number + 1) deleted } ∷ []
    → d ≡ c ++ record { at = (length c + 1) * 1_000_000; what = answer (2 * number + 2) created } ∷ []
    → e ≡ d ++ record { at = (length d + 1) * 1_000_000; what = delivery number before (delivered + 1) } ∷ []
    → e ≡ a ++ at_places (length a + 1) (recovery number before delivered)
recovery_pushed a b c d e number before delivered deleted created is_deleted is_created p q r s =
    four_pushed a b c d e (delivery number before (delivered + 2)) (answer (2 * number + 1) deleted) (answer (2 * number + 2) created) (delivery number before (delivered + 1)) p q r s
    ∙ ap₂ (λ (x y : List ℕ). a ++ at_places (length a + 1) (delivery number before (delivered + 2) ∷ answer (2 * number + 1) x ∷ answer (2 * number + 2) y ∷ delivery number before (delivered + 1) ∷ []))
    is_deleted is_created

none_left : (inbox before number left : ℕ) (more : List EventKind) → left ≡ 0 → deliveries inbox before number left ++ more ≡ more
none_left inbox before number left more none = ap (λ (n : ℕ). deliveries inbox before number n ++ more) none

-- all of an episode
pub all_pushed : (start loop new : List Event) (inbox before number delivered many : ℕ) → delivered ≡ many → delivered + 1 ≤ number
    → loop ++ at_places (length loop + 1) (deliveries inbox before number (delivered + 1 - number) ++ recovery inbox before delivered)
    ≡ start ++ at_places (length start + 1) (deliveries inbox before 1 delivered ++ recovery inbox before delivered)
    → new ≡ loop ++ at_places (length loop + 1) (recovery inbox before delivered)
    → new ≡ start ++ at_places (length start + 1) (deliveries inbox before 1 many ++ recovery inbox before many)
all_pushed start loop new inbox before number delivered many same end rest last =
    last
    ∙ ap (λ (whats : List EventKind). loop ++ at_places (length loop + 1) whats) (sym (none_left inbox before number (delivered + 1 - number) (recovery inbox before delivered) (omega arith)))
    ∙ rest
    ∙ ap (λ (n : ℕ). start ++ at_places (length start + 1) (deliveries inbox before 1 n ++ recovery inbox before n)) same

pub on_ok : {A E P Q : Type 0} (r : Result A E) → (P → Q) → OnOk r P → OnOk r Q
on_ok (Ok x) f h = f h
on_ok (Err e) f h = tt

-- ---- episodes

episodes_append : (seed episode first second : ℕ) → episodes seed episode (first + second) ≡ episodes seed episode first ++ episodes seed (episode + first) second
episodes_append seed episode zero second =
    let n : zero + second ≡ second = omega arith in
    let e : episode ≡ episode + zero = omega arith in
    ap (episodes seed episode) n ∙ ap (λ (e : ℕ). episodes seed e second) e
episodes_append seed episode (suc first) second =
    ap (episodes seed episode) (let e : suc first + second ≡ suc (first + second) = omega arith in e)
    ∙ ap (λ (whats : List EventKind). happens seed episode ++ whats)
    (episodes_append seed (episode + 1) first second
    ∙ ap (λ (e : ℕ). episodes seed (episode + 1) first ++ episodes seed e second) (let e : episode + 1 + first ≡ episode + suc first = omega arith in e))
    ∙ sym (append_assoc (happens seed episode) (episodes seed (episode + 1) first) (episodes seed (episode + suc first) second))

-- where there are enough events, later episodes add none
pub enough : (seed count number : ℕ) → number ≤ count → count ≤ length (at_places 1 (episodes seed 0 number)) → generated seed count ≡ take count (at_places 1 (episodes seed 0 number))
enough seed count number within long =
    let whole : episodes seed 0 count ≡ episodes seed 0 number ++ episodes seed (0 + number) (count - number) =
    ap (episodes seed 0) (let e : count ≡ number + (count - number) = omega arith in e) ∙ episodes_append seed 0 number (count - number) in
    ap (λ (whats : List EventKind). take count (at_places 1 whats)) whole
    ∙ ap (take count) (places_append 1 (episodes seed 0 number) (episodes seed (0 + number) (count - number)))
    ∙ take-append-le count (at_places 1 (episodes seed 0 number)) (at_places (1 + length (episodes seed 0 number)) (episodes seed (0 + number) (count - number))) long

-- the episode of a seed with a number
abbrev pub episode_of : ℕ → ℕ → Episode
episode_of seed number = record { number = number; before = before seed number; draw = draw seed (suc number) }

-- one more episode
pub episode_pushed : (seed : ℕ) (episode : Episode) (old new : List Event) → episode ≡ episode_of seed episode.number → old ≡ at_places 1 (episodes seed 0 episode.number)
    → new ≡ old ++ at_places (length old + 1) (deliveries episode.number episode.before 1 (1 + episode.draw % 8) ++ recovery episode.number episode.before (1 + episode.draw % 8))
    → new ≡ at_places 1 (episodes seed 0 (episode.number + 1))
episode_pushed seed episode old new is before new_is =
    let n : ℕ = episode.number in
    let one : episodes seed 0 (n + 1) ≡ episodes seed 0 n ++ happens seed n =
    episodes_append seed 0 n 1 ∙ ap (λ (whats : List EventKind). episodes seed 0 n ++ whats) (append-nil (happens seed (0 + n)) ∙ ap (happens seed) (let e : 0 + n ≡ n = omega arith in e)) in
    let long : length old ≡ length (episodes seed 0 n) = ap length before ∙ length_places 1 (episodes seed 0 n) in
    new_is
    ∙ ap (λ (e : Episode). old ++ at_places (length old + 1) (deliveries e.number e.before 1 (1 + e.draw % 8) ++ recovery e.number e.before (1 + e.draw % 8))) is
    ∙ ap₂ (λ (es : List Event) (p : ℕ). es ++ at_places p (happens seed n)) before (let e : length old + 1 ≡ 1 + length (episodes seed 0 n) = omega (arith, long) in e)
    ∙ sym (places_append 1 (episodes seed 0 n) (happens seed n))
    ∙ ap (at_places 1) (sym one)

pub before_small : (seed : ℕ) (episode : Episode) → episode ≡ episode_of seed episode.number → episode.number < 1_000_000 → episode.before < 10_000_000
before_small seed episode is small =
    let same : episode.before ≡ before seed episode.number = ap (λ (e : Episode). e.before) is in
    let bound = before_bound seed episode.number in
    omega (arith, same, bound)

-- the episode after one of a seed is one of it too
pub next_is : (seed : ℕ) (episode next : Episode) → episode ≡ episode_of seed episode.number
    → next ≡ record { number = episode.number + 1; before = episode.before + (1 + episode.draw % 8); draw = 48_271 * episode.draw % 2_147_483_647 }
    → next ≡ episode_of seed next.number
next_is seed episode next is is_next =
    let n : ℕ = episode.number in
    let step : next ≡ record { number = n + 1; before = before seed (suc n); draw = draw seed (suc (suc n)) } =
    is_next ∙ ap (λ (e : Episode). record { number = n + 1; before = e.before + (1 + e.draw % 8); draw = 48_271 * e.draw % 2_147_483_647 }) is in
    let same : next.number ≡ suc n = ap (λ (e : Episode). e.number) step ∙ add-one n in
    step
    ∙ ap (λ (k : ℕ). record { number = k; before = before seed (suc n); draw = draw seed (suc (suc n)) }) (add-one n)
    ∙ ap (episode_of seed) (sym same)

length_deliveries : (inbox before number left : ℕ) → length (deliveries inbox before number left) ≡ left
length_deliveries inbox before number zero = refl
length_deliveries inbox before number (suc left) = let h = length_deliveries inbox before (number + 1) left in omega (arith, h)

-- an episode adds five to twelve events
pub episode_length : (seed : ℕ) (episode : Episode) (old new : List Event)
    → new ≡ old ++ at_places (length old + 1) (deliveries episode.number episode.before 1 (1 + episode.draw % 8) ++ recovery episode.number episode.before (1 + episode.draw % 8))
    → (length old + 5 ≤ length new) × (length new ≤ length old + 12)
episode_length seed episode old new is =
    let m : ℕ = 1 + episode.draw % 8 in
    let first : List EventKind = deliveries episode.number episode.before 1 m in
    let second : List EventKind = recovery episode.number episode.before m in
    let long : length new ≡ length old + (m + 4) =
    ap length is ∙ length-append old (at_places (length old + 1) (first ++ second)) ∙ ap (λ (n : ℕ). length old + n)
    (length_places (length old + 1) (first ++ second) ∙ length-append first second ∙ ap (λ (n : ℕ). n + 4) (length_deliveries episode.number episode.before 1 m)) in
    (omega (arith, long), omega (arith, long))
