-- What a try to take or to give made of its pass: its call, or a look where another caller forestalled it.
use Rattle.std.proofs.Common.{◌≡◌, ℕ, zero, suc, ◌+◌, ◌-◌, ◌<◌, arith, ◌∷◌, [], List, Bool, true, false, nat_eq, Result, Ok, Err, MatchResult, MatchBool, is_ok, refl, subst}
use lib.Pointwise.{pointwise, bytes_decides}
use Rattle.atomic_table.specs.Seated.{TableId}
use Rattle.js_window.specs.declared.history.Call.{Call}
use Rattle.js_window.specs.declared.history.Call.TheVariants.{Got, Full, Give}
use Rattle.js_window.specs.declared.rule.View.{View}
use Rattle.js_window.specs.Caller.{Caller, Makes, Watches}
use Rattle.js_window.specs.Rule.{number_of, capacity_of, caller_of}
use Rattle.js_window.specs.Steps.{IsPass, IsCaller, SeesMore, Adds, Taken, Given}
use Rattle.js_window.proofs.Callers.{own_terms, watches, makes}

-- what a compare-exchange ensures, by what its step tells
abbrev pub Exchanged : (View → List ℕ → List ℕ → View → Type 0) → Result (List ℕ) (List ℕ) → List ℕ → List ℕ → View → View → Type 0
Exchanged tells r current new v w = MatchResult r (λ x. (pointwise nat_eq x current ≡ true) × tells v x new w) (λ x. (pointwise nat_eq x current ≡ false) × tells v x x w)

-- the pass made its call, or looked
abbrev pub Tried : Bool → ℕ → ℕ → Call → View → View → Type 0
Tried went number capacity call v w = MatchBool went (Adds number capacity call v w) (SeesMore number capacity v w)

tried : (tells : View → List ℕ → List ℕ → View → Type 0) (r : Result (List ℕ) (List ℕ)) (current new : List ℕ) (number capacity : ℕ) (call : Call) (v w : View)
    → (tells v current new w → Adds number capacity call v w) → ((x : List ℕ) → tells v x x w → SeesMore number capacity v w)
    → Exchanged tells r current new v w → (went : Bool) → went ≡ is_ok r → Tried went number capacity call v w
tried tells (Ok x) current new number capacity call v w hit miss m true e = hit (subst (λ (z : List ℕ). tells v z new w) ((bytes_decides x current).0 m.0) m.1)
tried tells (Ok x) current new number capacity call v w hit miss m false e = absurd (cc)
tried tells (Err x) current new number capacity call v w hit miss m true e = absurd (cc)
tried tells (Err x) current new number capacity call v w hit miss m false e = miss x m.1

pub took : (free second number capacity : ℕ) (r : Result (List ℕ) (List ℕ)) (v w : View) → 0 < free → IsPass number capacity v
    → Exchanged Taken r (free ∷ second ∷ []) ((free - 1) ∷ second ∷ []) v w → (went : Bool) → went ≡ is_ok r → Tried went number capacity Got v w
took free second number capacity r v w some p =
    tried Taken r (free ∷ second ∷ []) ((free - 1) ∷ second ∷ []) number capacity Got v w
    (λ told. (told number capacity p).0 (omega arith))
    (λ x told. (told number capacity p).1 refl)

pub gave : (free second number capacity : ℕ) (r : Result (List ℕ) (List ℕ)) (v w : View) → IsPass number capacity v
    → Exchanged Given r (free ∷ second ∷ []) ((free + 1) ∷ second ∷ []) v w → (went : Bool) → went ≡ is_ok r → Tried went number capacity Give v w
gave free second number capacity r v w p =
    tried Given r (free ∷ second ∷ []) ((free + 1) ∷ second ∷ []) number capacity Give v w
    (λ told. (told number capacity p).0 refl)
    (λ x told. (told number capacity p).1 refl)

-- either way it is a caller still
pub caller_after : (went : Bool) (number capacity : ℕ) (call : Call) (v w : View) → Tried went number capacity call v w → IsCaller (number_of w) (capacity_of w) w
caller_after true number capacity call v w t = own_terms number capacity w t.caller
caller_after false number capacity call v w t = own_terms number capacity w t.caller

-- what contracts say of a try
pub try_tells : (went : Bool) (call : Call) (p : Caller) (t u : TableId) (v w : View) → caller_of t v ≡ p → u ≡ t → IsCaller (number_of v) (capacity_of v) v → Tried went (number_of v) (capacity_of v) call v w
    → MatchBool went (Makes call p (caller_of u w)) (Watches p (caller_of u w))
try_tells true call p t u v w is same c s = makes p t u v w is same call c s
try_tells false call p t u v w is same c s = watches p t u v w is same s

-- so is a pass that looked for a free permit, whatever it found
pub caller_after_look : (free number capacity : ℕ) (v w : View) → (free ≡ 0 → Adds number capacity Full v w) → (0 < free → SeesMore number capacity v w) → IsCaller (number_of w) (capacity_of w) w
caller_after_look zero number capacity v w none some = own_terms number capacity w (none refl).caller
caller_after_look (suc free) number capacity v w none some = own_terms number capacity w (some (omega arith)).caller
