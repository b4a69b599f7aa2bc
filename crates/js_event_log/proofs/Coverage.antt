-- Of two lists whose sequences rise, one keeps the latest of the other where it has each entry or a later one of its subject.
use Rattle.std.proofs.Common.{◌≡◌, ℕ, ◌<◌, List, [], ◌∷◌, ◌⊎◌, inl, inr, refl, sym, ap, ◌∙◌, subst, arith}
use Rattle.js_base.specs.declared.message.Entry.{Entry}
use Rattle.js_event_log.specs.Projection.{RisesAbove}
use Rattle.js_event_log.specs.LatestEntries.{HasSubject, KeepsLatest}
use Rattle.js_event_log.proofs.KeyInsertion.{IsAmong}

-- the entry is among these, or a later one of its subject is
abbrev pub IsCovered : Entry → List Entry → Type 0
IsCovered e ys = IsAmong e ys ⊎ ((x : Entry) × IsAmong x ys × (x.subject ≡ e.subject) × (e.sequence < x.sequence))

pub among_above : (low : ℕ) (es : List Entry) (x : Entry) → RisesAbove low es → IsAmong x es → low < x.sequence
among_above low [] x rises among = absurd among
among_above low (e ∷ es) x rises (inl same) = subst (λ (y : Entry). low < y.sequence) same rises.0
among_above low (e ∷ es) x rises (inr among) = omega (arith, rises.0, among_above e.sequence es x rises.1 among)

-- an entry is not that of a lower sequence
differ : {B : Type 0} (a b : Entry) → a.sequence < b.sequence → a ≡ b → B
differ a b less same = let is : a.sequence ≡ b.sequence = ap (λ (e : Entry). e.sequence) same in absurd (omega (arith, less, is))

with_subject : (x : Entry) (s : List ℕ) (ys : List Entry) → IsAmong x ys → x.subject ≡ s → HasSubject s ys
with_subject x s [] among is = among
with_subject x s (y ∷ ys) (inl same) is = inl (ap (λ (e : Entry). e.subject) same ∙ is)
with_subject x s (y ∷ ys) (inr among) is = inr (with_subject x s ys among is)

none_covers : (e : Entry) → IsCovered e [] → ⊥
none_covers e (inl among) = among
none_covers e (inr later) = later.1

pub keeps_latest : (low : ℕ) (all ys : List Entry) → RisesAbove low all → RisesAbove low ys → ((y : Entry) → IsAmong y ys → IsAmong y all)
    → ((e : Entry) → IsAmong e all → IsCovered e ys) → KeepsLatest ys all
keeps_latest low [] [] rise rises within covered = tt
keeps_latest low [] (y ∷ ys) rise rises within covered = within y (inl refl)
keeps_latest low (e ∷ all) [] rise rises within covered = none_covers e (covered e (inl refl))
keeps_latest low (e ∷ all) (y ∷ ys) rise rises within covered = by_head (λ zs above among has. keeps_latest e.sequence all zs rise.1 above among has) (within y (inl refl))
  where
    -- the first entry is kept
    rest_within : e ≡ y → (z : Entry) → IsAmong z ys → (e ≡ z) ⊎ IsAmong z all → IsAmong z all
    rest_within same z among (inl is) = differ y z (among_above y.sequence ys z rises.1 among) (sym same ∙ is)
    rest_within same z among (inr there) = there

    rest_covered : e ≡ y → (a : Entry) → e.sequence < a.sequence → IsCovered a (y ∷ ys) → IsCovered a ys
    rest_covered same a above (inl (inl is)) = differ e a above (same ∙ is)
    rest_covered same a above (inl (inr among)) = inl among
    rest_covered same a above (inr (x, inl is, subject, later)) =
        let here : e.sequence ≡ x.sequence = ap (λ (z : Entry). z.sequence) (same ∙ is) in
        absurd (omega (arith, above, later, here))
    rest_covered same a above (inr (x, inr among, subject, later)) = inr (x, among, subject, later)

    -- the first entry is left out
    still_within : e.sequence < y.sequence → (z : Entry) → IsAmong z (y ∷ ys) → (e ≡ z) ⊎ IsAmong z all → IsAmong z all
    still_within above z among (inl is) = differ e z (among_above e.sequence (y ∷ ys) z (above, rises.1) among) is
    still_within above z among (inr there) = there

    left_out : e.sequence < y.sequence → IsCovered e (y ∷ ys) → HasSubject e.subject (y ∷ ys)
    left_out above (inl among) = differ e e (among_above e.sequence (y ∷ ys) e (above, rises.1) among) refl
    left_out above (inr (x, among, subject, later)) = with_subject x e.subject (y ∷ ys) among subject

    by_head : ((zs : List Entry) → RisesAbove e.sequence zs → ((z : Entry) → IsAmong z zs → IsAmong z all) → ((a : Entry) → IsAmong a all → IsCovered a zs) → KeepsLatest zs all)
        → (e ≡ y) ⊎ IsAmong y all → KeepsLatest (y ∷ ys) (e ∷ all)
    by_head rest (inl same) =
        inl (
          sym same,
          rest ys (subst (λ (z : Entry). RisesAbove z.sequence ys) (sym same) rises.1)
              (λ z among. rest_within same z among (within z (inr among)))
              (λ a among. rest_covered same a (among_above e.sequence all a rise.1 among) (covered a (inr among))),
        )
    by_head rest (inr there) =
        let above : e.sequence < y.sequence = among_above e.sequence all y rise.1 there in
        inr (
          left_out above (covered e (inl refl)),
          rest (y ∷ ys) (above, rises.1)
              (λ z among. still_within above z among (within z among))
              (λ a among. covered a (inr among)),
        )
