-- What stands at a sequence, by the entry that is found there.
use Rattle.std.proofs.Common.{◌≡◌, ℕ, ◌-◌, ◌<◌, ◌≤◌, ◌⊎◌, inl, inr, cond, ltb, List, Option, Some, None, refl, sym, ap, ◌∙◌, arith}
use Rattle.js_base.specs.declared.message.Entry.{Entry}
use Rattle.js_event_log.specs.Mirror.{Mirrored, before, message, hole, beyond, held, slot, entry_with}
use Rattle.js_event_log.specs.MirrorHoles.{IsHole}
use Rattle.js_event_log.proofs.MirrorOrder.{less, not_less}
use Rattle.js_event_log.proofs.MirrorLookup.{last_from}

-- between a sequence and the last entry none has this sequence
pub record IsGap (last : ℕ) (es : List Entry) (q : ℕ) : Type 0 where
  pub above : last < q
  pub within : q ≤ last_from last es
  pub none : entry_with q es ≡ None

pub is_before : (m : Mirrored) (q : ℕ) → q < m.start → slot m q ≡ before
is_before m q l =
    ap (λ b. cond b before (cond (ltb (last_from (m.start - 1) m.entries) q) beyond (held (entry_with q m.entries)))) (less q m.start l)

pub is_beyond : (m : Mirrored) (q : ℕ) → m.start ≤ q → last_from (m.start - 1) m.entries < q → slot m q ≡ beyond
is_beyond m q l above =
    ap (λ b. cond b before (cond (ltb (last_from (m.start - 1) m.entries) q) beyond (held (entry_with q m.entries)))) (not_less q m.start l)
    ∙ ap (λ b. cond b beyond (held (entry_with q m.entries))) (less (last_from (m.start - 1) m.entries) q above)

pub is_held : (m : Mirrored) (q : ℕ) → m.start ≤ q → q ≤ last_from (m.start - 1) m.entries → slot m q ≡ held (entry_with q m.entries)
is_held m q l within =
    ap (λ b. cond b before (cond (ltb (last_from (m.start - 1) m.entries) q) beyond (held (entry_with q m.entries)))) (not_less q m.start l)
    ∙ ap (λ b. cond b beyond (held (entry_with q m.entries))) (not_less (last_from (m.start - 1) m.entries) q within)

pub hole_of : (m : Mirrored) (q : ℕ) → 0 < m.start → IsGap (m.start - 1) m.entries q → IsHole m q
hole_of m q h g = let a = g.above in is_held m q (omega (arith, a, h)) g.within ∙ ap held g.none

hole_is_none : (o : Option Entry) → held o ≡ hole → o ≡ None
hole_is_none None e = refl
hole_is_none (Some x) e = absurd (cc)

gap_by : (m : Mirrored) (q : ℕ) → 0 < m.start → IsHole m q → (q < m.start) ⊎ (m.start ≤ q) → (last_from (m.start - 1) m.entries < q) ⊎ (q ≤ last_from (m.start - 1) m.entries)
    → IsGap (m.start - 1) m.entries q
gap_by m q h k (inl l) past = let both : before ≡ hole = sym (is_before m q l) ∙ k in absurd (cc)
gap_by m q h k (inr l) (inl above) = let both : beyond ≡ hole = sym (is_beyond m q l above) ∙ k in absurd (cc)
gap_by m q h k (inr l) (inr within) = record {
  above = omega (arith, l, h);
  within = within;
  none = hole_is_none (entry_with q m.entries) (sym (is_held m q l within) ∙ k);
}

side : (a b : ℕ) → (a < b) ⊎ (b ≤ a)
side a b = grind arith

pub gap_of : (m : Mirrored) (q : ℕ) → 0 < m.start → IsHole m q → IsGap (m.start - 1) m.entries q
gap_of m q h k = gap_by m q h k (side q m.start) (side (last_from (m.start - 1) m.entries) q)

held_found : (o : Option Entry) (e : Entry) → held o ≡ message e → o ≡ Some e
held_found None e h = absurd (cc)
held_found (Some x) e h = cc

found_by : (m : Mirrored) (q : ℕ) (e : Entry) → slot m q ≡ message e → (q < m.start) ⊎ (m.start ≤ q) → (last_from (m.start - 1) m.entries < q) ⊎ (q ≤ last_from (m.start - 1) m.entries)
    → entry_with q m.entries ≡ Some e
found_by m q e k (inl l) past = let both : before ≡ message e = sym (is_before m q l) ∙ k in absurd (cc)
found_by m q e k (inr l) (inl above) = let both : beyond ≡ message e = sym (is_beyond m q l above) ∙ k in absurd (cc)
found_by m q e k (inr l) (inr within) = held_found (entry_with q m.entries) e (sym (is_held m q l within) ∙ k)

-- where a message stands, it is found
pub found_of : (m : Mirrored) (q : ℕ) (e : Entry) → slot m q ≡ message e → entry_with q m.entries ≡ Some e
found_of m q e k = found_by m q e k (side q m.start) (side (last_from (m.start - 1) m.entries) q)
