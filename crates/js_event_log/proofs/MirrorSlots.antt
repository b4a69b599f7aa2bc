-- The slots of a mirror show the log.
use Rattle.std.proofs.Common.{◌≡◌, ℕ, zero, suc, ◌-◌, ◌<◌, ◌≤◌, ◌⊎◌, inl, inr, List, [], ◌∷◌, length, map, get_or, slice_index, Some, None, Contains, refl, sym, ap, ◌∙◌, arith}
use Rattle.std.specs.List.{AllByRecursion}
use Rattle.js_base.specs.declared.message.Entry as base
use Rattle.js_event_log.specs.Mirror.{Mirrored, IsMirror, entry_with}
use Rattle.js_event_log.proofs.MirrorLookup.{find_here, find_on, last_from, found_last}
use Rattle.js_event_log.proofs.MirrorStandings.{IsGap, gap_of, found_of}
use Rattle.js_ordered_table.specs.declared.setup.OrderedSetup.{OrderedSetup}
use Rattle.js_ordered_table.specs.Gapless.{Logged, Server, IsLogged, IsMatching, IsWhole, entry_at, sequences}
use Rattle.js_event_log.specs.RelayReader.{handed}
use Rattle.js_event_log.specs.LogCopy.{ShowsLog, ShowsEachLog}
use Rattle.js_event_log.proofs.MirrorServer.{IsTrueCopy, true_copy}

same_or_not : (a b : ℕ) → (a ≡ b) ⊎ (a ≡ b → ⊥)
same_or_not a b = grind arith

-- ---- messages

logged_by : (log : List Logged) (x : base.Entry) (es : List base.Entry) (q : ℕ) (e : base.Entry) → IsLogged log (handed x) → entry_with q (x ∷ es) ≡ Some e
    → (entry_with q es ≡ Some e → entry_at log q ≡ Some (record { subject = e.subject; payload = e.payload })) → (x.sequence ≡ q) ⊎ (x.sequence ≡ q → ⊥)
    → entry_at log q ≡ Some (record { subject = e.subject; payload = e.payload })
logged_by log x es q e logged found rest (inl same) =
    let is : x ≡ e = injected x e (sym (find_here x es q same) ∙ found) in
    ap (entry_at log) (sym same) ∙ logged ∙ ap (λ (x : base.Entry). Some (record { subject = x.subject; payload = x.payload })) is
  where
    injected : (x y : base.Entry) → Some x ≡ Some y → x ≡ y
    injected x y same = cc
logged_by log x es q e logged found rest (inr differs) = rest (sym (find_on x es q differs) ∙ found)

logged_found : (log : List Logged) (es : List base.Entry) (q : ℕ) (e : base.Entry) → AllByRecursion (IsLogged log) (map handed es) → entry_with q es ≡ Some e
    → entry_at log q ≡ Some (record { subject = e.subject; payload = e.payload })
logged_found log [] q e logged found = absurd (cc)
logged_found log (x ∷ es) q e logged found = logged_by log x es q e logged.0 found (logged_found log es q e logged.1) (same_or_not x.sequence q)

-- ---- holes

contained : (es : List base.Entry) (q k : ℕ) → k < length (sequences (map handed es)) → get_or (sequences (map handed es)) k q ≡ q → entry_with q es ≡ None → ⊥
contained [] q k inside is none = absurd (omega arith)
contained (x ∷ es) q zero inside is none = let both : Some x ≡ None = sym (find_here x es q is) ∙ none in absurd (cc)
contained (x ∷ es) q (suc k) inside is none = contained_by x es q none (λ rest. contained es q k (omega (arith, inside)) is rest) (same_or_not x.sequence q)
  where
    contained_by : (x : base.Entry) (es : List base.Entry) (q : ℕ) → entry_with q (x ∷ es) ≡ None → (entry_with q es ≡ None → ⊥) → (x.sequence ≡ q) ⊎ (x.sequence ≡ q → ⊥) → ⊥
    contained_by x es q none rest (inl same) = let both : Some x ≡ None = sym (find_here x es q same) ∙ none in absurd (cc)
    contained_by x es q none rest (inr differs) = rest (sym (find_on x es q differs) ∙ none)

last_index : (low : ℕ) (x : base.Entry) (es : List base.Entry) → slice_index (sequences (map handed (x ∷ es))) (length es) ≡ last_from low (x ∷ es)
last_index low x [] = refl
last_index low x (y ∷ es) = last_index x.sequence y es

length_sequences : (es : List base.Entry) → length (sequences (map handed es)) ≡ length es
length_sequences [] = refl
length_sequences (x ∷ es) = ap suc (length_sequences es)

-- a hole is below the last entry
below_by : (low : ℕ) (es : List base.Entry) (q : ℕ) → IsGap low es q → (last_from low es ≡ low) ⊎ ((e : base.Entry) × (entry_with (last_from low es) es ≡ Some e)) → q < last_from low es
below_by low es q g (inl same) = let a = g.above in let w = g.within in absurd (omega (arith, a, w, same))
below_by low es q g (inr k) =
    let w = g.within in
    let differs : q ≡ last_from low es → ⊥ = λ same. let both : None ≡ Some k.0 = sym g.none ∙ ap (λ n. entry_with n es) same ∙ k.1 in absurd (cc) in
    omega (arith, w, differs)

hole_by : (setup : OrderedSetup) (log : List Logged) (removed : List ℕ) (start low : ℕ) (es : List base.Entry) (q : ℕ) → IsWhole setup log removed start (sequences (map handed es))
    → IsGap low es q → q < last_from low es → start ≤ q → IsMatching setup log q → Contains removed q
hole_by setup log removed start low [] q w g below from match = let a = g.above in absurd (omega (arith, a, below))
hole_by setup log removed start low (x ∷ es) q w g below from match =
    let n = length_sequences es in
    let inside : length es < length (sequences (map handed (x ∷ es))) = omega (arith, n) in
    let at : slice_index (sequences (map handed (x ∷ es))) (length es) ≡ last_from low (x ∷ es) = last_index low x es in
    elim (w.whole q (length es) match from inside (omega (arith, at, below)))
    [ inl c ↦ absurd (contained (x ∷ es) q c.0 c.1 c.2 g.none) | inr removed ↦ removed ]

shows : (s : Server) (setup : OrderedSetup) (mirror : Mirrored) → IsMirror mirror → IsTrueCopy s setup mirror → ShowsLog s setup mirror
shows s setup mirror is copy = record {
  messages = λ q e at. logged_found s.log mirror.entries q e copy.logged (found_of mirror q e at);
  holes = λ q at match.
      let g = gap_of mirror q is.0 at in
      hole_by setup s.log s.removed mirror.start (mirror.start - 1) mirror.entries q copy.whole g
      (below_by (mirror.start - 1) mirror.entries q g (found_last (mirror.start - 1) mirror.entries mirror.start is.1))
      (let a = g.above in let above = is.0 in omega (arith, a, above)) match;
}

pub shows_each_log : (mirror : Mirrored) → IsMirror mirror → ShowsEachLog mirror
shows_each_log mirror is s first start first_events first_run replay honest copy =
    shows s first.setup mirror is (true_copy s mirror first start first_events first_run replay honest copy)
