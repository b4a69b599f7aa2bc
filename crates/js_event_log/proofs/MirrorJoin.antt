-- Two lists joined: what is found in them, and their order.
use Rattle.std.proofs.Common.{◌≡◌, ℕ, ◌+◌, ◌<◌, ◌≤◌, ◌⊎◌, inl, inr, cond, not, eqb, ltb, true, false, Bool, List, [], ◌∷◌, ◌++◌, Option, Some, None, is_some, max, ◌-◌, refl, sym, ap, ap₂, ◌∙◌, arith, subst, append_assoc}
use Rattle.std.specs.Option.{option_or}
use Rattle.std.specs.List.{AllByRecursion}
use Rattle.std.proofs.lemmas.List.Folds.{find-append}
use Rattle.js_base.specs.declared.message.Entry.{Entry}
use Rattle.js_event_log.specs.Mirror.{Mirrored, RisesFrom, IsMirror, entry_with}
use Rattle.js_event_log.specs.MirrorMerge.{IsMerged}
use Rattle.js_event_log.specs.MirrorJoin.{front_below, behind_below, lacking, joined}
use Rattle.js_event_log.proofs.MirrorOrder.{less, not_less}
use Rattle.js_event_log.proofs.MirrorLookup.{find_here, find_on, weaker, rises_filter, last_from, last_above, absent_above, found_last}

side : (a b : ℕ) → (a < b) ⊎ (b ≤ a)
side a b = grind arith

-- ---- one list, parted at a sequence

parted_by : (q : ℕ) (x : Entry) (es : List Entry) → front_below q es ++ behind_below q es ≡ es → (b : Bool)
    → cond b (x ∷ front_below q es) [] ++ cond b (behind_below q es) (x ∷ es) ≡ x ∷ es
parted_by q x es rest true = ap (λ xs. x ∷ xs) rest
parted_by q x es rest false = refl

pub parted : (q : ℕ) (es : List Entry) → front_below q es ++ behind_below q es ≡ es
parted q [] = refl
parted q (x ∷ es) = parted_by q x es (parted q es) (ltb x.sequence q)

front_absent_by : (q p : ℕ) (x : Entry) (es : List Entry) → q ≤ p → entry_with p (front_below q es) ≡ None → (x.sequence < q) ⊎ (q ≤ x.sequence) → entry_with p (front_below q (x ∷ es)) ≡ None
front_absent_by q p x es l rest (inl below) =
    ap (λ b. entry_with p (cond b (x ∷ front_below q es) [])) (less x.sequence q below) ∙ find_on x (front_below q es) p (λ e. absurd (omega (arith, l, below, e))) ∙ rest
front_absent_by q p x es l rest (inr past) = ap (λ b. entry_with p (cond b (x ∷ front_below q es) [])) (not_less x.sequence q past)

front_absent : (q p : ℕ) (es : List Entry) → q ≤ p → entry_with p (front_below q es) ≡ None
front_absent q p [] l = refl
front_absent q p (x ∷ es) l = front_absent_by q p x es l (front_absent q p es l) (side x.sequence q)

-- ---- two lists without a common sequence

-- none of the other's sequences is in the first
abbrev pub Apart : List Entry → List Entry → Type 0
Apart one other = AllByRecursion (λ (e : Entry). entry_with e.sequence one ≡ None) other

not_found : (x : Entry) (one : List Entry) (q : ℕ) (b : Bool) → cond b (Some x) (entry_with q one) ≡ None → entry_with q one ≡ None
not_found x one q true h = absurd (cc)
not_found x one q false h = h

apart_tail : (x : Entry) (one other : List Entry) → Apart (x ∷ one) other → Apart one other
apart_tail x one [] a = tt
apart_tail x one (y ∷ other) a = (not_found x one y.sequence (eqb x.sequence y.sequence) a.0, apart_tail x one other a.1)

apart_behind : (q : ℕ) (one other : List Entry) → Apart one other → Apart one (behind_below q other)
apart_behind q one [] a = tt
apart_behind q one (y ∷ other) a =
    elim (ltb y.sequence q) as (λ b. Apart one (cond b (behind_below q other) (y ∷ other))) [ true ↦ apart_behind q one other a.1 | false ↦ a ]

apart_found_by : (one : List Entry) (y : Entry) (other : List Entry) (q : ℕ) (e : Entry) → Apart one (y ∷ other) → entry_with q (y ∷ other) ≡ Some e
    → (entry_with q other ≡ Some e → entry_with q one ≡ None) → (y.sequence ≡ q) ⊎ (y.sequence ≡ q → ⊥) → entry_with q one ≡ None
apart_found_by one y other q e a f rest (inl same) = ap (λ n. entry_with n one) (sym same) ∙ a.0
apart_found_by one y other q e a f rest (inr differs) = rest (sym (find_on y other q differs) ∙ f)

same_or_not : (a b : ℕ) → (a ≡ b) ⊎ (a ≡ b → ⊥)
same_or_not a b = grind arith

apart_found : (one other : List Entry) (q : ℕ) (e : Entry) → Apart one other → entry_with q other ≡ Some e → entry_with q one ≡ None
apart_found one [] q e a f = absurd (cc)
apart_found one (y ∷ other) q e a f = apart_found_by one y other q e a f (apart_found one other q e a.1) (same_or_not y.sequence q)

-- ---- what is found in both

-- what is found in front of the other list is not in the first
middle : (f a b all : Option Entry) → all ≡ option_or f b → ((e : Entry) → f ≡ Some e → a ≡ None) → option_or f (option_or a b) ≡ option_or a all
middle None a b all h none = ap (λ o. option_or a o) (sym h)
middle (Some e) a b all h none = sym h ∙ ap (λ o. option_or o all) (sym (none e refl))

in_front : (q s : ℕ) (other : List Entry) (e : Entry) → entry_with q (front_below s other) ≡ Some e → entry_with q other ≡ Some e
in_front q s other e h =
    ap (entry_with q) (sym (parted s other)) ∙ find-append (λ (e : Entry). eqb e.sequence q) (front_below s other) (behind_below s other)
    ∙ ap (λ o. option_or o (entry_with q (behind_below s other))) h

finds_by : (x : Entry) (one other : List Entry) (q : ℕ) → Apart (x ∷ one) other
    → entry_with q (joined one (behind_below x.sequence other)) ≡ option_or (entry_with q one) (entry_with q (behind_below x.sequence other))
    → (x.sequence ≡ q) ⊎ (x.sequence ≡ q → ⊥)
    → option_or (entry_with q (front_below x.sequence other)) (entry_with q (x ∷ joined one (behind_below x.sequence other))) ≡ option_or (entry_with q (x ∷ one)) (entry_with q other)
finds_by x one other q a rest (inl same) =
    ap₂ (λ (f n : Option Entry). option_or f n) (front_absent x.sequence q other (omega (arith, same))) (find_here x (joined one (behind_below x.sequence other)) q same)
    ∙ ap (λ o. option_or o (entry_with q other)) (sym (find_here x one q same))
finds_by x one other q a rest (inr differs) =
    ap (λ o. option_or (entry_with q (front_below x.sequence other)) o) (find_on x (joined one (behind_below x.sequence other)) q differs ∙ rest)
    ∙ middle (entry_with q (front_below x.sequence other)) (entry_with q one) (entry_with q (behind_below x.sequence other)) (entry_with q other)
    (ap (entry_with q) (sym (parted x.sequence other)) ∙ find-append (λ (e : Entry). eqb e.sequence q) (front_below x.sequence other) (behind_below x.sequence other))
    (λ e f. apart_found one other q e (apart_tail x one other a) (in_front q x.sequence other e f))
    ∙ ap (λ o. option_or o (entry_with q other)) (sym (find_on x one q differs))

pub joined_finds : (one other : List Entry) (q : ℕ) → Apart one other → entry_with q (joined one other) ≡ option_or (entry_with q one) (entry_with q other)
joined_finds [] other q a = refl
joined_finds (x ∷ one) other q a =
    find-append (λ (e : Entry). eqb e.sequence q) (front_below x.sequence other) (x ∷ joined one (behind_below x.sequence other))
    ∙ finds_by x one other q a (joined_finds one (behind_below x.sequence other) q (apart_behind x.sequence one other (apart_tail x one other a))) (same_or_not x.sequence q)

-- ---- their order

front_rises_by : (from : ℕ) (x : Entry) (rest : List Entry) (y : Entry) (other : List Entry) → from ≤ x.sequence → RisesFrom from (y ∷ other) → RisesFrom (x.sequence + 1) rest
    → (y.sequence + 1 ≤ x.sequence → RisesFrom (y.sequence + 1) (front_below x.sequence other ++ x ∷ rest)) → (y.sequence < x.sequence) ⊎ (x.sequence ≤ y.sequence)
    → RisesFrom from (front_below x.sequence (y ∷ other) ++ x ∷ rest)
front_rises_by from x rest y other l h r more (inl below) =
    let P : Bool → Type 0 = λ b. RisesFrom from (cond b (y ∷ front_below x.sequence other) [] ++ x ∷ rest) in
    subst P (sym (less y.sequence x.sequence below)) (h.0, more (omega (arith, below)))
front_rises_by from x rest y other l h r more (inr past) =
    let P : Bool → Type 0 = λ b. RisesFrom from (cond b (y ∷ front_below x.sequence other) [] ++ x ∷ rest) in
    subst P (sym (not_less y.sequence x.sequence past)) (l, r)

front_rises : (from : ℕ) (x : Entry) (rest other : List Entry) → from ≤ x.sequence → RisesFrom from other → RisesFrom (x.sequence + 1) rest
    → RisesFrom from (front_below x.sequence other ++ x ∷ rest)
front_rises from x rest [] l h r = (l, r)
front_rises from x rest (y ∷ other) l h r =
    front_rises_by from x rest y other l h r (λ m. front_rises (y.sequence + 1) x rest other m h.1 r) (side y.sequence x.sequence)

behind_rises_by : (from : ℕ) (x : Entry) (one : List Entry) (y : Entry) (other : List Entry) → RisesFrom from (y ∷ other) → Apart (x ∷ one) (y ∷ other)
    → RisesFrom (x.sequence + 1) (behind_below x.sequence other) → (y.sequence < x.sequence) ⊎ (x.sequence ≤ y.sequence) → RisesFrom (x.sequence + 1) (behind_below x.sequence (y ∷ other))
behind_rises_by from x one y other h a more (inl below) =
    let P : Bool → Type 0 = λ b. RisesFrom (x.sequence + 1) (cond b (behind_below x.sequence other) (y ∷ other)) in
    subst P (sym (less y.sequence x.sequence below)) more
behind_rises_by from x one y other h a more (inr past) =
    let P : Bool → Type 0 = λ b. RisesFrom (x.sequence + 1) (cond b (behind_below x.sequence other) (y ∷ other)) in
    let differs : x.sequence ≡ y.sequence → ⊥ = λ s. let both : Some x ≡ None = sym (find_here x one y.sequence s) ∙ a.0 in absurd (cc) in
    subst P (sym (not_less y.sequence x.sequence past)) (omega (arith, past, differs), h.1)

behind_rises : (from : ℕ) (x : Entry) (one other : List Entry) → RisesFrom from other → Apart (x ∷ one) other → RisesFrom (x.sequence + 1) (behind_below x.sequence other)
behind_rises from x one [] h a = tt
behind_rises from x one (y ∷ other) h a = behind_rises_by from x one y other h a (behind_rises (y.sequence + 1) x one other h.1 a.1) (side y.sequence x.sequence)

pub joined_rises : (from : ℕ) (one other : List Entry) → RisesFrom from one → RisesFrom from other → Apart one other → RisesFrom from (joined one other)
joined_rises from [] other h k a = k
joined_rises from (x ∷ one) other h k a =
    front_rises from x (joined one (behind_below x.sequence other)) other h.0 k
    (joined_rises (x.sequence + 1) one (behind_below x.sequence other) h.1 (behind_rises from x one other k a) (apart_behind x.sequence one other (apart_tail x one other a)))

-- ---- what the first lacks

lacking_apart_by : (one : List Entry) (x : Entry) (other : List Entry) (o : Option Entry) → entry_with x.sequence one ≡ o → Apart one (lacking one other)
    → Apart one (cond (not (is_some o)) (x ∷ lacking one other) (lacking one other))
lacking_apart_by one x other None e a = (e, a)
lacking_apart_by one x other (Some y) e a = a

pub lacking_apart : (one other : List Entry) → Apart one (lacking one other)
lacking_apart one [] = tt
lacking_apart one (x ∷ other) = lacking_apart_by one x other (entry_with x.sequence one) refl (lacking_apart one other)

lacking_finds_by : (one : List Entry) (x : Entry) (other : List Entry) (q : ℕ) (o : Option Entry) → entry_with x.sequence one ≡ o → entry_with q one ≡ None
    → entry_with q (lacking one other) ≡ entry_with q other → (x.sequence ≡ q) ⊎ (x.sequence ≡ q → ⊥)
    → entry_with q (cond (not (is_some o)) (x ∷ lacking one other) (lacking one other)) ≡ entry_with q (x ∷ other)
lacking_finds_by one x other q None e none rest (inl same) = find_here x (lacking one other) q same ∙ sym (find_here x other q same)
lacking_finds_by one x other q (Some y) e none rest (inl same) = let both : Some y ≡ None = sym e ∙ ap (λ n. entry_with n one) same ∙ none in absurd (cc)
lacking_finds_by one x other q None e none rest (inr differs) = find_on x (lacking one other) q differs ∙ rest ∙ sym (find_on x other q differs)
lacking_finds_by one x other q (Some y) e none rest (inr differs) = rest ∙ sym (find_on x other q differs)

pub lacking_finds : (one other : List Entry) (q : ℕ) → entry_with q one ≡ None → entry_with q (lacking one other) ≡ entry_with q other
lacking_finds one [] q none = refl
lacking_finds one (x ∷ other) q none = lacking_finds_by one x other q (entry_with x.sequence one) refl none (lacking_finds one other q none) (same_or_not x.sequence q)

or_lacking : (a b c : Option Entry) → (a ≡ None → b ≡ c) → option_or a b ≡ option_or a c
or_lacking None b c h = h refl
or_lacking (Some e) b c h = refl

-- what either has is in the two joined
pub merged_finds : (one other : List Entry) (q : ℕ) → entry_with q (joined one (lacking one other)) ≡ option_or (entry_with q one) (entry_with q other)
merged_finds one other q =
    joined_finds one (lacking one other) q (lacking_apart one other)
    ∙ or_lacking (entry_with q one) (entry_with q (lacking one other)) (entry_with q other) (lacking_finds one other q)

pub merged_rises : (from : ℕ) (one other : List Entry) → RisesFrom from one → RisesFrom from other → RisesFrom from (joined one (lacking one other))
merged_rises from one other h k = joined_rises from one (lacking one other) h (rises_filter (λ (e : Entry). not (is_some (entry_with e.sequence one))) from other k) (lacking_apart one other)

-- ---- the last

within_by : (low from : ℕ) (es : List Entry) (q : ℕ) (e : Entry) → RisesFrom from es → entry_with q es ≡ Some e → (last_from low es < q) ⊎ (q ≤ last_from low es) → q ≤ last_from low es
within_by low from es q e h f (inl above) = let none = absent_above low from es q h above in absurd (cc)
within_by low from es q e h f (inr at) = at

within : (low from : ℕ) (es : List Entry) (q : ℕ) (e : Entry) → RisesFrom from es → entry_with q es ≡ Some e → q ≤ last_from low es
within low from es q e h f = within_by low from es q e h f (side (last_from low es) q)

-- where all that is found in a list is found in another, its last is not above the other's
last_at_most_by : (low from : ℕ) (es others : List Entry) → low ≤ from → RisesFrom from es → RisesFrom from others
    → ((q : ℕ) (e : Entry) → entry_with q es ≡ Some e → (f : Entry) × (entry_with q others ≡ Some f))
    → (last_from low es ≡ low) ⊎ ((e : Entry) × (entry_with (last_from low es) es ≡ Some e)) → last_from low es ≤ last_from low others
last_at_most_by low from es others l h k all (inl same) = let least = last_above low from others l k in omega (arith, same, least)
last_at_most_by low from es others l h k all (inr n) = let there = all (last_from low es) n.0 n.1 in within low from others (last_from low es) there.0 k there.1

pub last_at_most : (low from : ℕ) (es others : List Entry) → low ≤ from → RisesFrom from es → RisesFrom from others
    → ((q : ℕ) (e : Entry) → entry_with q es ≡ Some e → (f : Entry) × (entry_with q others ≡ Some f)) → last_from low es ≤ last_from low others
last_at_most low from es others l h k all = last_at_most_by low from es others l h k all (found_last low es from h)

either_has : (a b : Option Entry) (e : Entry) → option_or a b ≡ Some e → (a ≡ Some e) ⊎ (b ≡ Some e)
either_has None b e h = inr h
either_has (Some x) b e h = inl h

first_has : (a b : Option Entry) (e : Entry) → a ≡ Some e → (f : Entry) × (option_or a b ≡ Some f)
first_has a b e h = (e, ap (λ o. option_or o b) h)

second_has : (a b : Option Entry) (e : Entry) → b ≡ Some e → (f : Entry) × (option_or a b ≡ Some f)
second_has None b e h = (e, h)
second_has (Some x) b e h = (x, refl)

merged_last_by : (low from : ℕ) (one other : List Entry) → low ≤ from → RisesFrom from one → RisesFrom from other
    → (last_from low (joined one (lacking one other)) ≡ low) ⊎ ((e : Entry) × (entry_with (last_from low (joined one (lacking one other))) (joined one (lacking one other)) ≡ Some e))
    → last_from low (joined one (lacking one other)) ≤ max (last_from low one) (last_from low other)
merged_last_by low from one other l h k (inl same) = let least = last_above low from one l h in omega (arith, same, least)
merged_last_by low from one other l h k (inr n) =
    let q = last_from low (joined one (lacking one other)) in
    elim (either_has (entry_with q one) (entry_with q other) n.0 (sym (merged_finds one other q) ∙ n.1))
    [ inl a ↦ (let w = within low from one q n.0 h a in omega (arith, w)) | inr b ↦ (let w = within low from other q n.0 k b in omega (arith, w)) ]

pub merged_last : (low from : ℕ) (one other : List Entry) → low ≤ from → RisesFrom from one → RisesFrom from other
    → last_from low (joined one (lacking one other)) ≡ max (last_from low one) (last_from low other)
merged_last low from one other l h k =
    let all = joined one (lacking one other) in
    let up = merged_last_by low from one other l h k (found_last low all from (merged_rises from one other h k)) in
    let first = last_at_most low from one all l h (merged_rises from one other h k)
    (λ q e f. let g = first_has (entry_with q one) (entry_with q other) e f in (g.0, merged_finds one other q ∙ g.1)) in
    let second = last_at_most low from other all l k (merged_rises from one other h k)
    (λ q e f. let g = second_has (entry_with q one) (entry_with q other) e f in (g.0, merged_finds one other q ∙ g.1)) in
    omega (arith, up, first, second)

-- two mirrors of one start, joined
pub merged : (one other new : Mirrored) → IsMirror one → IsMirror other → one.start ≡ other.start → new ≡ record { start = one.start; entries = joined one.entries (lacking one.entries other.entries) }
    → IsMerged one other new
merged one other new h k same is =
    let mine : RisesFrom one.start other.entries = weaker one.start other.start other.entries (omega (arith, same)) k.1 in
    subst (λ n. IsMerged one other n) (sym is) (record {
      start = refl;
      entries = merged_finds one.entries other.entries;
      last = merged_last (one.start - 1) one.start one.entries other.entries (omega arith) h.1 mine ∙ ap (λ s. max (last_from (one.start - 1) one.entries) (last_from (s - 1) other.entries)) same;
    })

-- ---- one more entry

-- an entry in front that is below the sequence moves
pub move_more : (q : ℕ) (x : Entry) (items rest all done done_now : List Entry) → items ≡ x ∷ rest → x.sequence < q → done_now ≡ done ++ x ∷ [] → done ++ front_below q items ≡ all
    → done_now ++ front_below q rest ≡ all
move_more q x items rest all done done_now first below pushed h =
    ap (λ (d : List Entry). d ++ front_below q rest) pushed ∙ append_assoc done (x ∷ []) (front_below q rest)
    ∙ ap (λ (b : Bool). done ++ cond b (x ∷ front_below q rest) []) (sym (less x.sequence q below)) ∙ ap (λ (i : List Entry). done ++ front_below q i) (sym first) ∙ h

pub left_more : (q : ℕ) (x : Entry) (items rest all : List Entry) → items ≡ x ∷ rest → x.sequence < q → behind_below q items ≡ all → behind_below q rest ≡ all
left_more q x items rest all first below h =
    ap (λ (b : Bool). cond b (behind_below q rest) (x ∷ rest)) (sym (less x.sequence q below)) ∙ ap (behind_below q) (sym first) ∙ h

-- where none in front is below it, all are left
pub none_below : (q : ℕ) (items : List Entry) → front_below q items ≡ [] → behind_below q items ≡ items
none_below q items h = ap (λ (f : List Entry). f ++ behind_below q items) (sym h) ∙ parted q items

-- the same, of mirrors that are known by equations
pub merged_view : (one other m n : Mirrored) (items : List Entry) → one ≡ m → other ≡ n → IsMirror one → IsMirror other → m.start ≡ n.start → items ≡ joined one.entries (lacking one.entries other.entries)
    → IsMerged m n (record { start = one.start; entries = items })
merged_view one other m n items is is_other h k same added =
    let starts : one.start ≡ other.start = ap (λ (m : Mirrored). m.start) is ∙ same ∙ sym (ap (λ (m : Mirrored). m.start) is_other) in
    subst (λ (m : Mirrored). IsMerged m n (record { start = one.start; entries = items })) is
    (subst (λ (n : Mirrored). IsMerged one n (record { start = one.start; entries = items })) is_other
    (merged one other (record { start = one.start; entries = items }) h k starts (ap (λ (es : List Entry). record { start = one.start; entries = es }) added)))

pub rises_merged : (one other m n : Mirrored) (items : List Entry) → one ≡ m → other ≡ n → IsMirror one → IsMirror other → m.start ≡ n.start → items ≡ joined one.entries (lacking one.entries other.entries)
    → RisesFrom one.start items
rises_merged one other m n items is is_other h k same added =
    let starts : one.start ≡ other.start = ap (λ (m : Mirrored). m.start) is ∙ same ∙ sym (ap (λ (m : Mirrored). m.start) is_other) in
    subst (λ (es : List Entry). RisesFrom one.start es) (sym added)
    (merged_rises one.start one.entries other.entries h.1 (weaker one.start other.start other.entries (omega (arith, starts)) k.1))
