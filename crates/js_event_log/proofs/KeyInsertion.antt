-- Keys that are inserted in an order: their turn does not matter, and a key that stands changes nothing.
use Rattle.std.proofs.Common.{◌≡◌, List, [], ◌∷◌, ◌⊎◌, inl, inr, refl, sym, ap, ◌∙◌, subst, Ordering, Less, Equal, Greater}
use Rattle.std.specs.Prelude.{fold}
use Rattle.std.specs.Cmp.{IsTotalOrder}
use Rattle.std.specs.Ordering.{match_ordering, ordering_reverse}
use Rattle.std.specs.BTreeSet.{insert_key}
use Rattle.std.proofs.lemmas.Map.Lookups.{CmpEqualImpliesEq}

-- one of the keys is this one
abbrev pub IsAmong : {K : Type 0} → K → List K → Type 0
IsAmong k [] = ⊥
IsAmong k (x ∷ xs) = (x ≡ k) ⊎ IsAmong k xs

equal_itself : (o : Ordering) → o ≡ ordering_reverse o → o ≡ Equal
equal_itself Less h = cc
equal_itself Equal h = refl
equal_itself Greater h = cc

module _ {K : Type 0} (cmp : K → K → Ordering) (laws : IsTotalOrder cmp) (exact : CmpEqualImpliesEq cmp) where
  abbrev insert : List K → K → List K
  insert = insert_key cmp

  itself : (k : K) → cmp k k ≡ Equal
  itself k = equal_itself (cmp k k) (laws.antisymm k k)

  -- the order of two keys, read the other way
  turned : (a b : K) (o : Ordering) → cmp a b ≡ o → cmp b a ≡ ordering_reverse o
  turned a b o is = laws.antisymm b a ∙ ap ordering_reverse is

  -- two keys before the others
  swapped : (a b : K) (xs : List K) (o : Ordering) → cmp a b ≡ o
      → match_ordering (cmp b a) (b ∷ a ∷ xs) (a ∷ xs) (a ∷ b ∷ xs) ≡ match_ordering (cmp a b) (a ∷ b ∷ xs) (b ∷ xs) (b ∷ a ∷ xs)
  swapped a b xs Less is = rw (is, turned a b Less is) refl
  swapped a b xs Equal is = rw (is, turned a b Equal is) (ap (λ k. k ∷ xs) (exact a b is))
  swapped a b xs Greater is = rw (is, turned a b Greater is) refl

  insert_cons : (x : K) (xs : List K) (k : K) (o : Ordering) → cmp k x ≡ o → insert (x ∷ xs) k ≡ match_ordering o (k ∷ x ∷ xs) (x ∷ xs) (x ∷ insert xs k)
  insert_cons x xs k o is = ap (λ r. match_ordering r (k ∷ x ∷ xs) (x ∷ xs) (x ∷ insert xs k)) is

  -- a key before the first one, and one at it or behind it
  before_after : (x a b : K) (xs : List K) → cmp a x ≡ Less → (o : Ordering) → cmp b x ≡ o → (o ≡ Less → ⊥) → insert (insert (x ∷ xs) a) b ≡ insert (insert (x ∷ xs) b) a
  before_after x a b xs less Less is never = absurd (never refl)
  before_after x a b xs less Equal is never =
      let same : b ≡ x = exact b x is in
      let over : cmp b a ≡ Greater = subst (λ k. cmp k a ≡ Greater) (sym same) (turned a x Less less) in
      ap (λ ys. insert ys b) (insert_cons x xs a Less less) ∙ insert_cons a (x ∷ xs) b Greater over ∙ ap (λ ys. a ∷ ys) (insert_cons x xs b Equal is)
      ∙ sym (ap (λ ys. insert ys a) (insert_cons x xs b Equal is) ∙ insert_cons x xs a Less less)
  before_after x a b xs less Greater is never =
      let over : cmp b a ≡ Greater = turned a b Less (laws.trans a x b less (turned b x Greater is)) in
      ap (λ ys. insert ys b) (insert_cons x xs a Less less) ∙ insert_cons a (x ∷ xs) b Greater over ∙ ap (λ ys. a ∷ ys) (insert_cons x xs b Greater is)
      ∙ sym (ap (λ ys. insert ys a) (insert_cons x xs b Greater is) ∙ insert_cons x (insert xs b) a Less less)

  pub insert_turns : (xs : List K) (a b : K) → insert (insert xs a) b ≡ insert (insert xs b) a
  insert_turns [] a b = swapped a b [] (cmp a b) refl
  insert_turns (x ∷ xs) a b = by_order (insert_turns xs a b) (cmp a x) (cmp b x) refl refl
    where
      by_order : insert (insert xs a) b ≡ insert (insert xs b) a → (o r : Ordering) → cmp a x ≡ o → cmp b x ≡ r → insert (insert (x ∷ xs) a) b ≡ insert (insert (x ∷ xs) b) a
      by_order rest Less Less one two =
          ap (λ ys. insert ys b) (insert_cons x xs a Less one) ∙ ap (λ ys. match_ordering (cmp b a) (b ∷ a ∷ x ∷ xs) (a ∷ x ∷ xs) (a ∷ ys)) (insert_cons x xs b Less two)
          ∙ swapped a b (x ∷ xs) (cmp a b) refl
          ∙ sym (ap (λ ys. insert ys a) (insert_cons x xs b Less two) ∙ ap (λ ys. match_ordering (cmp a b) (a ∷ b ∷ x ∷ xs) (b ∷ x ∷ xs) (b ∷ ys)) (insert_cons x xs a Less one))
      by_order rest Less Equal one two = before_after x a b xs one Equal two (λ e. cc)
      by_order rest Less Greater one two = before_after x a b xs one Greater two (λ e. cc)
      by_order rest Equal Less one two = sym (before_after x b a xs two Equal one (λ e. cc))
      by_order rest Greater Less one two = sym (before_after x b a xs two Greater one (λ e. cc))
      by_order rest Equal Equal one two =
          ap (λ ys. insert ys b) (insert_cons x xs a Equal one) ∙ insert_cons x xs b Equal two ∙ sym (ap (λ ys. insert ys a) (insert_cons x xs b Equal two) ∙ insert_cons x xs a Equal one)
      by_order rest Equal Greater one two =
          ap (λ ys. insert ys b) (insert_cons x xs a Equal one) ∙ insert_cons x xs b Greater two
          ∙ sym (ap (λ ys. insert ys a) (insert_cons x xs b Greater two) ∙ insert_cons x (insert xs b) a Equal one)
      by_order rest Greater Equal one two =
          ap (λ ys. insert ys b) (insert_cons x xs a Greater one) ∙ insert_cons x (insert xs a) b Equal two
          ∙ sym (ap (λ ys. insert ys a) (insert_cons x xs b Equal two) ∙ insert_cons x xs a Greater one)
      by_order rest Greater Greater one two =
          ap (λ ys. insert ys b) (insert_cons x xs a Greater one) ∙ insert_cons x (insert xs a) b Greater two ∙ ap (λ ys. x ∷ ys) rest
          ∙ sym (ap (λ ys. insert ys a) (insert_cons x xs b Greater two) ∙ insert_cons x (insert xs b) a Greater one)

  -- a key that was inserted stands
  insert_twice : (xs : List K) (a : K) → insert (insert xs a) a ≡ insert xs a
  insert_twice [] a = insert_cons a [] a Equal (itself a)
  insert_twice (x ∷ xs) a = by_order (insert_twice xs a) (cmp a x) refl
    where
      by_order : insert (insert xs a) a ≡ insert xs a → (o : Ordering) → cmp a x ≡ o → insert (insert (x ∷ xs) a) a ≡ insert (x ∷ xs) a
      by_order rest Less is = ap (λ ys. insert ys a) (insert_cons x xs a Less is) ∙ insert_cons a (x ∷ xs) a Equal (itself a) ∙ sym (insert_cons x xs a Less is)
      by_order rest Equal is = ap (λ ys. insert ys a) (insert_cons x xs a Equal is)
      by_order rest Greater is =
          ap (λ ys. insert ys a) (insert_cons x xs a Greater is) ∙ insert_cons x (insert xs a) a Greater is ∙ ap (λ ys. x ∷ ys) rest ∙ sym (insert_cons x xs a Greater is)

  -- a key may be inserted first or last
  pub insert_last : (ks xs : List K) (a : K) → fold insert (insert xs a) ks ≡ insert (fold insert xs ks) a
  insert_last [] xs a = refl
  insert_last (k ∷ ks) xs a = ap (λ ys. fold insert ys ks) (insert_turns xs a k) ∙ insert_last ks (insert xs k) a

  -- a key that is among the others changes nothing
  pub insert_again : (ks xs : List K) (a : K) → IsAmong a ks → insert (fold insert xs ks) a ≡ fold insert xs ks
  insert_again [] xs a among = absurd among
  insert_again (k ∷ ks) xs a (inr among) = insert_again ks (insert xs k) a among
  insert_again (k ∷ ks) xs a (inl same) =
      subst (λ b. insert (fold insert (insert xs k) ks) b ≡ fold insert (insert xs k) ks) same
      (ap (λ ys. insert ys k) (insert_last ks xs k) ∙ insert_twice (fold insert xs ks) k ∙ sym (insert_last ks xs k))
