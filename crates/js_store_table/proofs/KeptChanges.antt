-- Changes less those that were overtaken have the same table.
use Rattle.std.proofs.Common.{◌≡◌, ℕ, suc, ◌+◌, ◌-◌, ◌<◌, ◌≤◌, nat_cmp, List, [], ◌∷◌, ◌++◌, length, Bool, true, false, cond, ◌⊎◌, inl, inr, refl, sym, ap, ◌∙◌, subst, arith, map, drop}
use Rattle.std.specs.Prelude.{fold}
use Rattle.std.specs.Str.{bytes_eq}
use Rattle.std.specs.Cmp.Lexicographic.{slice_cmp, bytes_decides}
use Rattle.std.specs.BTreeSet.{insert_key}
use Rattle.std.proofs.Math.Seq.{drop-length}
use Rattle.std.proofs.lemmas.Cmp.{nat_list_cmp_total}
use Rattle.std.proofs.lemmas.List.{drop-append-le, drop-drop, length-drop, length_push}
use Rattle.std.proofs.lemmas.Map.Lookups.{exact_bytes}
use Rattle.js_event_log.proofs.KeyInsertion as insertion
use Rattle.js_store_keys.specs.declared.entry.Entry.{Entry}
use Rattle.js_store_keys.specs.declared.operation.Operation.{Operation}
use Rattle.js_store_keys.specs.declared.operation.Operation.TheVariants.{Put, Delete, Purge}
use Rattle.js_store_table.specs.BucketLog.{HasPurge, Overtake, IsOvertaken, KeepsTable}
use Rattle.js_store_table.specs.KeyHistory.{overtaken, with_entry, changes_of, history_of}
use Rattle.js_store_table.specs.TableRows.{KeyRows, IsTable, most}
use Rattle.js_store_table.proofs.Histories.{bounded_with}

-- ---- what a purge leaves

purge_alone : (h : ℕ) (e : Entry) (kept : List Entry) → e.operation ≡ Purge → with_entry h kept e ≡ e ∷ []
purge_alone h e kept is = ap (λ o. drop (overtaken h o (length kept)) kept ++ e ∷ []) is ∙ ap (λ (k : List Entry). k ++ e ∷ []) (drop-length kept)

forgets_purge : (h : ℕ) (es one two : List Entry) → HasPurge es → fold (with_entry h) one es ≡ fold (with_entry h) two es
forgets_purge h [] one two has = absurd has
forgets_purge h (e ∷ es) one two (inl is) = ap (λ k. fold (with_entry h) k es) (purge_alone h e one is ∙ sym (purge_alone h e two is))
forgets_purge h (e ∷ es) one two (inr has) = forgets_purge h es (with_entry h one e) (with_entry h two e) has

-- ---- what a full history leaves

-- the last entries, as many as that
abbrev newest : ℕ → List Entry → List Entry
newest count kept = drop (length kept - count) kept

all_newest : (count : ℕ) (kept : List Entry) → length kept ≤ count → newest count kept ≡ kept
all_newest count kept l = let none : length kept - count ≡ 0 = omega (arith, l) in ap (λ n. drop n kept) none

newest_newest : (j m : ℕ) (kept : List Entry) → j ≤ m → newest j (newest m kept) ≡ newest j kept
newest_newest j m kept l =
    let whole : length (drop (length kept - m) kept) ≡ length kept - (length kept - m) = length-drop (length kept - m) kept in
    let both : (length kept - m) + (length (drop (length kept - m) kept) - j) ≡ length kept - j = omega (arith, whole, l) in
    drop-drop (length (drop (length kept - m) kept) - j) (length kept - m) kept ∙ ap (λ n. drop n kept) both

newest_push : (j : ℕ) (kept : List Entry) (e : Entry) → newest (suc j) (kept ++ e ∷ []) ≡ newest j kept ++ e ∷ []
newest_push j kept e =
    let count : length (kept ++ e ∷ []) - suc j ≡ length kept - j = omega (arith, length_push kept e) in
    ap (λ n. drop n (kept ++ e ∷ [])) count ∙ drop-append-le (length kept - j) kept (e ∷ []) (omega arith)

-- one more entry, where so many of the last ones are known
-- a value or a deletion stands behind the last entries
newest_side : (h j : ℕ) (e : Entry) (kept : List Entry) → j ≤ h - 1 → overtaken h e.operation (length kept) ≡ length kept - (h - 1)
    → newest (suc j) (with_entry h kept e) ≡ newest j kept ++ e ∷ []
newest_side h j e kept l count =
    ap (λ n. newest (suc j) (drop n kept ++ e ∷ [])) count
    ∙ newest_push j (newest (h - 1) kept) e
    ∙ ap (λ (k : List Entry). k ++ e ∷ []) (newest_newest j (h - 1) kept l)

newest_with : (h j : ℕ) (e : Entry) (one two : List Entry) → j ≤ h - 1 → newest j one ≡ newest j two
    → (o : Operation) → e.operation ≡ o → newest (suc j) (with_entry h one e) ≡ newest (suc j) (with_entry h two e)
newest_with h j e one two l same Purge is = ap (λ k. newest (suc j) k) (purge_alone h e one is ∙ sym (purge_alone h e two is))
newest_with h j e one two l same Put is =
    newest_side h j e one l (ap (λ o. overtaken h o (length one)) is) ∙ ap (λ (k : List Entry). k ++ e ∷ []) same
    ∙ sym (newest_side h j e two l (ap (λ o. overtaken h o (length two)) is))
newest_with h j e one two l same Delete is =
    newest_side h j e one l (ap (λ o. overtaken h o (length one)) is) ∙ ap (λ (k : List Entry). k ++ e ∷ []) same
    ∙ sym (newest_side h j e two l (ap (λ o. overtaken h o (length two)) is))

le_or : (a b : ℕ) → (a ≤ b) ⊎ (b < a)
le_or a b = grind arith

forgets_from : (h j : ℕ) (es one two : List Entry) → length one ≤ most h → length two ≤ most h → newest j one ≡ newest j two → most h ≤ j + length es
    → fold (with_entry h) one es ≡ fold (with_entry h) two es
forgets_from h j [] one two l m same full = sym (all_newest j one (omega (arith, l, full))) ∙ same ∙ all_newest j two (omega (arith, m, full))
forgets_from h j (e ∷ es) one two l m same full =
    by_room (λ known. forgets_from h (suc j) es (with_entry h one e) (with_entry h two e) (bounded_with h one e l) (bounded_with h two e m) known (omega (arith, full)))
    (le_or j (h - 1))
  where
    by_room : (newest (suc j) (with_entry h one e) ≡ newest (suc j) (with_entry h two e) → fold (with_entry h) (with_entry h one e) es ≡ fold (with_entry h) (with_entry h two e) es)
        → (j ≤ h - 1) ⊎ (h - 1 < j) → fold (with_entry h) one (e ∷ es) ≡ fold (with_entry h) two (e ∷ es)
    by_room goes (inl room) = goes (newest_with h j e one two room same e.operation refl)
    by_room goes (inr over) = ap (λ k. fold (with_entry h) k (e ∷ es)) (sym (all_newest j one (omega (arith, l, over))) ∙ same ∙ all_newest j two (omega (arith, m, over)))

none_newest : (kept : List Entry) → newest 0 kept ≡ []
none_newest kept = let all : length kept - 0 ≡ length kept = omega arith in ap (λ n. drop n kept) all ∙ drop-length kept

-- changes that overtake leave the same of any earlier ones
forgets : (h : ℕ) (es one two : List Entry) → length one ≤ most h → length two ≤ most h → Overtake h es → fold (with_entry h) one es ≡ fold (with_entry h) two es
forgets h es one two l m (inl has) = forgets_purge h es one two has
forgets h es one two l m (inr full) = forgets_from h 0 es one two l m (none_newest one ∙ sym (none_newest two)) (omega (arith, full))

-- ---- histories

with_changes : (h : ℕ) (key : List ℕ) (e : Entry) (log kept : List Entry) → (b : Bool) → bytes_eq e.key key ≡ b
    → fold (with_entry h) kept (changes_of key (e ∷ log)) ≡ fold (with_entry h) (cond b (with_entry h kept e) kept) (changes_of key log)
with_changes h key e log kept true is = ap (λ b. fold (with_entry h) kept (cond b (e ∷ changes_of key log) (changes_of key log))) is
with_changes h key e log kept false is = ap (λ b. fold (with_entry h) kept (cond b (e ∷ changes_of key log) (changes_of key log))) is

bounded_cond : (h : ℕ) (e : Entry) (kept : List Entry) → length kept ≤ most h → (b : Bool) → length (cond b (with_entry h kept e) kept) ≤ most h
bounded_cond h e kept l true = bounded_with h kept e l
bounded_cond h e kept l false = l

-- a change that was overtaken leaves nothing
left_out : (h : ℕ) (key : List ℕ) (e : Entry) (log kept : List Entry) → length kept ≤ most h → IsOvertaken h e log → (b : Bool) → bytes_eq e.key key ≡ b
    → fold (with_entry h) kept (changes_of key log) ≡ fold (with_entry h) (cond b (with_entry h kept e) kept) (changes_of key log)
left_out h key e log kept l over true is =
    let same : e.key ≡ key = (bytes_decides e.key key).0 is in
    forgets h (changes_of key log) kept (with_entry h kept e) l (bounded_with h kept e l) (subst (λ k. Overtake h (changes_of k log)) same over)
left_out h key e log kept l over false is = refl

same_history_from : (h : ℕ) (key : List ℕ) (log told kept : List Entry) → length kept ≤ most h → KeepsTable h log told
    → fold (with_entry h) kept (changes_of key told) ≡ fold (with_entry h) kept (changes_of key log)
same_history_from h key [] told kept l keeps = ap (λ es. fold (with_entry h) kept (changes_of key es)) keeps
same_history_from h key (e ∷ log) told kept l (inl (rest, is, keeps)) =
    let b = bytes_eq e.key key in
    ap (λ es. fold (with_entry h) kept (changes_of key es)) is
    ∙ with_changes h key e rest kept b refl
    ∙ same_history_from h key log rest (cond b (with_entry h kept e) kept) (bounded_cond h e kept l b) keeps
    ∙ sym (with_changes h key e log kept b refl)
same_history_from h key (e ∷ log) told kept l (inr (over, keeps)) =
    let b = bytes_eq e.key key in
    same_history_from h key log told kept l keeps
    ∙ left_out h key e log kept l over b refl
    ∙ sym (with_changes h key e log kept b refl)

pub same_history : (h : ℕ) (key : List ℕ) (log told : List Entry) → KeepsTable h log told → history_of h key told ≡ history_of h key log
same_history h key log told keeps = same_history_from h key log told [] (omega arith) keeps

-- ---- keys

abbrev key_list : List Entry → List (List ℕ)
key_list es = map (λ (e : Entry). e.key) es

abbrev insert : List (List ℕ) → List ℕ → List (List ℕ)
insert = insert_key (slice_cmp nat_cmp)

purge_some : (es : List Entry) → HasPurge es → 0 < length es
purge_some [] has = absurd has
purge_some (e ∷ es) has = omega arith

overtake_some : (h : ℕ) (es : List Entry) → Overtake h es → 0 < length es
overtake_some h es (inl has) = purge_some es has
overtake_some h es (inr full) = omega (arith, full)

changed_key : (key : List ℕ) (es : List Entry) → 0 < length (changes_of key es) → insertion.IsAmong key (key_list es)
changed_key key [] some = absurd (omega (arith, some))
changed_key key (e ∷ es) some = by_test (changed_key key es) (bytes_eq e.key key) refl some
  where
    by_test : (0 < length (changes_of key es) → insertion.IsAmong key (key_list es)) → (b : Bool) → bytes_eq e.key key ≡ b
        → 0 < length (cond b (e ∷ changes_of key es) (changes_of key es)) → insertion.IsAmong key (key_list (e ∷ es))
    by_test goes true is some = inl ((bytes_decides e.key key).0 is)
    by_test goes false is some = inr (goes some)

same_keys_from : (h : ℕ) (log told : List Entry) (done : List (List ℕ)) → KeepsTable h log told → fold insert done (key_list told) ≡ fold insert done (key_list log)
same_keys_from h [] told done keeps = ap (λ es. fold insert done (key_list es)) keeps
same_keys_from h (e ∷ log) told done (inl (rest, is, keeps)) = ap (λ es. fold insert done (key_list es)) is ∙ same_keys_from h log rest (insert done e.key) keeps
same_keys_from h (e ∷ log) told done (inr (over, keeps)) =
    let ks = key_list log in
    same_keys_from h log told done keeps
    ∙ sym (insertion.insert_again (slice_cmp nat_cmp) nat_list_cmp_total exact_bytes ks done e.key (changed_key e.key log (overtake_some h (changes_of e.key log) over)))
    ∙ sym (insertion.insert_last (slice_cmp nat_cmp) nat_list_cmp_total exact_bytes ks done e.key)

-- ---- the table

pub same_table : (h : ℕ) (log told : List Entry) (rows : KeyRows) → KeepsTable h log told → IsTable h rows told → IsTable h rows log
same_table h log told rows keeps is = record {
  keys = is.keys ∙ same_keys_from h log told [] keeps;
  histories = λ key. is.histories key ∙ same_history h key log told keeps;
}
