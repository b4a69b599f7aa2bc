-- The rows of a table, one entry after another.
use Rattle.std.proofs.Common.{◌≡◌, ℕ, nat_cmp, List, [], ◌∷◌, ◌++◌, zero, suc, Bool, true, false, cond, refl, sym, ap, ◌∙◌, subst, map, drop, append-nil, Option, Some, None, Result, Ok, Err, Ordering, Less, Equal, Greater}
use Rattle.std.specs.Prelude.{String, string_bytes, string_cmp, IsSome, is_some, OnOk, OnErr}
use Rattle.std.specs.declared.alloc.Global.{Global}
use Rattle.std.specs.Str.{bytes_eq}
use Rattle.std.specs.List.{AllByRecursion}
use Rattle.std.specs.List.Sorted.{IsStrictlySortedBy}
use Rattle.std.specs.Cmp.Lexicographic.{slice_cmp, bytes_decides, nat_list_cmp_total}
use Rattle.std.specs.Ordering.{match_ordering, is_eq}
use Rattle.std.specs.Map.{lookup, keys_of}
use Rattle.std.specs.BTreeMap.{insert_entry, is_at, get_by_text, IsOrdered, Updates, UpdatesBy, WritesThrough}
use Rattle.std.specs.BTreeSet.{insert_key}
use Rattle.std.proofs.lemmas.Map.Text.{btree_map_updates_text, text_cmp}
use Rattle.js_store_keys.specs.declared.entry.Entry.{Entry}
use Rattle.js_store_table.specs.KeyHistory.{overtaken, with_entry}
use Rattle.js_store_table.specs.TableRows.{KeyRows, names, kept_in, entries_at, IsTable, Notes, IsSame}
use Rattle.js_store_table.proofs.Histories.{keys_push, history_push}

abbrev Pairs : Type 0
Pairs = List (String Global × List Entry)

-- ---- the keys

abbrev texts : Pairs → List (List ℕ)
texts ps = map string_bytes (keys_of ps)

texts-match : (o : Ordering) (a b c : Pairs) → texts (match_ordering o a b c) ≡ match_ordering o (texts a) (texts b) (texts c)
texts-match Less a b c = refl
texts-match Equal a b c = refl
texts-match Greater a b c = refl

texts-insert : (ps : Pairs) (k : String Global) (v : List Entry) → texts (insert_entry string_cmp ps k v) ≡ insert_key (slice_cmp nat_cmp) (texts ps) (string_bytes k)
texts-insert [] k v = refl
texts-insert (p ∷ ps) k v =
    texts-match (string_cmp k p.0) _ _ _
    ∙ ap (λ rest. match_ordering (string_cmp k p.0) (string_bytes k ∷ string_bytes p.0 ∷ texts ps) (string_bytes p.0 ∷ texts ps) (string_bytes p.0 ∷ rest)) (texts-insert ps k v)

-- a key before the first one has no row
none_below : (k : List ℕ) (first : String Global) (ps : Pairs) → slice_cmp nat_cmp k (string_bytes first) ≡ Less
    → AllByRecursion (λ y. string_cmp first y ≡ Less) (keys_of ps) → lookup (is_at (text_cmp k)) ps ≡ None
none_below k first [] less above = refl
none_below k first (p ∷ ps) less above =
    rw (nat_list_cmp_total.trans k (string_bytes first) (string_bytes p.0) less above.0) (none_below k first ps less above.1)

-- a key that has a row is not inserted again, by its order against the first one
standing_at : (k : List ℕ) (p : String Global × List Entry) (ps : Pairs) (row : List Entry) (o : Ordering) → slice_cmp nat_cmp k (string_bytes p.0) ≡ o
    → AllByRecursion (λ y. string_cmp p.0 y ≡ Less) (keys_of ps)
    → (lookup (is_at (text_cmp k)) ps ≡ Some row → insert_key (slice_cmp nat_cmp) (texts ps) k ≡ texts ps)
    → cond (is_eq o) (Some p.1) (lookup (is_at (text_cmp k)) ps) ≡ Some row
    → match_ordering o (k ∷ texts (p ∷ ps)) (texts (p ∷ ps)) (string_bytes p.0 ∷ insert_key (slice_cmp nat_cmp) (texts ps) k) ≡ texts (p ∷ ps)
standing_at k p ps row Less is above rest found =
    let nothing : None ≡ Some row = sym (none_below k p.0 ps is above) ∙ found in
    cc
standing_at k p ps row Equal is above rest found = refl
standing_at k p ps row Greater is above rest found = ap (λ ks. string_bytes p.0 ∷ ks) (rest found)

standing : (k : List ℕ) (ps : Pairs) (row : List Entry) → IsStrictlySortedBy string_cmp (keys_of ps) → lookup (is_at (text_cmp k)) ps ≡ Some row
    → insert_key (slice_cmp nat_cmp) (texts ps) k ≡ texts ps
unfolding IsStrictlySortedBy
standing k [] row sorted found = cc
standing k (p ∷ ps) row sorted found =
    standing_at k p ps row (slice_cmp nat_cmp k (string_bytes p.0)) refl sorted.0 (standing k ps row sorted.1) found

-- ---- the entries

kept_after : (b : Bool) (old : Option (List Entry)) (w : List Entry) → kept_in (cond b (Some w) old) ≡ cond b w (kept_in old)
kept_after true old w = refl
kept_after false old w = refl

-- one key's row has changed
entries_after : (k : List ℕ) (m n : KeyRows) (w : List Entry) → UpdatesBy string_cmp (text_cmp k) m n (Some w)
    → (q : List ℕ) → entries_at q n ≡ cond (bytes_eq k q) w (entries_at q m)
entries_after k m n w updates q =
    ap kept_in (btree_map_updates_text k m n (Some w) updates q) ∙ kept_after (bytes_eq k q) (get_by_text m q) w

-- a key that is the changed one has the row that was changed
of_own_key : (k : List ℕ) (m : KeyRows) (row : List Entry) (q : List ℕ) → bytes_eq k q ≡ true → entries_at k m ≡ row → row ≡ entries_at q m
of_own_key k m row q is at = sym at ∙ ap (λ x. entries_at x m) ((bytes_decides k q).0 is)

own_row : (h : ℕ) (e : Entry) (m : KeyRows) (row : List Entry) (q : List ℕ) (b : Bool) → bytes_eq e.key q ≡ b → entries_at e.key m ≡ row
    → cond b (with_entry h row e) (entries_at q m) ≡ cond b (with_entry h (entries_at q m) e) (entries_at q m)
own_row h e m row q true is at = ap (λ es. with_entry h es e) (of_own_key e.key m row q is at)
own_row h e m row q false is at = refl

same_row : (k : List ℕ) (m : KeyRows) (row : List Entry) (q : List ℕ) (b : Bool) → bytes_eq k q ≡ b → entries_at k m ≡ row → cond b row (entries_at q m) ≡ entries_at q m
same_row k m row q true is at = of_own_key k m row q is at
same_row k m row q false is at = refl

is_there : (found : Option (List Entry)) (row : List Entry) → found ≡ Some row → IsSome found
is_there found row is = ap is_some is

-- an entry was written through the row of its key
pub noted_through : (h : ℕ) (e : Entry) (m n : KeyRows) (row w : List Entry) → get_by_text m e.key ≡ Some row → IsOrdered string_cmp m → w ≡ with_entry h row e
    → WritesThrough string_cmp (text_cmp e.key) m w n → Notes h e m n
noted_through h e m n row w found ordered is writes = record {
  keys = ap (map string_bytes) writes.1 ∙ sym (standing e.key m.entries row ordered found);
  entries = λ q.
      entries_after e.key m n w (writes.3 (is_there (get_by_text m e.key) row found)) q
      ∙ ap (λ v. cond (bytes_eq e.key q) v (entries_at q m)) is
      ∙ own_row h e m row q (bytes_eq e.key q) refl (ap kept_in found);
}

-- a row was written as it was
pub same_through : (k : List ℕ) (m n : KeyRows) (row w : List Entry) → get_by_text m k ≡ Some row → w ≡ row → WritesThrough string_cmp (text_cmp k) m w n → IsSame m n
same_through k m n row w found is writes = record {
  keys = ap (map string_bytes) writes.1;
  entries = λ q.
      entries_after k m n w (writes.3 (is_there (get_by_text m k) row found)) q
      ∙ ap (λ v. cond (bytes_eq k q) v (entries_at q m)) is
      ∙ same_row k m row q (bytes_eq k q) refl (ap kept_in found);
}

drop_none : (count : ℕ) → drop {A = Entry} count [] ≡ []
drop_none zero = refl
drop_none (suc count) = refl

first_entry : (h : ℕ) (e : Entry) → with_entry h [] e ≡ e ∷ []
first_entry h e = ap (λ (kept : List Entry). kept ++ e ∷ []) (drop_none (overtaken h e.operation 0))

-- a row was made for an entry whose key had none
pub noted_new : (h : ℕ) (e : Entry) (m n : KeyRows) (k : String Global) (row : List Entry) → string_bytes k ≡ e.key → get_by_text m e.key ≡ None → row ≡ e ∷ []
    → n.entries ≡ insert_entry string_cmp m.entries k row → Updates string_cmp m n k (Some row) → Notes h e m n
noted_new h e m n k row is none fresh put updates = record {
  keys = ap texts put ∙ texts-insert m.entries k row ∙ ap (insert_key (slice_cmp nat_cmp) (names m)) is;
  entries = λ q.
      entries_after (string_bytes k) m n row updates q
      ∙ ap (λ s. cond (bytes_eq s q) row (entries_at q m)) is
      ∙ ap (λ v. cond (bytes_eq e.key q) v (entries_at q m)) (fresh ∙ sym (first_entry h e))
      ∙ own_row h e m [] q (bytes_eq e.key q) refl (ap kept_in none);
}

-- nothing has changed
pub same_rows : (m n : KeyRows) → n.entries ≡ m.entries → IsSame m n
same_rows m n same = record { keys = ap texts same; entries = λ q. ap (λ ps. kept_in (lookup (is_at (text_cmp q)) ps)) same }

-- ---- the table

-- no row is the table of no changes
pub table_none : (h : ℕ) (m : KeyRows) → m.entries ≡ [] → IsTable h m []
table_none h m empty = rw empty (record { keys = refl; histories = λ q. refl })

-- one more change
pub table_noted : (h : ℕ) (e : Entry) (m n : KeyRows) (changes : List Entry) → Notes h e m n → IsTable h m changes → IsTable h n (changes ++ e ∷ [])
table_noted h e m n changes noted is = record {
  keys = noted.keys ∙ ap (λ ks. insert_key (slice_cmp nat_cmp) ks e.key) is.keys ∙ sym (keys_push changes e);
  histories = λ q.
      noted.entries q ∙ ap (λ es. cond (bytes_eq e.key q) (with_entry h es e) es) (is.histories q) ∙ sym (history_push h q changes e);
}

-- no more change
pub table_same : (h : ℕ) (m n : KeyRows) (changes : List Entry) → IsSame m n → IsTable h m changes → IsTable h n (changes ++ [])
table_same h m n changes same is =
    subst (λ es. IsTable h n es) (sym (append-nil changes)) (record { keys = same.keys ∙ is.keys; histories = λ q. same.entries q ∙ is.histories q })

-- ---- results

pub on_ok : {T E P Q : Type 0} (r : Result T E) → (P → Q) → OnOk r P → OnOk r Q
on_ok (Ok done) f h = f h
on_ok (Err e) f h = tt

pub on_err : {T E P Q : Type 0} (r : Result T E) → (P → Q) → OnErr r P → OnErr r Q
on_err (Ok done) f h = tt
on_err (Err e) f h = f h
