-- The keys that are shown of the rows are those of the table.
use Rattle.std.proofs.Common.{◌≡◌, ℕ, ◌<◌, List, [], ◌∷◌, ◌++◌, length, get_or, suc, Bool, true, false, cond, refl, sym, ap, ◌∙◌, arith, map, filter, Option, Some, None}
use Rattle.std.specs.Prelude.{String, string_bytes, string_cmp, All, if◌then◌else◌}
use Rattle.std.specs.declared.alloc.Global.{Global}
use Rattle.std.specs.List.{cons_option}
use Rattle.std.specs.Map.{keys_of as keys_of_pairs}
use Rattle.std.specs.BTreeMap.{get}
use Rattle.js_store_keys.specs.declared.entry.Entry.{Entry}
use Rattle.js_store_table.specs.KeyHistory.{history_of, last_of, is_shown, keys_matching}
use Rattle.js_store_table.specs.TableRows.{KeyRows, kept_in, IsTable, shown_keys}

shown_step : (b : Bool) (key : List ℕ) (rows all : List (List ℕ)) → rows ≡ all → cons_option (if b then Some key else None) rows ≡ cond b (key ∷ all) all
shown_step true key rows all h = ap (λ ks. key ∷ ks) h
shown_step false key rows all h = h

same_keys : (h : ℕ) (f : List ℕ) (changes : List Entry) (ps : List (String Global × List Entry))
    → ((i : ℕ) (d : String Global × List Entry) → i < length ps → (get_or ps i d).1 ≡ history_of h (string_bytes (get_or ps i d).0) changes)
    → shown_keys f ps ≡ filter (λ key. is_shown f key (last_of (history_of h key changes))) (map string_bytes (keys_of_pairs ps))
same_keys h f changes [] has = refl
same_keys h f changes (p ∷ ps) has =
    let key = string_bytes p.0 in
    let here : p.1 ≡ history_of h key changes = has 0 p (omega arith) in
    ap (λ es. cons_option (if is_shown f key (last_of es) then Some key else None) (shown_keys f ps)) here
    ∙ shown_step (is_shown f key (last_of (history_of h key changes))) key (shown_keys f ps) _ (same_keys h f changes ps (λ i d l. has (suc i) d (omega (arith, l))))

-- the keys of the rows that are shown
pub keys_of_table : (h : ℕ) (f : List ℕ) (changes : List Entry) (m : KeyRows) → IsTable h m changes → All (λ e. get string_cmp m e.0 ≡ Some e.1) m.entries
    → shown_keys f m.entries ≡ keys_matching h f changes
keys_of_table h f changes m is found =
    same_keys h f changes m.entries (λ i d l. ap kept_in (sym (found i d l)) ∙ is.histories (string_bytes (get_or m.entries i d).0))
    ∙ ap (λ ks. filter (λ key. is_shown f key (last_of (history_of h key changes))) ks) is.keys

-- one more row
pub keys_more : (o : Option (List ℕ)) (done more : List (List ℕ)) → done ++ cons_option o more ≡ (done ++ cons_option o []) ++ more
keys_more None [] more = refl
keys_more (Some key) [] more = refl
keys_more o (x ∷ done) more = ap (λ ks. x ∷ ks) (keys_more o done more)
