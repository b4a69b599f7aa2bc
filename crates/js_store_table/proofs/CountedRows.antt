-- How many entries rows keep.
use Rattle.std.proofs.Common.{◌≡◌, ℕ, ◌≤◌, ◌<◌, ◌+◌, ◌*◌, ◌^◌, List, [], ◌∷◌, length, get_or, Some, refl, sym, ap, ◌∙◌, subst, arith, map}
use Rattle.std.specs.Prelude.{String, string_bytes, string_cmp, All}
use Rattle.std.specs.BTreeMap.{get}
use Rattle.std.specs.Map.{keys_of as keys_of_pairs}
use Rattle.std.specs.declared.alloc.Global.{Global}
use Rattle.std.proofs.lemmas.List.{length-map}
use Rattle.std.proofs.lemmas.List.Sums.{sum_by-cons, sum_by-le}
use Rattle.js_store_keys.specs.declared.entry.Entry.{Entry}
use Rattle.js_store_table.specs.KeyHistory.{history_of, keys_of}
use Rattle.js_store_table.specs.TableRows.{KeyRows, IsTable, count_of, kept_count, kept_in, most}
use Rattle.js_store_table.proofs.Histories.{history_bounded}

-- each row has no more entries than the bucket keeps
rows_bounded : (h : ℕ) (changes : List Entry) (m : KeyRows) → IsTable h m changes → All (λ e. get string_cmp m e.0 ≡ Some e.1) m.entries
    → All (λ (row : String Global × List Entry). length row.1 ≤ most h) m.entries
rows_bounded h changes m is found = λ i d l.
    let row = get_or m.entries i d in
    let same : row.1 ≡ history_of h (string_bytes row.0) changes = ap kept_in (sym (found i d l)) ∙ is.histories (string_bytes row.0) in
    subst (λ es. length es ≤ most h) (sym same) (history_bounded h (string_bytes row.0) changes)

-- there are as many rows as keys that were changed
rows_of_keys : (h : ℕ) (changes : List Entry) (m : KeyRows) → IsTable h m changes → length m.entries ≡ length (keys_of changes)
rows_of_keys h changes m is =
    sym (length-map m.entries (λ (row : String Global × List Entry). row.0)) ∙ sym (length-map (keys_of_pairs m.entries) string_bytes) ∙ ap length is.keys

-- so all together are at most the keys times the history
pub count_bounded : (h : ℕ) (changes : List Entry) (m : KeyRows) → IsTable h m changes → All (λ e. get string_cmp m e.0 ≡ Some e.1) m.entries
    → kept_count m ≤ length (keys_of changes) * most h
count_bounded h changes m is found =
    subst (λ n. kept_count m ≤ n * most h) (rows_of_keys h changes m is)
    (sum_by-le (λ (row : String Global × List Entry). length row.1) (most h) m.entries (rows_bounded h changes m is found))

-- one more row is counted
pub counted_more : (row : String Global × List Entry) (rows : List (String Global × List Entry)) → count_of (row ∷ rows) ≡ length row.1 + count_of rows
counted_more row rows = sum_by-cons (λ (row : String Global × List Entry). length row.1) row rows
