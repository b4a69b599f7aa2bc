-- The rows at the places of the last entries are those of the table.
use Rattle.std.proofs.Common.{◌≡◌, ℕ, ◌<◌, List, [], ◌∷◌, ◌++◌, length, get_or, suc, Bool, true, false, cond, refl, sym, ap, ◌∙◌, arith, Option, Some, None}
use Rattle.std.specs.Prelude.{String, string_bytes, string_cmp, All}
use Rattle.std.specs.declared.alloc.Global.{Global}
use Rattle.std.specs.Option.{option_and_then}
use Rattle.std.specs.List.{slice_get, filter_map, cons_option}
use Rattle.std.specs.BTreeMap.{BTreeMap, get}
use Rattle.js_base.specs.declared.message.Entry.{Entry}
use Rattle.js_base.specs.Subject.{subject_matches}
use Rattle.js_event_log.specs.Projection.{last_of, value_of, matched, table}
use Rattle.js_event_log.specs.ProjectionPlaces.{Places, names, IsPlaced, kept, shown, rows_at}

kept_step : (f : List ℕ) (e : Entry) (b : Bool) (rows all : List Entry) → subject_matches f e.subject ≡ b → rows ≡ matched f all
    → cons_option (cond b (Some e) None) rows ≡ cond b (e ∷ matched f all) (matched f all)
kept_step f e true rows all is h = ap (λ es. e ∷ es) h
kept_step f e false rows all is h = h

kept_cons : (f : List ℕ) (o : Option Entry) (rows all : List Entry) → rows ≡ matched f all → cons_option (kept f o) rows ≡ matched f (cons_option o all)
kept_cons f None rows all h = h
kept_cons f (Some e) rows all h = kept_step f e (subject_matches f e.subject) rows all refl h

same_rows : (f : List ℕ) (es : List Entry) (ps : Places) → ((i : ℕ) (d : String Global × ℕ) → i < length ps → slice_get es (get_or ps i d).1 ≡ last_of (string_bytes (get_or ps i d).0) es)
    → rows_at f es ps ≡ matched f (filter_map (λ s. value_of s es) (names ps))
same_rows f es [] h = refl
same_rows f es (p ∷ ps) h =
    let here : slice_get es p.1 ≡ last_of (string_bytes p.0) es = h 0 p (omega arith) in
    ap (λ o. cons_option (shown f o) (rows_at f es ps)) here
    ∙ kept_cons f (value_of (string_bytes p.0) es) _ _ (same_rows f es ps (λ i d l. h (suc i) d (omega (arith, l))))

-- the rows at the places of the last entries
pub rows_of_table : (f : List ℕ) (es : List Entry) (m : BTreeMap (String Global) ℕ) → IsPlaced m.entries es → All (λ e. get string_cmp m e.0 ≡ Some e.1) m.entries
    → rows_at f es m.entries ≡ matched f (table es)
rows_of_table f es m h found =
    same_rows f es m.entries (λ i d l. ap (option_and_then (slice_get es)) (sym (found i d l)) ∙ h.last (string_bytes (get_or m.entries i d).0))
    ∙ ap (λ subjects. matched f (filter_map (λ s. value_of s es) subjects)) h.subjects

-- one more row
pub rows_more : (o : Option Entry) (done more : List Entry) → done ++ cons_option o more ≡ (done ++ cons_option o []) ++ more
rows_more None [] more = refl
rows_more (Some e) [] more = refl
rows_more o (x ∷ done) more = ap (λ es. x ∷ es) (rows_more o done more)
