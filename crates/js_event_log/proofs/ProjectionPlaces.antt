-- The places of the last entries, one entry after another.
use Rattle.std.proofs.Common.{◌≡◌, ℕ, ◌<◌, nat_cmp, List, [], ◌∷◌, ◌++◌, length, zero, suc, Bool, true, false, cond, refl, sym, ap, ◌∙◌, subst, arith, map, Option, Some, None, Ordering, Less, Equal, Greater}
use Rattle.std.specs.Prelude.{fold, find, String, string_bytes, string_cmp, IfSome}
use Rattle.std.specs.declared.alloc.Global.{Global}
use Rattle.std.specs.Option.{option_and_then}
use Rattle.std.specs.List.{slice_get}
use Rattle.std.specs.Str.{bytes_eq}
use Rattle.std.specs.Cmp.Lexicographic.{slice_cmp}
use Rattle.std.specs.Ordering.{match_ordering}
use Rattle.std.specs.BTreeMap.{BTreeMap, insert_entry, Updates}
use Rattle.std.specs.BTreeSet.{insert_key}
use Rattle.std.proofs.lemmas.List.{reverse-append, map_push, length_push}
use Rattle.std.proofs.lemmas.List.Sums.{fold_push}
use Rattle.std.proofs.lemmas.Map.Text.{btree_map_updates_text}
use Rattle.js_base.specs.declared.message.Entry.{Entry}
use Rattle.js_event_log.specs.Projection.{subjects_of, last_of}
use Rattle.js_event_log.specs.ProjectionPlaces.{Places, names, place_of, IsPlaced}

subjects_push : (es : List Entry) (e : Entry) → subjects_of (es ++ e ∷ []) ≡ insert_key (slice_cmp nat_cmp) (subjects_of es) e.subject
subjects_push es e =
    ap (fold (insert_key (slice_cmp nat_cmp)) []) (map_push (λ (x : Entry). x.subject) es e)
    ∙ fold_push (insert_key (slice_cmp nat_cmp)) [] (map (λ (x : Entry). x.subject) es) e.subject

last_push : (es : List Entry) (e : Entry) (q : List ℕ) → last_of q (es ++ e ∷ []) ≡ cond (bytes_eq e.subject q) (Some e) (last_of q es)
last_push es e q = ap (find (λ (x : Entry). bytes_eq x.subject q)) (reverse-append es (e ∷ []))

names-match : (o : Ordering) (a b c : Places) → names (match_ordering o a b c) ≡ match_ordering o (names a) (names b) (names c)
names-match Less a b c = refl
names-match Equal a b c = refl
names-match Greater a b c = refl

names-insert : (ps : Places) (k : String Global) (v : ℕ) → names (insert_entry string_cmp ps k v) ≡ insert_key (slice_cmp nat_cmp) (names ps) (string_bytes k)
names-insert [] k v = refl
names-insert (p ∷ ps) k v =
    names-match (string_cmp k p.0) _ _ _
    ∙ ap (λ rest. match_ordering (string_cmp k p.0) (string_bytes k ∷ string_bytes p.0 ∷ names ps) (string_bytes p.0 ∷ names ps) (string_bytes p.0 ∷ rest)) (names-insert ps k v)

get_pushed : (es : List Entry) (e : Entry) → slice_get (es ++ e ∷ []) (length es) ≡ Some e
get_pushed [] e = refl
get_pushed (x ∷ es) e = get_pushed es e

get_before : (es : List Entry) (e : Entry) (i : ℕ) → i < length es → slice_get (es ++ e ∷ []) i ≡ slice_get es i
get_before [] e i l = grind arith
get_before (x ∷ es) e zero l = refl
get_before (x ∷ es) e (suc i) l = get_before es e i (omega (arith, l))

last_step : (es : List Entry) (e : Entry) (b : Bool) (old : Option ℕ) (l : Option Entry) → option_and_then (slice_get es) old ≡ l → IfSome old (λ i. i < length es)
    → option_and_then (slice_get (es ++ e ∷ [])) (cond b (Some (length es)) old) ≡ cond b (Some e) l
last_step es e true old l h w = get_pushed es e
last_step es e false None l h w = h
last_step es e false (Some i) l h w = get_before es e i w ∙ h

within_step : (es : List Entry) (e : Entry) (b : Bool) (old : Option ℕ) → IfSome old (λ i. i < length es)
    → IfSome (cond b (Some (length es)) old) (λ i. i < length (es ++ e ∷ []))
within_step es e true old w = omega (arith, length_push es e)
within_step es e false None w = tt
within_step es e false (Some i) w = omega (arith, length_push es e, w)

-- one more entry, whose place is noted
placed_push : (m n : BTreeMap (String Global) ℕ) (k : String Global) (es : List Entry) (e : Entry) → string_bytes k ≡ e.subject
    → n.entries ≡ insert_entry string_cmp m.entries k (length es) → Updates string_cmp m n k (Some (length es)) → IsPlaced m.entries es → IsPlaced n.entries (es ++ e ∷ [])
placed_push m n k es e is put updates h =
    let at : (q : List ℕ) → place_of q n.entries ≡ cond (bytes_eq e.subject q) (Some (length es)) (place_of q m.entries) =
    λ q. btree_map_updates_text (string_bytes k) m n (Some (length es)) updates q ∙ ap (λ s. cond (bytes_eq s q) (Some (length es)) (place_of q m.entries)) is in
    record {
      subjects = ap names put ∙ names-insert m.entries k (length es) ∙ ap (insert_key (slice_cmp nat_cmp) (names m.entries)) is
          ∙ ap (λ s. insert_key (slice_cmp nat_cmp) s e.subject) h.subjects ∙ sym (subjects_push es e);
      last = λ q. rw (at q, last_push es e q) (last_step es e (bytes_eq e.subject q) (place_of q m.entries) (last_of q es) (h.last q) (h.within q));
      within = λ q. rw (at q) (within_step es e (bytes_eq e.subject q) (place_of q m.entries) (h.within q));
    }

-- the same, where the place is known by an equation
pub placed_at : (m n : BTreeMap (String Global) ℕ) (k : String Global) (place : ℕ) (es : List Entry) (e : Entry) → length es ≡ place → string_bytes k ≡ e.subject
    → n.entries ≡ insert_entry string_cmp m.entries k place → Updates string_cmp m n k (Some place) → IsPlaced m.entries es → IsPlaced n.entries (es ++ e ∷ [])
placed_at m n k place es e at is =
    subst (λ p. n.entries ≡ insert_entry string_cmp m.entries k p → Updates string_cmp m n k (Some p) → IsPlaced m.entries es → IsPlaced n.entries (es ++ e ∷ [])) at
    (placed_push m n k es e is)

-- no entry has a place
pub placed_none : (m : BTreeMap (String Global) ℕ) → m.entries ≡ [] → IsPlaced m.entries []
placed_none m empty = rw empty (record { subjects = refl; last = λ q. refl; within = λ q. tt })
