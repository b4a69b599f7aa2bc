-- Entries that keep the last one of each subject have the table of all of them.
use Rattle.std.proofs.Common.{◌≡◌, ℕ, nat_cmp, Bool, true, false, cond, List, [], ◌∷◌, map, Option, Some, None, inl, inr, refl, sym, ap, ◌∙◌, subst}
use Rattle.std.specs.Prelude.{fold, find, reverse}
use Rattle.std.specs.Option.{option_or}
use Rattle.std.specs.List.{filter_map, cons_option}
use Rattle.std.specs.Str.{bytes_eq}
use Rattle.std.specs.Cmp.Lexicographic.{slice_cmp}
use Rattle.std.specs.BTreeSet.{insert_key}
use Rattle.std.proofs.lemmas.Cmp.{nat_list_cmp_total}
use Rattle.std.proofs.lemmas.Map.Lookups.{exact_bytes}
use Rattle.std.proofs.lemmas.List.{reverse-append}
use Rattle.std.proofs.lemmas.List.Folds.{find-append}
use Rattle.std.proofs.lemmas.Slice.Eq.{bytes_eq-Decides}
use Rattle.js_base.specs.declared.message.Entry.{Entry}
use Rattle.js_event_log.specs.Projection.{last_of, present, value_of, subjects_of, table, matched}
use Rattle.js_event_log.specs.LatestEntries.{HasSubject, KeepsLatest, HasTableOf}
use Rattle.js_event_log.proofs.KeyInsertion.{IsAmong, insert_last, insert_again}

abbrev subjects : List Entry → List (List ℕ)
subjects es = map (λ (e : Entry). e.subject) es

abbrev insert : List (List ℕ) → List ℕ → List (List ℕ)
insert = insert_key (slice_cmp nat_cmp)

among : (s : List ℕ) (es : List Entry) → HasSubject s es → IsAmong s (subjects es)
among s [] has = absurd has
among s (e ∷ es) (inl is) = inl is
among s (e ∷ es) (inr has) = inr (among s es has)

-- the same subjects come of both
same_subjects_from : (all kept : List Entry) (done : List (List ℕ)) → KeepsLatest kept all → fold insert done (subjects kept) ≡ fold insert done (subjects all)
same_subjects_from [] [] done keeps = refl
same_subjects_from [] (k ∷ kept) done keeps = absurd keeps
same_subjects_from (e ∷ all) [] done keeps = absurd keeps
same_subjects_from (e ∷ all) (k ∷ kept) done (inl (same, keeps)) =
    same_subjects_from all kept (insert done k.subject) keeps ∙ ap (λ (x : Entry). fold insert (insert done x.subject) (subjects all)) same
same_subjects_from (e ∷ all) (k ∷ kept) done (inr (has, keeps)) =
    let ks = subjects (k ∷ kept) in
    sym (insert_again (slice_cmp nat_cmp) nat_list_cmp_total exact_bytes ks done e.subject (among e.subject (k ∷ kept) has))
    ∙ ap (λ xs. insert xs e.subject) (same_subjects_from all (k ∷ kept) done keeps)
    ∙ sym (insert_last (slice_cmp nat_cmp) nat_list_cmp_total exact_bytes (subjects all) done e.subject)

pub same_subjects : (all kept : List Entry) → KeepsLatest kept all → subjects_of kept ≡ subjects_of all
same_subjects all kept keeps = same_subjects_from all kept [] keeps

-- ---- the last entry of a subject

abbrev has_subject : List ℕ → Entry → Bool
has_subject s e = bytes_eq e.subject s

-- the first entry of a list is its subject's last where no later one has its subject
last_cons : (s : List ℕ) (e : Entry) (es : List Entry) → last_of s (e ∷ es) ≡ option_or (last_of s es) (cond (has_subject s e) (Some e) None)
last_cons s e es = ap (find (has_subject s)) (reverse-append (e ∷ []) es) ∙ find-append (has_subject s) (reverse es) (e ∷ [])

or_found : {A : Type 0} (found : Option A) (other : Option A) → (found ≡ None → ⊥) → option_or found other ≡ found
or_found None other some = absurd (some refl)
or_found (Some x) other some = refl

or_none : {A : Type 0} (found : Option A) → option_or found None ≡ found
or_none None = refl
or_none (Some x) = refl

some_found : (s : List ℕ) (e : Entry) (o : Option Entry) → e.subject ≡ s → option_or o (cond (has_subject s e) (Some e) None) ≡ None → ⊥
some_found s e None is none =
    let test : has_subject s e ≡ true = (bytes_eq-Decides e.subject s).1 is in
    let found : Some e ≡ None = sym (ap (λ b. cond b (Some e) None) test) ∙ none in
    cc
some_found s e (Some x) is none = cc

none_first : {A : Type 0} (o other : Option A) → option_or o other ≡ None → o ≡ None
none_first None other none = refl
none_first (Some x) other none = none

-- where an entry has the subject, there is a last one
has_last : (s : List ℕ) (es : List Entry) → HasSubject s es → last_of s es ≡ None → ⊥
has_last s [] has none = has
has_last s (e ∷ es) (inl is) none = some_found s e (last_of s es) is (sym (last_cons s e es) ∙ none)
has_last s (e ∷ es) (inr has) none = has_last s es has (none_first (last_of s es) _ (sym (last_cons s e es) ∙ none))

-- an entry that has a later one of its subject is no last one
overtaken : (s : List ℕ) (e : Entry) (o : Option Entry) (b : Bool) → has_subject s e ≡ b → (e.subject ≡ s → o ≡ None → ⊥) → option_or o (cond (has_subject s e) (Some e) None) ≡ o
overtaken s e o true test some = or_found o _ (some ((bytes_eq-Decides e.subject s).0 test))
overtaken s e o false test some = ap (λ b. option_or o (cond b (Some e) None)) test ∙ or_none o

pub same_last : (s : List ℕ) (all kept : List Entry) → KeepsLatest kept all → last_of s kept ≡ last_of s all
same_last s [] [] keeps = refl
same_last s [] (k ∷ kept) keeps = absurd keeps
same_last s (e ∷ all) [] keeps = absurd keeps
same_last s (e ∷ all) (k ∷ kept) (inl (same, keeps)) =
    last_cons s k kept
    ∙ ap (λ o. option_or o (cond (has_subject s k) (Some k) None)) (same_last s all kept keeps)
    ∙ ap (λ (x : Entry). option_or (last_of s all) (cond (has_subject s x) (Some x) None)) same
    ∙ sym (last_cons s e all)
same_last s (e ∷ all) (k ∷ kept) (inr (has, keeps)) =
    let rest : last_of s (k ∷ kept) ≡ last_of s all = same_last s all (k ∷ kept) keeps in
    rest
    ∙ sym (overtaken s e (last_of s all) (has_subject s e) refl (λ is none. has_last s (k ∷ kept) (subst (λ t. HasSubject t (k ∷ kept)) is has) (rest ∙ none)))
    ∙ sym (last_cons s e all)

-- ---- the table

same_values : (ss : List (List ℕ)) (all kept : List Entry) → KeepsLatest kept all → filter_map (λ s. value_of s kept) ss ≡ filter_map (λ s. value_of s all) ss
same_values [] all kept keeps = refl
same_values (s ∷ ss) all kept keeps =
    ap (λ (o : Option Entry). cons_option o (filter_map (λ s. value_of s kept) ss)) (ap present (same_last s all kept keeps))
    ∙ ap (cons_option (value_of s all)) (same_values ss all kept keeps)

pub same_table : (all kept : List Entry) → KeepsLatest kept all → table kept ≡ table all
same_table all kept keeps = ap (filter_map (λ s. value_of s kept)) (same_subjects all kept keeps) ∙ same_values (subjects_of all) all kept keeps

pub has_table : (all kept : List Entry) → KeepsLatest kept all → HasTableOf all kept
has_table all kept keeps = record {
  kept = keeps;
  values = λ s. ap present (same_last s all kept keeps);
  rows = λ pattern. ap (matched pattern) (same_table all kept keeps);
}
