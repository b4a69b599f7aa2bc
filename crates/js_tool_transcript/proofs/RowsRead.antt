-- What is read of members that were written in rows.
use Rattle.std.proofs.Common.{◌≡◌, ℕ, ◌≤◌, Bool, true, false, ◌&&◌, List, [], ◌∷◌, Option, Some, None, refl, sym, ap, ◌∙◌, subst, true≢false, if◌then◌else◌, bytes_eq, arith}
use Rattle.std.specs.Prelude.{IfSome, max}
use Rattle.std.specs.List.{AllByRecursion}
use Rattle.std.specs.Ordering.{nat_cmp, match_ordering}
use Rattle.std.specs.Cmp.Lexicographic.{slice_cmp}
use Rattle.std.specs.declared.cmp.Ordering.{Ordering}
use Rattle.std.specs.declared.cmp.Ordering.TheVariants.{Less, Equal, Greater}
use Rattle.std.proofs.lemmas.Bool.{and_parts}
use Rattle.std.proofs.lemmas.Slice.Eq.{bytes_eq-Decides}
use Rattle.json.specs.Tree.{depth, members_depth}
use Rattle.serde_json.specs.Data.{Data, Members, no_members, member, put}
use Rattle.serde_json.specs.Find.{get_member}
use Rattle.serde_json.specs.Read.{of_json, of_members}
use Rattle.serde_json.specs.Written.{outline, members_outline}
use Rattle.serde_json.proofs.Views.{get_member-put, get_member-put_other}
use Rattle.js_json_members.specs.declared.key.Key.{Key}
use Rattle.js_json_members.specs.Value.{is_among, members_only}
use Rattle.js_tool_transcript.proofs.CompactText.{IsSimple, MembersAreSimple}
use Rattle.js_tool_transcript.proofs.EventData.{Row, with_row, written}

-- ---- the members of rows, put in one after another

abbrev pub put_row : List ℕ → Option Data → Members → Members
put_row k None found = found
put_row k (Some d) found = put k d found

abbrev pub held : List Row → Members → Members
held [] found = found
held (row ∷ rows) found = held rows (put_row row.0 row.1 found)

-- a value is read as itself
abbrev pub IsSame : Data → Type 0
IsSame d = of_json (outline d) ≡ Some d

row_read : (k : List ℕ) (o : Option Data) (rows : List Row) (found : Members) → IfSome o IsSame
    → ((found : Members) → of_members (members_outline (written rows)) found ≡ Some (held rows found))
    → of_members (members_outline (with_row k o (written rows))) found ≡ Some (held rows (put_row k o found))
row_read k None rows found same rest = rest found
row_read k (Some d) rows found same rest = rw same (rest (put k d found))

pub rows_read : (rows : List Row) (found : Members) → AllByRecursion (λ (row : Row). IfSome row.1 IsSame) rows → of_members (members_outline (written rows)) found ≡ Some (held rows found)
rows_read [] found same = refl
rows_read (row ∷ rows) found same = row_read row.0 row.1 rows found same.0 (λ found. rows_read rows found same.1)

-- ---- under a name

-- the value of a row, or what was there before it
abbrev pub over : Option Data → Option Data → Option Data
over None before = before
over (Some d) before = Some d

abbrev pub left : List ℕ → List Row → Option Data → Option Data
left name [] before = before
left name (row ∷ rows) before = left name rows (if bytes_eq name row.0 then over row.1 before else before)

both_alike : {A : Type 0} → (b : Bool) (x : A) → x ≡ (if b then x else x)
both_alike true x = refl
both_alike false x = refl

put_name : (name k : List ℕ) (b : Bool) (d : Data) (ms : Members) → bytes_eq name k ≡ b → get_member name (put k d ms) ≡ (if b then Some d else get_member name ms)
put_name name k true d ms is =
    let same : name ≡ k = (bytes_eq-Decides name k).0 is in
    subst (λ (k : List ℕ). get_member name (put k d ms) ≡ Some d) same (get_member-put name d ms)
put_name name k false d ms is = get_member-put_other name k d ms (λ same. true≢false (sym ((bytes_eq-Decides name k).1 same) ∙ is))

pub row_left : (name k : List ℕ) (o : Option Data) (found : Members) → get_member name (put_row k o found) ≡ (if bytes_eq name k then over o (get_member name found) else get_member name found)
row_left name k None found = both_alike (bytes_eq name k) (get_member name found)
row_left name k (Some d) found = put_name name k (bytes_eq name k) d found refl

-- what the members have under a name
pub rows_left : (name : List ℕ) (rows : List Row) (found : Members) → get_member name (held rows found) ≡ left name rows (get_member name found)
rows_left name [] found = refl
rows_left name (row ∷ rows) found = rows_left name rows (put_row row.0 row.1 found) ∙ ap (left name rows) (row_left name row.0 row.1 found)

-- ---- their names

both_true : (a b : Bool) → a ≡ true → b ≡ true → (a && b) ≡ true
both_true a b p q = rw (p, q) refl

-- each name passes a test
abbrev pub names_are : (List ℕ → Bool) → Members → Bool
names_are passes no_members = true
names_are passes (member k d ms) = passes k && names_are passes ms

names_put : (passes : List ℕ → Bool) (k : List ℕ) (d : Data) (ms : Members) → passes k ≡ true → names_are passes ms ≡ true → names_are passes (put k d ms) ≡ true
names_put passes k d no_members is only = both_true (passes k) true is refl
names_put passes k d (member l e ms) is only =
    let parts = and_parts (passes l) (names_are passes ms) only in
    by_order (slice_cmp nat_cmp k l) parts.0 parts.1 (names_put passes k d ms is parts.1)
  where
    by_order : (o : Ordering) → passes l ≡ true → names_are passes ms ≡ true → names_are passes (put k d ms) ≡ true
        → names_are passes (match_ordering o (member k d (member l e ms)) (member l d ms) (member l e (put k d ms))) ≡ true
    by_order Less one more rest = both_true (passes k) (names_are passes (member l e ms)) is only
    by_order Equal one more rest = both_true (passes l) (names_are passes ms) one more
    by_order Greater one more rest = both_true (passes l) (names_are passes (put k d ms)) one rest

row_names : (passes : List ℕ → Bool) (k : List ℕ) (o : Option Data) (found : Members) → passes k ≡ true → names_are passes found ≡ true → names_are passes (put_row k o found) ≡ true
row_names passes k None found is only = only
row_names passes k (Some d) found is only = names_put passes k d found is only

pub rows_names : (passes : List ℕ → Bool) (rows : List Row) (found : Members) → AllByRecursion (λ (row : Row). passes row.0 ≡ true) rows → names_are passes found ≡ true
    → names_are passes (held rows found) ≡ true
rows_names passes [] found are only = only
rows_names passes (row ∷ rows) found are only = rows_names passes rows (put_row row.0 row.1 found) are.1 (row_names passes row.0 row.1 found are.0 only)

only_names : (keys : List Key) (ms : Members) → names_are (is_among keys) ms ≡ members_only keys ms
only_names keys no_members = refl
only_names keys (member k d ms) = ap (λ (b : Bool). is_among keys k && b) (only_names keys ms)

pub rows_only : (keys : List Key) (rows : List Row) (found : Members) → AllByRecursion (λ (row : Row). is_among keys row.0 ≡ true) rows → members_only keys found ≡ true
    → members_only keys (held rows found) ≡ true
rows_only keys rows found are only =
    sym (only_names keys (held rows found)) ∙ rows_names (is_among keys) rows found are (only_names keys found ∙ only)

-- ---- texts and numbers alone

abbrev pub AreSimple : (List ℕ → Type 0) → List Row → Type 0
AreSimple Q rows = AllByRecursion (λ (row : Row). Q row.0 × IfSome row.1 (IsSimple Q)) rows

with_row_simple : (Q : List ℕ → Type 0) (k : List ℕ) (o : Option Data) (more : Members) → Q k → IfSome o (IsSimple Q) → MembersAreSimple Q more → MembersAreSimple Q (with_row k o more)
with_row_simple Q k None more name is rest = rest
with_row_simple Q k (Some d) more name is rest = (name, (is, rest))

pub written_simple : (Q : List ℕ → Type 0) (rows : List Row) → AreSimple Q rows → MembersAreSimple Q (written rows)
written_simple Q [] are = tt
written_simple Q (row ∷ rows) are = with_row_simple Q row.0 row.1 (written rows) are.0.0 are.0.1 (written_simple Q rows are.1)

put_simple : (Q : List ℕ → Type 0) (k : List ℕ) (d : Data) (ms : Members) → Q k → IsSimple Q d → MembersAreSimple Q ms → MembersAreSimple Q (put k d ms)
put_simple Q k d no_members name is are = (name, (is, tt))
put_simple Q k d (member l e ms) name is are = by_order (slice_cmp nat_cmp k l) (put_simple Q k d ms name is are.1.1)
  where
    by_order : (o : Ordering) → MembersAreSimple Q (put k d ms) → MembersAreSimple Q (match_ordering o (member k d (member l e ms)) (member l d ms) (member l e (put k d ms)))
    by_order Less rest = (name, (is, are))
    by_order Equal rest = (are.0, (is, are.1.1))
    by_order Greater rest = (are.0, (are.1.0, rest))

row_simple : (Q : List ℕ → Type 0) (k : List ℕ) (o : Option Data) (found : Members) → Q k → IfSome o (IsSimple Q) → MembersAreSimple Q found → MembersAreSimple Q (put_row k o found)
row_simple Q k None found name is are = are
row_simple Q k (Some d) found name is are = put_simple Q k d found name is are

pub held_simple : (Q : List ℕ → Type 0) (rows : List Row) (found : Members) → AreSimple Q rows → MembersAreSimple Q found → MembersAreSimple Q (held rows found)
held_simple Q [] found are so_far = so_far
held_simple Q (row ∷ rows) found are so_far =
    held_simple Q rows (put_row row.0 row.1 found) are.1 (row_simple Q row.0 row.1 found are.0.0 are.0.1 so_far)

-- ---- how deep they nest

abbrev pub IsShallow : Data → Type 0
IsShallow d = depth (outline d) ≤ 2

deeper : (a b : ℕ) → a ≤ 2 → b ≤ 2 → max a b ≤ 2
deeper a b p q = omega arith

row_shallow : (k : List ℕ) (o : Option Data) (more : Members) → IfSome o IsShallow → members_depth (members_outline more) ≤ 2 → members_depth (members_outline (with_row k o more)) ≤ 2
row_shallow k None more is rest = rest
row_shallow k (Some d) more is rest = deeper (depth (outline d)) (members_depth (members_outline more)) is rest

pub rows_shallow : (rows : List Row) → AllByRecursion (λ (row : Row). IfSome row.1 IsShallow) rows → members_depth (members_outline (written rows)) ≤ 2
rows_shallow [] are = omega arith
rows_shallow (row ∷ rows) are = row_shallow row.0 row.1 (written rows) are.0 (rows_shallow rows are.1)
