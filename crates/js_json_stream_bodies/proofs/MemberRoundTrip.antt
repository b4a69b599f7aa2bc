-- What is written under a key is read back from there.
use Rattle.std.proofs.Common.{◌≡◌, refl, sym, ◌∙◌, ap, subst, true≢false, ℕ, ℤ, pos, negsuc, List, [], ◌∷◌}
use Rattle.std.proofs.Common.{map, Option, Some, None, option_map, Result, Ok, Err, is_ok, Bool, true, false}
use Rattle.std.proofs.Common.{if◌then◌else◌, bytes_eq, lt-ltb, not, FitsSigned, w64}
use Rattle.std.proofs.lemmas.Bool.Decides.{Decides-eqb, Decides-int_eq}
use Rattle.std.proofs.lemmas.Slice.Eq.{bytes_eq-Decides}
use Rattle.serde_json.specs.Data.{Data, null, boolean, number, string, array, object, Members, no_members}
use Rattle.serde_json.specs.Data.{put}
use Rattle.serde_json.specs.Find.{get_member}
use Rattle.serde_json.specs.View.{items_of}
use Rattle.serde_json.proofs.Views.{get_member-put, get_member-put_other}
use Rattle.js_json_members.specs.declared.key.Key.{Key}
use Rattle.js_json_members.specs.declared.error.ReadError.{ReadError}
use Rattle.js_json_members.specs.Key.{key_name}
use Rattle.js_json_members.specs.Member.{Reads, required, defaulted, optional, unless_null, if_present, text, truth, natural}
use Rattle.js_json_members.specs.Member.{integer, list_of, all_read, nested}
use Rattle.js_json_members.specs.Rows.{Writes, Row, with_row, with_rows, put_some, always, unless, where_some, some, text_data}
use Rattle.js_json_members.specs.Rows.{natural_data, integer_data, truth_data, list_data, all_data, is_empty, is_zero}
use Rattle.js_json_members.specs.Rows.{is_zero_integer, object_of}

-- ---- the members that rows leave

-- what is there after a row
abbrev pub over : Result (Option Data) ReadError → Option Data → Option Data
over (Ok None) before = before
over (Ok (Some d)) before = Some d
over (Err e) before = before

-- what rows leave under a name
abbrev pub left : List ℕ → List Row → Option Data → Option Data
left name [] before = before
left name (row ∷ rows) before =
    left name rows (if bytes_eq name (key_name row.0) then over row.1 before else before)

-- each row has a value, or is left out
abbrev pub AreWritten : List Row → Type 0
AreWritten [] = Unit {0}
AreWritten (row ∷ rows) = ((value : Option Data) × (row.1 ≡ Ok value)) × AreWritten rows

abbrev ok_or_else : {A : Type 0} → A → Result A ReadError → A
ok_or_else other (Ok x) = x
ok_or_else other (Err e) = other

-- a value that was read
abbrev pub good : {A : Type 0} → A → Result A ReadError
good x = Ok x

-- equal answers have equal values
pub ok_is : {A : Type 0} → (x y : A) → good x ≡ good y → x ≡ y
ok_is x y same = ap (ok_or_else x) same

put_name : (name key : List ℕ) (b : Bool) (d : Data) (ms : Members) → bytes_eq name key ≡ b
    → get_member name (put key d ms) ≡ (if b then Some d else get_member name ms)
put_name name key true d ms is =
    let same : name ≡ key = (bytes_eq-Decides name key).0 is in
    subst (λ k. get_member name (put k d ms) ≡ Some d) same (get_member-put name d ms)
put_name name key false d ms is =
    get_member-put_other name key d ms (λ same. true≢false (sym ((bytes_eq-Decides name key).1 same) ∙ is))

both_alike : {A : Type 0} → (b : Bool) (x : A) → x ≡ (if b then x else x)
both_alike true x = refl
both_alike false x = refl

after_row : (name : List ℕ) (key : Key) (value : Result (Option Data) ReadError) (ms new : Members)
    → with_row key value (Ok ms) ≡ Ok new
    → get_member name new ≡ (if bytes_eq name (key_name key) then over value (get_member name ms) else get_member name ms)
unfolding with_row
after_row name key (Ok None) ms new is =
    sym (ap (get_member name) (ok_is ms new is)) ∙ both_alike (bytes_eq name (key_name key)) (get_member name ms)
after_row name key (Ok (Some d)) ms new is =
    sym (ap (get_member name) (ok_is (put (key_name key) d ms) new is))
    ∙ put_name name (key_name key) (bytes_eq name (key_name key)) d ms refl
after_row name key (Err e) ms new is = absurd (true≢false (sym (ap is_ok is)))

failed_rows : (e : ReadError) (rows : List Row) → with_rows (Err e) rows ≡ Err e
unfolding with_row
failed_rows e [] = refl
failed_rows e (row ∷ rows) = failed_rows e rows

member_after : (name : List ℕ) (row : Row) (rows : List Row) (ms new : Members) (between : Result Members ReadError)
    → ((next : Members) → with_rows (Ok next) rows ≡ Ok new → get_member name new ≡ left name rows (get_member name next))
    → with_row row.0 row.1 (Ok ms) ≡ between → with_rows between rows ≡ Ok new
    → get_member name new ≡ left name (row ∷ rows) (get_member name ms)
member_after name row rows ms new (Ok next) rest first is =
    rest next is ∙ ap (left name rows) (after_row name row.0 row.1 ms next first)
member_after name row rows ms new (Err e) rest first is =
    absurd (true≢false (sym (ap is_ok (sym (failed_rows e rows) ∙ is))))

-- what the object has under a name
pub member_of_rows : (name : List ℕ) (rows : List Row) (ms new : Members) → with_rows (Ok ms) rows ≡ Ok new
    → get_member name new ≡ left name rows (get_member name ms)
member_of_rows name [] ms new is = sym (ap (get_member name) (ok_is ms new is))
member_of_rows name (row ∷ rows) ms new is =
    member_after name row rows ms new (with_row row.0 row.1 (Ok ms))
    (λ next later. member_of_rows name rows next new later) refl is

row_written : (key : Key) (value : Result (Option Data) ReadError) (o : Option Data) (ms : Members) → value ≡ Ok o
    → with_row key value (Ok ms) ≡ Ok (put_some key o ms)
unfolding with_row
row_written key value o ms is = rw is refl

-- a fact beside others
infixr 10 ◌&◌
abbrev pub ◌&◌ : {A B : Type 0} → A → B → A × B
a & b = (a, b)

-- such rows make an object
pub rows_written : (rows : List Row) (ms : Members) → AreWritten rows → (new : Members) × (with_rows (Ok ms) rows ≡ Ok new)
rows_written [] ms all = (ms, refl)
rows_written (row ∷ rows) ms all =
    let next = put_some row.0 all.0.0 ms in
    let rest = rows_written rows next all.1 in
    (rest.0, ap (λ m. with_rows m rows) (row_written row.0 row.1 all.0.0 ms all.0.1) ∙ rest.1)

-- ---- values that are read as they were written

abbrev pub is_null : Data → Bool
is_null null = true
is_null (boolean b) = false
is_null (number n) = false
is_null (string s) = false
is_null (array ds) = false
is_null (object ms) = false

-- Under that key, x is written as something that is not null and is read as y.
abbrev pub ComesBack : {A : Type 0} → Writes A → Reads A → Key → A → A → Type 0
ComesBack writes reads key x y =
    (d : Data) × (writes key x ≡ Ok d) × (reads key d ≡ Ok y) × (is_null d ≡ false)

pub text_back : (key : Key) (s : List ℕ) → ComesBack text_data text key s s
unfolding text
text_back key s = (string s, refl, refl, refl)

pub natural_back : (key : Key) (n : ℕ) → ComesBack natural_data natural key n n
unfolding natural
natural_back key n = (number _, refl, refl, refl)

pub truth_back : (key : Key) (b : Bool) → ComesBack truth_data truth key b b
unfolding truth
truth_back key b = (boolean b, refl, refl, refl)

pub integer_back : (key : Key) (z : ℤ) → FitsSigned w64 z → ComesBack integer_data integer key z z
unfolding integer
integer_back key (pos n) small = (number _, refl, rw (lt-ltb _ _ small.sfits) refl, refl)
integer_back key (negsuc n) small = (number _, refl, refl, refl)

all_back : {A : Type 0} (writes : Writes A) (reads : Reads A) (f : A → A) (key : Key)
    → ((x : A) → ComesBack writes reads key x (f x)) → (xs : List A)
    → (ds : List Data) × (all_data writes key xs ≡ Ok ds) × (all_read reads key (items_of ds) ≡ Ok (map f xs))
all_back writes reads f key back [] = ([], refl, refl)
all_back writes reads f key back (x ∷ xs) =
    let one = back x in
    let rest = all_back writes reads f key back xs in
    (one.0 ∷ rest.0, rw (one.1, rest.1) refl, rw (one.2, rest.2) refl)

pub list_back : {A : Type 0} (writes : Writes A) (reads : Reads A) (f : A → A) (key : Key)
    → ((x : A) → ComesBack writes reads key x (f x)) → (xs : List A)
    → ComesBack (list_data writes) (list_of reads) key xs (map f xs)
unfolding list_data list_of
list_back writes reads f key back xs =
    let all = all_back writes reads f key back xs in
    (array (items_of all.0), rw all.1 refl, all.2, refl)

-- ---- members that are read as they were written

there : (d : Data) (o : Option Data) (value : Result (Option Data) ReadError) → value ≡ Ok (Some d) → o ≡ over value None
    → o ≡ Some d
there d o value is found = found ∙ ap (λ v. over v None) is

always_is : {A : Type 0} (writes : Writes A) (key : Key) (x : A) (d : Data) → writes key x ≡ Ok d
    → always writes key x ≡ Ok (Some d)
unfolding always
always_is writes key x d is = rw is refl

-- a row that is always there, of a member that has to be
pub required_back : {A : Type 0} (writes : Writes A) (reads : Reads A) (key : Key) (x y : A) (ms : Members)
    → ComesBack writes reads key x y → get_member (key_name key) ms ≡ over (always writes key x) None
    → required reads key (object ms) ≡ Ok y
unfolding required
required_back writes reads key x y ms back found =
    rw (there back.0 _ _ (always_is writes key x back.0 back.1) found) back.2

-- of one that has a default
pub kept_back : {A : Type 0} (writes : Writes A) (reads : Reads A) (key : Key) (x y default : A) (ms : Members)
    → ComesBack writes reads key x y → get_member (key_name key) ms ≡ over (always writes key x) None
    → defaulted reads key default (object ms) ≡ Ok y
unfolding defaulted
kept_back writes reads key x y default ms back found =
    rw (there back.0 _ _ (always_is writes key x back.0 back.1) found) back.2

unless_back : {A : Type 0} (writes : Writes A) (reads : Reads A) (key : Key) (x y default : A) (b : Bool) (o : Option Data)
    → ComesBack writes reads key x y → (b ≡ true → default ≡ y)
    → o ≡ over (if b then Ok None else some (writes key x)) None → if_present (Ok default) (reads key) o ≡ Ok y
unless_back writes reads key x y default true o back blank found = rw found (ap Ok (blank refl))
unless_back writes reads key x y default false o back blank found =
    rw (there back.0 o _ (rw back.1 refl) found) back.2

-- a row that is left out at the default
pub defaulted_back : {A : Type 0} (writes : Writes A) (reads : Reads A) (is_blank : A → Bool) (key : Key) (x y default : A)
    (ms : Members) → ComesBack writes reads key x y → (is_blank x ≡ true → default ≡ y)
    → get_member (key_name key) ms ≡ over (unless is_blank writes key x) None
    → defaulted reads key default (object ms) ≡ Ok y
unfolding unless defaulted
defaulted_back writes reads is_blank key x y default ms back blank found =
    unless_back writes reads key x y default (is_blank x) (get_member (key_name key) ms) back blank found

not_null : {A : Type 0} (reads : Reads A) (key : Key) (d : Data) (y : A) → reads key d ≡ Ok y → is_null d ≡ false
    → unless_null reads key d ≡ Ok (Some y)
not_null reads key null y is other = absurd (true≢false other)
not_null reads key (boolean b) y is other = rw is refl
not_null reads key (number n) y is other = rw is refl
not_null reads key (string s) y is other = rw is refl
not_null reads key (array ds) y is other = rw is refl
not_null reads key (object ms) y is other = rw is refl

-- a row that is left out where there is no value
pub optional_back : {A : Type 0} (writes : Writes A) (reads : Reads A) (f : A → A) (key : Key) (x : Option A) (ms : Members)
    → ((v : A) → ComesBack writes reads key v (f v))
    → get_member (key_name key) ms ≡ over (where_some writes key x) None
    → optional reads key (object ms) ≡ Ok (option_map f x)
unfolding where_some optional
optional_back writes reads f key None ms back found = rw found refl
optional_back writes reads f key (Some v) ms back found =
    let one = back v in
    rw (there one.0 _ _ (rw one.1 refl) found) (not_null reads key one.0 (f v) one.2 one.3)

-- the same, of a value that is read as it was
pub optional_same : {A : Type 0} (writes : Writes A) (reads : Reads A) (key : Key) (x : Option A) (ms : Members)
    → ((v : A) → ComesBack writes reads key v v)
    → get_member (key_name key) ms ≡ over (where_some writes key x) None → optional reads key (object ms) ≡ Ok x
unfolding where_some optional
optional_same writes reads key None ms back found = rw found refl
optional_same writes reads key (Some v) ms back found =
    let one = back v in
    rw (there one.0 _ _ (rw one.1 refl) found) (not_null reads key one.0 v one.2 one.3)

-- ---- objects that are read as they were written

pub object_back : {A : Type 0} (rows : A → List Row) (fields : Data → Result A ReadError) (key : Key) (x y : A)
    → AreWritten (rows x) → ((ms : Members) → with_rows (Ok no_members) (rows x) ≡ Ok ms → fields (object ms) ≡ Ok y)
    → ComesBack (λ k c. object_of (with_rows (Ok no_members) (rows c))) (nested fields) key x y
unfolding object_of nested
object_back rows fields key x y all read =
    let made = rows_written (rows x) no_members all in
    (object made.0, rw made.1 refl, read made.0 made.1, refl)

-- ---- and written at all

pub always_written : {A : Type 0} (writes : Writes A) (reads : Reads A) (key : Key) (x y : A)
    → ComesBack writes reads key x y → (o : Option Data) × (always writes key x ≡ Ok o)
always_written writes reads key x y back = (Some back.0, always_is writes key x back.0 back.1)

unless_written_if : {A : Type 0} (writes : Writes A) (key : Key) (x : A) (d : Data) (b : Bool) → writes key x ≡ Ok d
    → (o : Option Data) × ((if b then Ok None else some (writes key x)) ≡ Ok o)
unless_written_if writes key x d true is = (None, refl)
unless_written_if writes key x d false is = (Some d, rw is refl)

pub unless_written : {A : Type 0} (writes : Writes A) (reads : Reads A) (is_blank : A → Bool) (key : Key) (x y : A)
    → ComesBack writes reads key x y → (o : Option Data) × (unless is_blank writes key x ≡ Ok o)
unfolding unless
unless_written writes reads is_blank key x y back = unless_written_if writes key x back.0 (is_blank x) back.1

pub where_some_written : {A : Type 0} (writes : Writes A) (reads : Reads A) (f : A → A) (key : Key) (x : Option A)
    → ((v : A) → ComesBack writes reads key v (f v)) → (o : Option Data) × (where_some writes key x ≡ Ok o)
unfolding where_some
where_some_written writes reads f key None back = (None, refl)
where_some_written writes reads f key (Some v) back = let one = back v in (Some one.0, rw one.1 refl)

-- ---- defaults

pub empty_is : {A : Type 0} (xs : List A) → is_empty xs ≡ true → [] ≡ xs
empty_is [] is = refl
empty_is (x ∷ xs) is = absurd (true≢false (sym is))

pub zero_is : (n : ℕ) → is_zero n ≡ true → 0 ≡ n
zero_is n is = sym ((Decides-eqb n 0).0 is)

pub zero_integer_is : (z : ℤ) → is_zero_integer z ≡ true → pos 0 ≡ z
zero_integer_is z is = sym ((Decides-int_eq z (pos 0)).0 is)

pub false_is : (b : Bool) → not b ≡ true → false ≡ b
false_is true is = absurd (true≢false (sym is))
false_is false is = refl
