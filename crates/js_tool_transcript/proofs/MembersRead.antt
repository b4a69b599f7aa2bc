-- What is read of a value whose texts are UTF-8: its members, and texts and lists of them.
use Rattle.std.proofs.Common.{◌≡◌, ℕ, Bool, true, false, List, [], ◌∷◌, Option, Some, None, Result, Ok, Err, IfOk, refl}
use Rattle.std.specs.Prelude.{IfSome, if◌then◌else◌}
use Rattle.std.specs.List.{AllByRecursion}
use Rattle.std.specs.Option.{ok_or}
use Rattle.std.specs.Ordering.{nat_cmp, match_ordering}
use Rattle.std.specs.Cmp.Lexicographic.{slice_cmp}
use Rattle.std.specs.declared.cmp.Ordering.{Ordering}
use Rattle.std.specs.declared.cmp.Ordering.TheVariants.{Less, Equal, Greater}
use Rattle.std.specs.Str.{IsUtf8, is_utf8, bytes_eq}
use Rattle.std.proofs.lemmas.Str.{IsUtf8-from_is_utf8}
use Rattle.serde_json.specs.Data.{Data, null, boolean, number, string, array, object, Items, no_items, item, Members, no_members, member}
use Rattle.serde_json.specs.Find.{get, get_member}
use Rattle.serde_json.specs.Read.{read}
use Rattle.serde_json.specs.Written.{has_float}
use Rattle.js_json_members.specs.declared.key.Key.{Key}
use Rattle.js_json_members.specs.Key.{key_name}
use Rattle.js_json_members.specs.declared.error.ReadError.{ReadError}
use Rattle.js_json_members.specs.declared.error.ReadError.TheVariants.{NotJson, Float, Missing, OutOfRange}
use Rattle.js_json_members.specs.Member.{◌>>=◌, Reads, if_present, required, defaulted, unless_null, optional, given, text, all_read, list_of, named, nested, float_free}
use Rattle.js_json_members.specs.Member as reading
use Rattle.js_json_members.specs.Value.{without_float, value_of}
use Rattle.js_tool_transcript.proofs.ValuesRead.{IsTextValue, AreTextValues, AreTextNamed, read_is}

-- ---- one after another

-- what follows a reading that gives this, and one of which nothing is asked
pub then_is : {A B : Type 0} (P : A → Type 0) (Q : B → Type 0) (r : Result A ReadError) (f : A → Result B ReadError) → IfOk r P → ((x : A) → P x → IfOk (f x) Q) → IfOk (r >>= f) Q
then_is P Q (Ok x) f is next = next x is
then_is P Q (Err e) f is next = tt

pub then_any : {A B : Type 0} (Q : B → Type 0) (r : Result A ReadError) (f : A → Result B ReadError) → ((x : A) → IfOk (f x) Q) → IfOk (r >>= f) Q
then_any Q (Ok x) f next = next x
then_any Q (Err e) f next = tt

or_is : {A : Type 0} (P : A → Type 0) (o : Option A) (e : ReadError) → IfSome o P → IfOk (ok_or o e) P
or_is P None e is = tt
or_is P (Some x) e is = is

-- ---- members

-- a reader gives this of a value whose texts are UTF-8
abbrev pub Gives : {A : Type 0} → (A → Type 0) → (Data → Result A ReadError) → Type 0
Gives P reads = (d : Data) → IsTextValue d → IfOk (reads d) P

member_is : (name : List ℕ) (ms : Members) → AreTextNamed ms → IfSome (get_member name ms) IsTextValue
member_is name no_members are = tt
member_is name (member l e ms) are = by_order (slice_cmp nat_cmp name l) (member_is name ms are.2)
  where
    by_order : (o : Ordering) → IfSome (get_member name ms) IsTextValue → IfSome (match_ordering o (get_member name ms) (Some e) (get_member name ms)) IsTextValue
    by_order Less rest = rest
    by_order Equal rest = are.1
    by_order Greater rest = rest

get_is : (name : List ℕ) (d : Data) → IsTextValue d → IfSome (get name d) IsTextValue
get_is name null is = tt
get_is name (boolean b) is = tt
get_is name (number n) is = tt
get_is name (string s) is = tt
get_is name (array ds) is = tt
get_is name (object ms) is = member_is name ms is

present_is : {A : Type 0} (P : A → Type 0) (absent : Result A ReadError) (reads : Data → Result A ReadError) → IfOk absent P → Gives P reads
    → (o : Option Data) → IfSome o IsTextValue → IfOk (if_present absent reads o) P
present_is P absent reads default gives None is = default
present_is P absent reads default gives (Some d) is = gives d is

pub required_is : {A : Type 0} (P : A → Type 0) (reads : Reads A) (k : Key) → Gives P (reads k) → Gives P (required reads k)
unfolding required
required_is P reads k gives d is = present_is P (Err (Missing k)) (reads k) tt gives (get (key_name k) d) (get_is (key_name k) d is)

pub defaulted_is : {A : Type 0} (P : A → Type 0) (reads : Reads A) (k : Key) (default : A) → P default → Gives P (reads k) → Gives P (defaulted reads k default)
unfolding defaulted
defaulted_is P reads k default at_default gives d is = present_is P (Ok default) (reads k) at_default gives (get (key_name k) d) (get_is (key_name k) d is)

some_is : {A : Type 0} (P : A → Type 0) (r : Result A ReadError) → IfOk r P → IfOk (r >>= λ x. Ok (Some x)) (λ o. IfSome o P)
some_is P (Ok x) is = is
some_is P (Err e) is = tt

unless_null_is : {A : Type 0} (P : A → Type 0) (reads : Reads A) (k : Key) → Gives P (reads k) → Gives (λ o. IfSome o P) (unless_null reads k)
unless_null_is P reads k gives null is = tt
unless_null_is P reads k gives (boolean b) is = some_is P (reads k (boolean b)) (gives (boolean b) is)
unless_null_is P reads k gives (number n) is = some_is P (reads k (number n)) (gives (number n) is)
unless_null_is P reads k gives (string s) is = some_is P (reads k (string s)) (gives (string s) is)
unless_null_is P reads k gives (array ds) is = some_is P (reads k (array ds)) (gives (array ds) is)
unless_null_is P reads k gives (object ms) is = some_is P (reads k (object ms)) (gives (object ms) is)

pub optional_is : {A : Type 0} (P : A → Type 0) (reads : Reads A) (k : Key) → Gives P (reads k) → Gives (λ o. IfSome o P) (optional reads k)
unfolding optional
optional_is P reads k gives d is =
    present_is (λ o. IfSome o P) (Ok None) (unless_null reads k) tt (unless_null_is P reads k gives) (get (key_name k) d) (get_is (key_name k) d is)

pub given_is : {A : Type 0} (P : A → Type 0) (reads : Reads A) (k : Key) → Gives P (reads k) → Gives (λ o. IfSome o P) (given reads k)
unfolding given
given_is P reads k gives d is =
    present_is (λ o. IfSome o P) (Ok None) (λ x. reads k x >>= λ x. Ok (Some x)) tt (λ d is. some_is P (reads k d) (gives d is)) (get (key_name k) d) (get_is (key_name k) d is)

-- ---- texts, lists and objects

pub text_is : (k : Key) → Gives IsUtf8 (text k)
unfolding text
text_is k null is = tt
text_is k (boolean b) is = tt
text_is k (number n) is = tt
text_is k (string s) is = is
text_is k (array ds) is = tt
text_is k (object ms) is = tt

all_is : {A : Type 0} (P : A → Type 0) (reads : Reads A) (k : Key) → Gives P (reads k) → (ds : Items) → AreTextValues ds → IfOk (all_read reads k ds) (AllByRecursion P)
all_is P reads k gives no_items are = tt
all_is P reads k gives (item d ds) are =
    let rest = all_is P reads k gives ds are.1 in
    then_is P (AllByRecursion P) (reads k d) (λ x. all_read reads k ds >>= λ xs. Ok (x ∷ xs)) (gives d are.0)
    (λ x first. then_is (AllByRecursion P) (AllByRecursion P) (all_read reads k ds) (λ xs. Ok (x ∷ xs)) rest (λ xs more. (first, more)))

pub list_is : {A : Type 0} (P : A → Type 0) (reads : Reads A) (k : Key) → Gives P (reads k) → Gives (AllByRecursion P) (list_of reads k)
unfolding list_of
list_is P reads k gives null is = tt
list_is P reads k gives (boolean b) is = tt
list_is P reads k gives (number n) is = tt
list_is P reads k gives (string s) is = tt
list_is P reads k gives (array ds) is = all_is P reads k gives ds is
list_is P reads k gives (object ms) is = tt

pub nested_is : {A : Type 0} (P : A → Type 0) (fields : Data → Result A ReadError) (k : Key) → Gives P fields → Gives P (nested fields k)
unfolding nested
nested_is P fields k gives null is = tt
nested_is P fields k gives (boolean b) is = tt
nested_is P fields k gives (number n) is = tt
nested_is P fields k gives (string s) is = tt
nested_is P fields k gives (array ds) is = tt
nested_is P fields k gives (object ms) is = gives (object ms) is

-- of a table in which all values are so
pub row_is : {A : Type 0} (P : A → Type 0) (rows : List (List ℕ × A)) → AllByRecursion (λ row. P row.1) rows → (name : List ℕ) → IfSome (reading.value_of rows name) P
row_is P [] are name = tt
row_is P (row ∷ rows) are name = by_test (bytes_eq name row.0) (row_is P rows are.1 name)
  where
    by_test : (b : Bool) → IfSome (reading.value_of rows name) P → IfSome (if b then Some row.1 else reading.value_of rows name) P
    by_test true rest = are.0
    by_test false rest = rest

-- a name that is known as one of these
pub named_is : {A : Type 0} (P : A → Type 0) (value_of : List ℕ → Option A) (k : Key) → ((name : List ℕ) → IfSome (value_of name) P) → Gives P (named value_of k)
unfolding named
named_is P value_of k are d is = then_any P (text k d) (λ name. ok_or (value_of name) (OutOfRange k)) (λ name. or_is P (value_of name) (OutOfRange k) (are name))

-- ---- a whole value

unless_float : (d : Data) → IsTextValue d → IfOk (float_free Ok d) IsTextValue
unfolding float_free
unless_float d is = by_test (has_float d)
  where
    by_test : (b : Bool) → IfOk (if b then Err Float else Ok d) IsTextValue
    by_test true = tt
    by_test false = is

pub value_is : (bytes : List ℕ) → IfOk (value_of bytes) IsTextValue
unfolding value_of
value_is bytes = by_test (is_utf8 bytes) refl
  where
    whole : (o : Option Data) → IfSome o IsTextValue → IfOk (without_float o) IsTextValue
    whole None is = tt
    whole (Some d) is = unless_float d is

    by_test : (b : Bool) → is_utf8 bytes ≡ b → IfOk (if b then without_float (read bytes) else Err NotJson) IsTextValue
    by_test true is = whole (read bytes) (read_is bytes (IsUtf8-from_is_utf8 bytes is))
    by_test false is = tt
