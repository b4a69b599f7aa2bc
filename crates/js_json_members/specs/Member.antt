-- Reading a member of a JSON object, and which fault comes first.
use Rattle.std.specs.Prelude.{◌≡◌, ℕ, ℤ, ◌^◌, List, [], ◌∷◌, Option, Some, None, Result, Ok, Err, Bool, nat_lt}
use Rattle.std.specs.Prelude.{if◌then◌else◌}
use Rattle.std.specs.Option.{ok_or}
use Rattle.std.specs.Ordering.{nat_cmp}
use Rattle.std.specs.Cmp.Lexicographic.{slice_cmp}
use Rattle.std.specs.BTreeMap.{insert_entry}
use Rattle.std.specs.Str.{bytes_eq}
use Rattle.serde_json.specs.Data.{Data, null, boolean, number, string, array, object, Items, no_items, item, Members}
use Rattle.serde_json.specs.Data.{no_members, member}
use Rattle.serde_json.specs.Find.{get, as_str, as_bool, as_number, as_array, as_object, as_u64, as_i64}
use Rattle.serde_json.specs.Written.{has_float}
use Rattle.js_json_members.specs.declared.key.Key.{Key}
use Rattle.js_json_members.specs.Key.{key_name}
use Rattle.js_json_members.specs.declared.error.ReadError.{ReadError}
use Rattle.js_json_members.specs.declared.error.ReadError.TheVariants.{Missing, WrongKind, OutOfRange, Float, NotJson}
use Rattle.js_json_members.specs.declared.error.ReadError.TheVariants.{OutOfMemory}

-- the first fault, or what follows
infixl 10 ◌>>=◌
abbrev pub ◌>>=◌ : {A B : Type 0} → Result A ReadError → (A → Result B ReadError) → Result B ReadError
(Ok x) >>= f = f x
(Err e) >>= f = Err e

-- An error is the one that reading gives, unless memory ran out.
abbrev pub Fails : {A : Type 0} → ReadError → Result A ReadError → Type 0
Fails OutOfMemory read = Unit {0}
Fails (Missing key) read = read ≡ Err (Missing key)
Fails (WrongKind key) read = read ≡ Err (WrongKind key)
Fails (OutOfRange key) read = read ≡ Err (OutOfRange key)
Fails Float read = read ≡ Err Float
Fails NotJson read = read ≡ Err NotJson

-- A call answers what reading gives, unless memory ran out.
abbrev pub Gives : {A : Type 0} → Result A ReadError → Result A ReadError → Type 0
Gives (Ok x) read = read ≡ Ok x
Gives (Err e) read = Fails e read

-- the same, of an answer that is seen by a view
abbrev pub GivesAs : {A B : Type 0} → (A → B) → Result A ReadError → Result B ReadError → Type 0
GivesAs view (Ok x) read = read ≡ Ok (view x)
GivesAs view (Err e) read = Fails e read

-- How the value of a member is read: by its key, which its faults name.
abbrev pub Reads : Type 0 → Type 0
Reads A = Key → Data → Result A ReadError

-- ---- members

-- what stands for an absent member, or the member as it is read
abbrev pub if_present : {A : Type 0} → Result A ReadError → (Data → Result A ReadError) → Option Data
    → Result A ReadError
if_present absent read None = absent
if_present absent read (Some d) = read d

-- a member that has to be there
unfoldable pub required : {A : Type 0} → Reads A → Key → Data → Result A ReadError
required reads key d = if_present (Err (Missing key)) (reads key) (get (key_name key) d)

-- a member that has a default where it is absent
unfoldable pub defaulted : {A : Type 0} → Reads A → Key → A → Data → Result A ReadError
defaulted reads key default d = if_present (Ok default) (reads key) (get (key_name key) d)

-- null is none
abbrev pub unless_null : {A : Type 0} → Reads A → Reads (Option A)
unless_null reads key null = Ok None
unless_null reads key (boolean b) = reads key (boolean b) >>= λ x. Ok (Some x)
unless_null reads key (number n) = reads key (number n) >>= λ x. Ok (Some x)
unless_null reads key (string s) = reads key (string s) >>= λ x. Ok (Some x)
unless_null reads key (array ds) = reads key (array ds) >>= λ x. Ok (Some x)
unless_null reads key (object ms) = reads key (object ms) >>= λ x. Ok (Some x)

-- a member that may be absent or null
unfoldable pub optional : {A : Type 0} → Reads A → Key → Data → Result (Option A) ReadError
optional reads key d = if_present (Ok None) (unless_null reads key) (get (key_name key) d)

-- a member that may be absent
unfoldable pub given : {A : Type 0} → Reads A → Key → Data → Result (Option A) ReadError
given reads key d = if_present (Ok None) (λ x. reads key x >>= λ x. Ok (Some x)) (get (key_name key) d)

-- ---- the kinds of values

-- a text
unfoldable pub text : Reads (List ℕ)
text key d = ok_or (as_str d) (WrongKind key)

-- true or false
unfoldable pub truth : Reads Bool
truth key d = ok_or (as_bool d) (WrongKind key)

-- a whole number from 0 to u64's end
unfoldable pub natural : Reads ℕ
natural key d = ok_or (as_number d) (WrongKind key) >>= λ n. ok_or (as_u64 n) (OutOfRange key)

-- a whole number of so many bits
unfoldable pub natural_of : ℕ → Reads ℕ
natural_of bits key d = natural key d >>= λ n. if nat_lt n (2 ^ bits) then Ok n else Err (OutOfRange key)

-- a whole number of i64
unfoldable pub integer : Reads ℤ
integer key d = ok_or (as_number d) (WrongKind key) >>= λ n. ok_or (as_i64 n) (OutOfRange key)

-- the items one after another, up to the first fault
abbrev pub all_read : {A : Type 0} → Reads A → Key → Items → Result (List A) ReadError
all_read reads key no_items = Ok []
all_read reads key (item d ds) = reads key d >>= λ x. all_read reads key ds >>= λ xs. Ok (x ∷ xs)

-- an array of values of one kind
unfoldable pub list_of : {A : Type 0} → Reads A → Reads (List A)
list_of reads key d = ok_or (as_array d) (WrongKind key) >>= all_read reads key

-- a text that a table or another reader knows
unfoldable pub named : {A : Type 0} → (List ℕ → Option A) → Reads A
named value_of key d = text key d >>= λ name. ok_or (value_of name) (OutOfRange key)

-- the value beside a name
abbrev pub value_of : {A : Type 0} → List (List ℕ × A) → List ℕ → Option A
value_of [] name = None
value_of (row ∷ rows) name = if bytes_eq name row.0 then Some row.1 else value_of rows name

-- The members go in one after another, by the order of their names.
abbrev pub entries_with : {A : Type 0} → Reads A → Key → List (List ℕ × A) → Members
    → Result (List (List ℕ × A)) ReadError
entries_with reads key found no_members = Ok found
entries_with reads key found (member name d ms) =
    reads key d >>= λ x. entries_with reads key (insert_entry (slice_cmp nat_cmp) found name x) ms

-- an object whose members are values of one kind
unfoldable pub by_name : {A : Type 0} → Reads A → Reads (List (List ℕ × A))
by_name reads key d = ok_or (as_object d) (WrongKind key) >>= entries_with reads key []

-- an object, by its fields
unfoldable pub nested : {A : Type 0} → (Data → Result A ReadError) → Reads A
nested fields key d = ok_or (as_object d) (WrongKind key) >>= λ ms. fields (object ms)

-- ---- a whole value

-- a value in which no float stands
unfoldable pub float_free : {A : Type 0} → (Data → Result A ReadError) → Data → Result A ReadError
float_free fields d = if has_float d then Err Float else fields d
