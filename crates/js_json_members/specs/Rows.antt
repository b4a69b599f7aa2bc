-- An object from the rows of a table.
use Rattle.std.specs.Prelude.{◌≡◌, ℕ, ℤ, pos, List, [], ◌∷◌, Option, Some, None, option_map, Result, Ok, Err, Bool}
use Rattle.std.specs.Prelude.{true, false, ◌==◌, if◌then◌else◌}
use Rattle.std.specs.Option.{ok_or}
use Rattle.std.specs.Ordering.{int_eq}
use Rattle.std.specs.Fmt.{decimal}
use Rattle.jiff.specs.Types.{Timestamp}
use Rattle.serde_json.specs.Find.{of_integer}
use Rattle.serde_json.specs.Data.{Data, null, boolean, number, unsigned, string, array, object, Members, no_members}
use Rattle.serde_json.specs.Data.{put}
use Rattle.serde_json.specs.View.{view, items_of}
use Rattle.serde_json.specs.Written.{has_float, items_have_float, compact_text}
use Rattle.serde_json.specs.declared.value.Value.{Value}
use Rattle.js_json_members.specs.declared.key.Key.{Key}
use Rattle.js_json_members.specs.Key.{key_name}
use Rattle.js_json_members.specs.declared.error.ReadError.{ReadError}
use Rattle.js_json_members.specs.declared.error.ReadError.TheVariants.{OutOfRange}
use Rattle.js_json_members.specs.Member.{◌>>=◌, Fails}
use Rattle.js_json_members.specs.Instant.{instant_text}

-- How a value is written, by its key, which a fault names.
abbrev pub Writes : Type 0 → Type 0
Writes A = Key → A → Result Data ReadError

-- A call answers this, seen by a view, and no float stands in it, unless memory ran out.
abbrev pub ShowsAs : {A B : Type 0} → (A → B) → (B → Bool) → Result A ReadError → Result B ReadError → Type 0
ShowsAs view has_float (Ok x) read = (read ≡ Ok (view x)) × (has_float (view x) ≡ false)
ShowsAs view has_float (Err e) read = Fails e read

-- A call answers this value, unless memory ran out.
abbrev pub Shows : Result Value ReadError → Result Data ReadError → Type 0
Shows = ShowsAs view has_float

-- whether a float stands in one of the values
abbrev pub list_has_float : List Data → Bool
list_has_float ds = items_have_float (items_of ds)

-- whether one stands in the value of a row
abbrev pub row_has_float : Option Data → Bool
row_has_float None = false
row_has_float (Some d) = has_float d

-- ---- rows

-- of a row that is left out the value is `None`
abbrev pub Row : Type 0
Row = Key × Result (Option Data) ReadError

-- a row, whose faults name its key
abbrev pub row : Key → (Key → Result (Option Data) ReadError) → Row
row key value = (key, value key)

-- the members with that row
abbrev pub put_some : Key → Option Data → Members → Members
put_some key None ms = ms
put_some key (Some d) ms = put (key_name key) d ms

-- the same, unless the members or the row failed
unfoldable pub with_row : Key → Result (Option Data) ReadError → Result Members ReadError → Result Members ReadError
with_row key value members = do
  ms ← members
  d ← value
  Ok (put_some key d ms)

-- the rows one after another
abbrev pub with_rows : Result Members ReadError → List Row → Result Members ReadError
with_rows members [] = members
with_rows members (row ∷ rows) = with_rows (with_row row.0 row.1 members) rows

-- the object of all rows
unfoldable pub object_of : Result Members ReadError → Result Data ReadError
object_of members = members >>= λ ms. Ok (object ms)

-- a row that is there
abbrev pub some : Result Data ReadError → Result (Option Data) ReadError
some d = d >>= λ d. Ok (Some d)

-- a row that is always there
unfoldable pub always : {A : Type 0} → Writes A → Key → A → Result (Option Data) ReadError
always writes key x = some (writes key x)

-- a row that is left out at the default
unfoldable pub unless : {A : Type 0} → (A → Bool) → Writes A → Key → A → Result (Option Data) ReadError
unless is_blank writes key x = if is_blank x then Ok None else some (writes key x)

-- a row that is left out where there is no value
unfoldable pub where_some : {A : Type 0} → Writes A → Key → Option A → Result (Option Data) ReadError
where_some writes key None = Ok None
where_some writes key (Some x) = some (writes key x)

-- a row that is null where there is no value
unfoldable pub or_null : {A : Type 0} → Writes A → Key → Option A → Result (Option Data) ReadError
or_null writes key None = Ok (Some null)
or_null writes key (Some x) = some (writes key x)

-- ---- the kinds of values

-- a text
abbrev pub text_data : Writes (List ℕ)
text_data key s = Ok (string s)

-- a number from 0 on
abbrev pub natural_data : Writes ℕ
natural_data key n = Ok (number (unsigned n))

-- a number with a sign
abbrev pub integer_data : Writes ℤ
integer_data key z = Ok (number (of_integer z))

-- true or false
abbrev pub truth_data : Writes Bool
truth_data key b = Ok (boolean b)

-- a number as a text
abbrev pub percent_data : Writes ℕ
percent_data key n = Ok (string (decimal n))

-- the text of an instant, which has to be in the years 0 to 9999
abbrev pub instant_data : Writes Timestamp
instant_data key t = ok_or (option_map string (instant_text t.nanosecond)) (OutOfRange key)

-- the values one after another, up to the first fault
abbrev pub all_data : {A : Type 0} → Writes A → Key → List A → Result (List Data) ReadError
all_data writes key [] = Ok []
all_data writes key (x ∷ xs) = writes key x >>= λ d. all_data writes key xs >>= λ ds. Ok (d ∷ ds)

-- an array
unfoldable pub list_data : {A : Type 0} → Writes A → Writes (List A)
list_data writes key xs = all_data writes key xs >>= λ ds. Ok (array (items_of ds))

-- the members of those names beside others
abbrev pub entries_data : {A : Type 0} → Writes A → Key → Members → List (List ℕ × A) → Result Members ReadError
entries_data writes key ms [] = Ok ms
entries_data writes key ms (e ∷ es) = do
  d ← writes key e.1
  entries_data writes key (put e.0 d ms) es

-- an object
unfoldable pub by_name_data : {A : Type 0} → Writes A → Writes (List (List ℕ × A))
by_name_data writes key es = entries_data writes key no_members es >>= λ ms. Ok (object ms)

-- the defaults that may be left out
abbrev pub is_empty : {A : Type 0} → List A → Bool
is_empty [] = true
is_empty (x ∷ xs) = false

abbrev pub is_zero : ℕ → Bool
is_zero n = n == 0

abbrev pub is_zero_integer : ℤ → Bool
is_zero_integer z = int_eq z (pos 0)

-- ---- texts

-- the bytes of a value
unfoldable pub text_of : Result Data ReadError → Result (List ℕ) ReadError
text_of value = value >>= λ d. Ok (compact_text d)
