-- A configuration and a request for a page always have a text.
use Rattle.std.proofs.Common.{◌≡◌, ℕ, ℤ, List, [], ◌∷◌, Bool, true, false, not, if◌then◌else◌, Option, Some, None, Result, Ok, Err, is_ok, refl, sym, ap, subst, ◌∙◌, true≢false}
use Rattle.std.specs.Prelude.{IfErr, IfOk}
use Rattle.js_base.specs.declared.memory.OutOfMemory.{OutOfMemory}
use Rattle.serde_json.specs.Data.{Data, Members, string, number, boolean, array, object, no_members}
use Rattle.serde_json.specs.View.{items_of, view}
use Rattle.serde_json.specs.Written.{compact_text, has_float}
use Rattle.serde_json.specs.declared.value.Value.{Value}
use Rattle.js_json_members.specs.declared.key.Key.{Key}
use Rattle.js_json_members.specs.declared.error.ReadError.{ReadError}
use Rattle.js_json_members.specs.declared.error.ReadError.TheVariants.{Missing, WrongKind, OutOfRange, Float, NotJson}
use Rattle.js_json_members.specs.declared.error.ReadError.TheVariants as read_error
use Rattle.js_json_members.specs.Member.{Fails, GivesAs}
use Rattle.js_json_members.specs.Rows.{Writes, Row, put_some, with_row, with_rows, object_of, always, unless, where_some, or_null, some, text_of, Shows}
use Rattle.js_json_members.specs.Rows.{text_data, natural_data, integer_data, truth_data, list_data, all_data, is_empty, is_zero, is_zero_integer}
use Rattle.js_json_stream_bodies.specs.declared.stream.config.Config.{Config}
use Rattle.js_json_stream_bodies.specs.declared.stream.page.NamesRequest.{NamesRequest}
use Rattle.js_json_stream_bodies.specs.declared.stream.placement.Placement.{Placement}
use Rattle.js_json_stream_bodies.specs.declared.stream.policies.Compression.TheVariants as compression
use Rattle.js_json_stream_bodies.specs.declared.stream.policies.DiscardPolicy.TheVariants as discard_policy
use Rattle.js_json_stream_bodies.specs.declared.stream.policies.RetentionPolicy.TheVariants as retention_policy
use Rattle.js_json_stream_bodies.specs.declared.stream.policies.StorageType.TheVariants as storage_type
use Rattle.js_json_stream_bodies.specs.Compression.{compression_data}
use Rattle.js_json_stream_bodies.specs.DiscardPolicy.{discard_policy_data}
use Rattle.js_json_stream_bodies.specs.External.{external_rows, external_value, external_data}
use Rattle.js_json_stream_bodies.specs.Page.{names_request_rows, names_request_value}
use Rattle.js_json_stream_bodies.specs.Placement.{placement_rows, placement_value, placement_data}
use Rattle.js_json_stream_bodies.specs.Republish.{republish_rows, republish_value, republish_data}
use Rattle.js_json_stream_bodies.specs.RetentionPolicy.{retention_policy_data}
use Rattle.js_json_stream_bodies.specs.Source.{source_rows, source_value, source_data}
use Rattle.js_json_stream_bodies.specs.StorageType.{storage_type_data}
use Rattle.js_json_stream_bodies.specs.StreamConfig.{config_rows, config_value}

-- it is written
abbrev pub IsWritten : {A : Type 0} → Result A ReadError → Type 0
IsWritten {A = A} r = (x : A) × (r ≡ Ok x)

-- whatever the value, it is written under any key
abbrev WritesAll : {A : Type 0} → Writes A → Type 0
WritesAll {A = A} writes = (key : Key) (x : A) → IsWritten (writes key x)

texts_written : WritesAll text_data
texts_written key s = (string s, refl)

naturals_written : WritesAll natural_data
naturals_written key n = (number _, refl)

integers_written : WritesAll integer_data
integers_written key z = (number _, refl)

truths_written : WritesAll truth_data
truths_written key b = (boolean b, refl)

all_written : {A : Type 0} (writes : Writes A) → WritesAll writes → (key : Key) (xs : List A) → IsWritten (all_data writes key xs)
all_written writes each key [] = ([], refl)
all_written writes each key (x ∷ xs) =
    let one = each key x in
    let rest = all_written writes each key xs in
    (one.0 ∷ rest.0, rw (one.1, rest.1) refl)

lists_written : {A : Type 0} (writes : Writes A) → WritesAll writes → WritesAll (list_data writes)
unfolding list_data
lists_written writes each key xs = let all = all_written writes each key xs in (array (items_of all.0), rw all.1 refl)

-- ---- rows

always_there : {A : Type 0} (writes : Writes A) → WritesAll writes → (key : Key) (x : A) → IsWritten (always writes key x)
unfolding always
always_there writes each key x = let one = each key x in (Some one.0, rw one.1 refl)

unless_there_if : {A : Type 0} (writes : Writes A) → WritesAll writes → (key : Key) (x : A) (b : Bool) → IsWritten (if b then Ok None else some (writes key x))
unless_there_if writes each key x true = (None, refl)
unless_there_if writes each key x false = let one = each key x in (Some one.0, rw one.1 refl)

unless_there : {A : Type 0} (is_blank : A → Bool) (writes : Writes A) → WritesAll writes → (key : Key) (x : A) → IsWritten (unless is_blank writes key x)
unfolding unless
unless_there is_blank writes each key x = unless_there_if writes each key x (is_blank x)

where_there : {A : Type 0} (writes : Writes A) → WritesAll writes → (key : Key) (x : Option A) → IsWritten (where_some writes key x)
unfolding where_some
where_there writes each key None = (None, refl)
where_there writes each key (Some v) = let one = each key v in (Some one.0, rw one.1 refl)

or_null_there : {A : Type 0} (writes : Writes A) → WritesAll writes → (key : Key) (x : Option A) → IsWritten (or_null writes key x)
unfolding or_null
or_null_there writes each key None = (Some _, refl)
or_null_there writes each key (Some v) = let one = each key v in (Some one.0, rw one.1 refl)

-- each row has a value to write, or writes nothing
abbrev AreWritten : List Row → Type 0
AreWritten [] = Unit {0}
AreWritten (row ∷ rows) = IsWritten row.1 × AreWritten rows

row_written : (key : Key) (value : Result (Option Data) ReadError) (o : Option Data) (ms : Members) → value ≡ Ok o
    → with_row key value (Ok ms) ≡ Ok (put_some key o ms)
unfolding with_row
row_written key value o ms is = rw is refl

rows_written : (rows : List Row) (ms : Members) → AreWritten rows → (new : Members) × (with_rows (Ok ms) rows ≡ Ok new)
rows_written [] ms all = (ms, refl)
rows_written (row ∷ rows) ms all =
    let next = put_some row.0 all.0.0 ms in
    let rest = rows_written rows next all.1 in
    (rest.0, ap (λ m. with_rows m rows) (row_written row.0 row.1 all.0.0 ms all.0.1) ∙ rest.1)

-- a fact beside others
infixr 10 ◌&◌
abbrev ◌&◌ : {A B : Type 0} → A → B → A × B
a & b = (a, b)

-- such rows make an object
objects_written : (rows : List Row) → AreWritten rows → IsWritten (object_of (with_rows (Ok no_members) rows))
unfolding object_of
objects_written rows all = let made = rows_written rows no_members all in (object made.0, rw made.1 refl)

-- ---- what stands in a configuration

retentions_written : WritesAll retention_policy_data
retentions_written key retention_policy.Limits = (string _, refl)
retentions_written key retention_policy.Interest = (string _, refl)
retentions_written key retention_policy.WorkQueue = (string _, refl)

storages_written : WritesAll storage_type_data
storages_written key storage_type.File = (string _, refl)
storages_written key storage_type.Memory = (string _, refl)

discards_written : WritesAll discard_policy_data
discards_written key discard_policy.Old = (string _, refl)
discards_written key discard_policy.New = (string _, refl)

compressions_written : WritesAll compression_data
compressions_written key compression.S2 = (string _, refl)
compressions_written key compression.None = (string _, refl)

externals_written : WritesAll external_data
unfolding external_value
externals_written key e =
    objects_written (external_rows e) (always_there text_data texts_written _ _ & where_there text_data texts_written _ _ & tt)

sources_written : WritesAll source_data
unfolding source_value
sources_written key s =
    objects_written (source_rows s)
    (always_there text_data texts_written _ _ &
    where_there natural_data naturals_written _ _ &
    where_there text_data texts_written _ _ &
    where_there external_data externals_written _ _ & tt)

republishes_written : WritesAll republish_data
unfolding republish_value
republishes_written key r =
    objects_written (republish_rows r)
    (always_there text_data texts_written _ _ & always_there text_data texts_written _ _ & always_there truth_data truths_written _ _ & tt)

placements_written : WritesAll placement_data
unfolding placement_value
placements_written key p =
    objects_written (placement_rows p)
    (where_there text_data texts_written _ _ & unless_there is_empty (list_data text_data) (lists_written text_data texts_written) _ _ & tt)

-- a configuration
pub config_written : (c : Config) → IsWritten (config_value c)
unfolding config_value
config_written c =
    objects_written (config_rows c)
    (always_there text_data texts_written _ _ &
    always_there retention_policy_data retentions_written _ _ &
    always_there storage_type_data storages_written _ _ &
    always_there discard_policy_data discards_written _ _ &
    where_there text_data texts_written _ _ &
    unless_there is_empty (list_data text_data) (lists_written text_data texts_written) _ _ &
    unless_there is_zero_integer integer_data integers_written _ _ &
    unless_there is_zero_integer integer_data integers_written _ _ &
    unless_there is_zero_integer integer_data integers_written _ _ &
    unless_there is_zero_integer integer_data integers_written _ _ &
    unless_there is_zero natural_data naturals_written _ _ &
    unless_there is_zero natural_data naturals_written _ _ &
    where_there republish_data republishes_written _ _ &
    unless_there not truth_data truths_written _ _ &
    unless_there not truth_data truths_written _ _ &
    unless_there not truth_data truths_written _ _ &
    unless_there not truth_data truths_written _ _ &
    unless_there not truth_data truths_written _ _ &
    where_there source_data sources_written _ _ &
    where_there (list_data source_data) (lists_written source_data sources_written) _ _ &
    where_there compression_data compressions_written _ _ &
    where_there placement_data placements_written _ _ &
    unless_there not truth_data truths_written _ _ &
    where_there natural_data naturals_written _ _ & tt)

-- a request for names
pub names_request_written : (request : NamesRequest) → IsWritten (names_request_value request)
unfolding names_request_value
names_request_written request =
    objects_written (names_request_rows request) (always_there natural_data naturals_written _ _ & or_null_there text_data texts_written _ _ & tt)

-- ---- and what that means for a call

-- what is written has a text
text_written : (r : Result Data ReadError) → IsWritten r → IsWritten (text_of r)
unfolding text_of
text_written r is = (compact_text is.0, rw is.1 refl)

-- where writing would not fail, a call fails for want of memory alone
only_memory : {A : Type 0} (e : ReadError) (r : Result A ReadError) → IsWritten r → Fails e r → e ≡ read_error.OutOfMemory
only_memory read_error.OutOfMemory r is h = refl
only_memory (Missing key) r is h = absurd (true≢false (ap is_ok (sym is.1 ∙ h)))
only_memory (WrongKind key) r is h = absurd (true≢false (ap is_ok (sym is.1 ∙ h)))
only_memory (OutOfRange key) r is h = absurd (true≢false (ap is_ok (sym is.1 ∙ h)))
only_memory Float r is h = absurd (true≢false (ap is_ok (sym is.1 ∙ h)))
only_memory NotJson r is h = absurd (true≢false (ap is_ok (sym is.1 ∙ h)))

-- from the clause of `to_text`
pub text_only_memory : {A : Type 0} (view : A → List ℕ) (made : Result A ReadError) (r : Result Data ReadError) → IsWritten r → GivesAs view made (text_of r) → IfErr made (λ e. e ≡ read_error.OutOfMemory)
text_only_memory view (Ok x) r is h = tt
text_only_memory view (Err e) r is h = only_memory e (text_of r) (text_written r is) h

-- from the clause of `to_value`
pub value_only_memory : (made : Result Value ReadError) (r : Result Data ReadError) → IsWritten r → Shows made r → IfErr made (λ e. e ≡ read_error.OutOfMemory)
value_only_memory (Ok x) r is h = tt
value_only_memory (Err e) r is h = only_memory e r is h

-- the body that is the text
pub body_written : {A : Type 0} (view : A → List ℕ) (made : Result A ReadError) (read : Result (List ℕ) ReadError) (text : A) (body : List ℕ) → GivesAs view made read → made ≡ Ok text → body ≡ view text → read ≡ Ok body
body_written view made read text body gives is same = subst (λ r. GivesAs view r read) is gives ∙ ap Ok (sym same)

-- what was written of a value that has JSON
pub value_of_written : (made : Result Value ReadError) (r : Result Data ReadError) (result : Result Value OutOfMemory) → Shows made r → IfOk result (λ value. made ≡ Ok value)
    → IfOk result (λ value. (r ≡ Ok (view value)) × (has_float (view value) ≡ false))
value_of_written made r (Ok value) shows is = subst (λ (m : Result Value ReadError). Shows m r) is shows
value_of_written made r (Err e) shows is = tt
