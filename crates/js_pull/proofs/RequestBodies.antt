-- Whatever a pull request asks for can be written.
use Rattle.std.proofs.Common.{◌≡◌, refl, sym, ap, ◌∙◌, ℕ, List, [], ◌∷◌, Option, Some, None, Result, Ok, is_ok, Bool, true, false, true≢false, if◌then◌else◌, not}
use Rattle.serde_json.specs.Data.{Data, null, object, Members, no_members}
use Rattle.serde_json.specs.Written.{compact_text}
use Rattle.js_json.specs.Batch.{batch_config_rows, pull_request_value}
use Rattle.js_json.specs.declared.pull.batch.BatchConfig.{BatchConfig}
use Rattle.js_json_members.specs.Member.{Fails}
use Rattle.js_json_members.specs.Rows.{Writes, Row, with_row, with_rows, put_some, always, unless, where_some, or_null, some, text_data, natural_data, truth_data, is_zero, object_of, text_of}
use Rattle.js_json_members.specs.declared.error.ReadError.{ReadError}
use Rattle.js_json_members.specs.declared.error.ReadError.TheVariants.{Missing, WrongKind, OutOfRange, Float, NotJson, OutOfMemory}
use Rattle.js_json_members.specs.declared.key.Key.{Key}
use Rattle.js_json_members.specs.declared.key.Key.TheVariants as key

-- every value of the type is written, under every key
abbrev IsWritten : {A : Type 0} → Writes A → Type 0
IsWritten {A} writes = (k : Key) (x : A) → (d : Data) × (writes k x ≡ Ok d)

-- the row has a value, or is left out
abbrev Fills : Result (Option Data) ReadError → Type 0
Fills value = (o : Option Data) × (value ≡ Ok o)

-- each of the rows does
abbrev AreFilled : List Row → Type 0
AreFilled [] = Unit {0}
AreFilled (row ∷ rows) = Fills row.1 × AreFilled rows

-- a fact beside others
infixr 20 ◌&◌
abbrev ◌&◌ : {A B : Type 0} → A → B → A × B
a & b = (a, b)

row_filled : (k : Key) (value : Result (Option Data) ReadError) (o : Option Data) (ms : Members) → value ≡ Ok o → with_row k value (Ok ms) ≡ Ok (put_some k o ms)
unfolding with_row
row_filled k value o ms is = rw is refl

-- such rows make an object
rows_filled : (rows : List Row) (ms : Members) → AreFilled rows → (new : Members) × (with_rows (Ok ms) rows ≡ Ok new)
rows_filled [] ms all = (ms, refl)
rows_filled (row ∷ rows) ms all =
    let next = put_some row.0 all.0.0 ms in
    let rest = rows_filled rows next all.1 in
    (rest.0, ap (λ m. with_rows m rows) (row_filled row.0 row.1 all.0.0 ms all.0.1) ∙ rest.1)

some_fills : (value : Result Data ReadError) (d : Data) → value ≡ Ok d → Fills (some value)
some_fills value d is = (Some d, rw is refl)

-- ---- kinds of rows

always_fills : {A : Type 0} (writes : Writes A) (k : Key) (x : A) → IsWritten writes → Fills (always writes k x)
unfolding always
always_fills writes k x all = some_fills (writes k x) (all k x).0 (all k x).1

fills_unless : (b : Bool) (value : Result Data ReadError) (d : Data) → value ≡ Ok d → Fills (if b then Ok None else some value)
fills_unless true value d is = (None, refl)
fills_unless false value d is = some_fills value d is

unless_fills : {A : Type 0} (is_blank : A → Bool) (writes : Writes A) (k : Key) (x : A) → IsWritten writes → Fills (unless is_blank writes k x)
unfolding unless
unless_fills is_blank writes k x all = fills_unless (is_blank x) (writes k x) (all k x).0 (all k x).1

where_fills : {A : Type 0} (writes : Writes A) (k : Key) (x : Option A) → IsWritten writes → Fills (where_some writes k x)
unfolding where_some
where_fills writes k None all = (None, refl)
where_fills writes k (Some v) all = some_fills (writes k v) (all k v).0 (all k v).1

null_fills : {A : Type 0} (writes : Writes A) (k : Key) (x : Option A) → IsWritten writes → Fills (or_null writes k x)
unfolding or_null
null_fills writes k None all = (Some null, refl)
null_fills writes k (Some v) all = some_fills (writes k v) (all k v).0 (all k v).1

texts : IsWritten text_data
texts k s = (_, refl)

naturals : IsWritten natural_data
naturals k n = (_, refl)

truths : IsWritten truth_data
truths k b = (_, refl)

-- ---- the request

all_rows : (c : BatchConfig) → AreFilled (batch_config_rows c)
all_rows c =
    always_fills natural_data _ c.batch naturals & where_fills natural_data _ c.expires naturals &
    unless_fills not truth_data _ c.no_wait truths & always_fills natural_data _ c.max_bytes naturals &
    unless_fills is_zero natural_data _ c.idle_heartbeat naturals & null_fills natural_data _ c.min_pending naturals &
    null_fills natural_data _ c.min_ack_pending naturals & null_fills text_data _ c.group texts &
    null_fills natural_data _ c.priority naturals & tt

text_written : (value : Result Data ReadError) (d : Data) → value ≡ Ok d → (text : List ℕ) × (text_of value ≡ Ok text)
unfolding text_of
text_written value d is = (compact_text d, rw is refl)

request_value : (pin : Option (List ℕ)) (c : BatchConfig) → (d : Data) × (pull_request_value pin c ≡ Ok d)
unfolding pull_request_value object_of
request_value pin c =
    let made = rows_filled ((key.Id, where_some text_data key.Id pin) ∷ batch_config_rows c) no_members (where_fills text_data key.Id pin texts & all_rows c) in
    (object made.0, rw made.1 refl)

request_text : (pin : Option (List ℕ)) (c : BatchConfig) → (text : List ℕ) × (text_of (pull_request_value pin c) ≡ Ok text)
request_text pin c = let value = request_value pin c in text_written (pull_request_value pin c) value.0 value.1

-- nothing but memory is wanting where an answer is as well as this
fails_only : (e : ReadError) (read : Result (List ℕ) ReadError) (text : List ℕ) → read ≡ Ok text → Fails e read → e ≡ OutOfMemory
fails_only OutOfMemory read text is fails = refl
fails_only (Missing k) read text is fails = absurd (true≢false (ap is_ok (sym is ∙ fails)))
fails_only (WrongKind k) read text is fails = absurd (true≢false (ap is_ok (sym is ∙ fails)))
fails_only (OutOfRange k) read text is fails = absurd (true≢false (ap is_ok (sym is ∙ fails)))
fails_only Float read text is fails = absurd (true≢false (ap is_ok (sym is ∙ fails)))
fails_only NotJson read text is fails = absurd (true≢false (ap is_ok (sym is ∙ fails)))

-- so only memory keeps a request from being written
pub lacks_memory : (e : ReadError) (pin : Option (List ℕ)) (c : BatchConfig) → Fails e (text_of (pull_request_value pin c)) → e ≡ OutOfMemory
lacks_memory e pin c fails = let written = request_text pin c in fails_only e (text_of (pull_request_value pin c)) written.0 written.1 fails
