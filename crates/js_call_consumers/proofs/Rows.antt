-- What keeps a configuration from being written.
use Rattle.std.proofs.Common.{◌≡◌, refl, ap, ◌∙◌, ℕ, List, [], ◌∷◌, Option, Some, None, Result, Ok, Bool, true, false, if◌then◌else◌, not}
use Rattle.jiff.specs.Types.{Timestamp}
use Rattle.serde_json.specs.Data.{Data, string, array, object, Members, no_members, put}
use Rattle.serde_json.specs.View.{items_of}
use Rattle.serde_json.specs.Written.{compact_text}
use Rattle.js_json_members.specs.declared.key.Key.{Key}
use Rattle.js_json_members.specs.declared.error.ReadError.{ReadError}
use Rattle.js_json_members.specs.Rows.{Writes, Row, with_row, with_rows, put_some, always, unless, where_some, some, text_data, natural_data, integer_data, truth_data, percent_data, instant_data}
use Rattle.js_json_members.specs.Rows.{list_data, all_data, by_name_data, entries_data, is_empty, is_zero, is_zero_integer, object_of, text_of}
use Rattle.js_json.specs.ConsumerConfig.{config_rows, config_value, config_data}
use Rattle.js_json.specs.CreateRequest.{action_data, create_request_rows, create_request_value}
use Rattle.js_json.specs.AckPolicy.{ack_policy_data}
use Rattle.js_json.specs.DeliverPolicy.{deliver_policy_data}
use Rattle.js_json.specs.PriorityPolicy.{priority_policy_data, is_blank_priority_policy}
use Rattle.js_json.specs.ReplayPolicy.{replay_policy_data}
use Rattle.js_json.specs.declared.consumer.config.Config.{Config}
use Rattle.js_json.specs.declared.consumer.deliver_policy.DeliverPolicy.TheVariants as deliver
use Rattle.js_json.specs.declared.consumer.policies.AckPolicy.TheVariants as ack
use Rattle.js_json.specs.declared.consumer.policies.PriorityPolicy.TheVariants as priority
use Rattle.js_json.specs.declared.consumer.policies.ReplayPolicy.TheVariants as replay
use Rattle.js_json.specs.declared.consumer.create_request.Action.TheVariants as action
use Rattle.js_json.specs.declared.consumer.create_request.CreateRequest.{CreateRequest}
use Rattle.js_call_consumers.specs.Laws.{HasText, HasTexts}
use Rattle.js_call_consumers.specs.Laws as law

-- every value of the type is written, under every key
abbrev IsWritten : {A : Type 0} → Writes A → Type 0
IsWritten {A} writes = (key : Key) (x : A) → (d : Data) × (writes key x ≡ Ok d)

-- the row has a value, or is left out
abbrev Fills : Result (Option Data) ReadError → Type 0
Fills value = (o : Option Data) × (value ≡ Ok o)

-- each of the rows does
abbrev AreFilled : List Row → Type 0
AreFilled [] = Unit {0}
AreFilled (row ∷ rows) = Fills row.1 × AreFilled rows

-- a fact beside others
infixr 20 ◌&◌
abbrev ◌&◌ : {A B : Type 0} → A → B → A × B
a & b = (a, b)

row_filled : (key : Key) (value : Result (Option Data) ReadError) (o : Option Data) (ms : Members) → value ≡ Ok o → with_row key value (Ok ms) ≡ Ok (put_some key o ms)
unfolding with_row
row_filled key value o ms is = rw is refl

-- such rows make an object
rows_filled : (rows : List Row) (ms : Members) → AreFilled rows → (new : Members) × (with_rows (Ok ms) rows ≡ Ok new)
rows_filled [] ms all = (ms, refl)
rows_filled (row ∷ rows) ms all =
    let next = put_some row.0 all.0.0 ms in
    let rest = rows_filled rows next all.1 in
    (rest.0, ap (λ m. with_rows m rows) (row_filled row.0 row.1 all.0.0 ms all.0.1) ∙ rest.1)

some_fills : (value : Result Data ReadError) (d : Data) → value ≡ Ok d → Fills (some value)
some_fills value d is = (Some d, rw is refl)

-- ---- kinds of rows

always_fills : {A : Type 0} (writes : Writes A) (key : Key) (x : A) → IsWritten writes → Fills (always writes key x)
unfolding always
always_fills writes key x all = some_fills (writes key x) (all key x).0 (all key x).1

fills_unless : (b : Bool) (value : Result Data ReadError) (d : Data) → value ≡ Ok d → Fills (if b then Ok None else some value)
fills_unless true value d is = (None, refl)
fills_unless false value d is = some_fills value d is

unless_fills : {A : Type 0} (is_blank : A → Bool) (writes : Writes A) (key : Key) (x : A) → IsWritten writes → Fills (unless is_blank writes key x)
unfolding unless
unless_fills is_blank writes key x all = fills_unless (is_blank x) (writes key x) (all key x).0 (all key x).1

where_fills : {A : Type 0} (writes : Writes A) (key : Key) (x : Option A) → IsWritten writes → Fills (where_some writes key x)
unfolding where_some
where_fills writes key None all = (None, refl)
where_fills writes key (Some v) all = some_fills (writes key v) (all key v).0 (all key v).1

-- a row of an instant that has a text
instant_fills : (key : Key) (t : Option Timestamp) → HasText t → Fills (where_some instant_data key t)
unfolding where_some
instant_fills key None has = (None, refl)
instant_fills key (Some t) has = (Some (string has.0), rw has.1 refl)

-- ---- kinds of values

texts : IsWritten text_data
texts key s = (string s, refl)

naturals : IsWritten natural_data
naturals key n = (_, refl)

integers : IsWritten integer_data
integers key z = (_, refl)

truths : IsWritten truth_data
truths key b = (_, refl)

percents : IsWritten percent_data
percents key n = (_, refl)

all_written : {A : Type 0} (writes : Writes A) (key : Key) (xs : List A) → IsWritten writes → (ds : List Data) × (all_data writes key xs ≡ Ok ds)
all_written writes key [] all = ([], refl)
all_written writes key (x ∷ xs) all =
    let one = all key x in
    let rest = all_written writes key xs all in
    (one.0 ∷ rest.0, rw (one.1, rest.1) refl)

lists : {A : Type 0} (writes : Writes A) → IsWritten writes → IsWritten (list_data writes)
unfolding list_data
lists writes all key xs = let made = all_written writes key xs all in (array (items_of made.0), rw made.1 refl)

entries_written : (key : Key) (ms : Members) (es : List (List ℕ × List ℕ)) → (new : Members) × (entries_data text_data key ms es ≡ Ok new)
entries_written key ms [] = (ms, refl)
entries_written key ms (e ∷ es) = entries_written key (put e.0 (string e.1) ms) es

entries : IsWritten (by_name_data text_data)
unfolding by_name_data
entries key es = let made = entries_written key no_members es in (object made.0, rw made.1 refl)

deliver_policies : IsWritten deliver_policy_data
deliver_policies key deliver.All = (_, refl)
deliver_policies key deliver.Last = (_, refl)
deliver_policies key deliver.New = (_, refl)
deliver_policies key (deliver.ByStartSequence n) = (_, refl)
deliver_policies key (deliver.ByStartTime t) = (_, refl)
deliver_policies key deliver.LastPerSubject = (_, refl)

ack_policies : IsWritten ack_policy_data
ack_policies key ack.None = (_, refl)
ack_policies key ack.All = (_, refl)
ack_policies key ack.Explicit = (_, refl)
ack_policies key ack.FlowControl = (_, refl)

replay_policies : IsWritten replay_policy_data
replay_policies key replay.Instant = (_, refl)
replay_policies key replay.Original = (_, refl)

priority_policies : IsWritten priority_policy_data
priority_policies key priority.Overflow = (_, refl)
priority_policies key priority.None = (_, refl)
priority_policies key priority.PinnedClient = (_, refl)
priority_policies key priority.Prioritized = (_, refl)

-- ---- the configuration

all_rows : (c : Config) → HasTexts c → AreFilled (config_rows c)
all_rows c has =
    where_fills text_data _ c.deliver_subject texts & where_fills text_data _ c.durable_name texts &
    where_fills text_data _ c.name texts & where_fills text_data _ c.description texts &
    where_fills text_data _ c.deliver_group texts &
    always_fills deliver_policy_data _ c.deliver_policy deliver_policies & where_fills natural_data _ _ naturals &
    instant_fills _ _ has.start & always_fills ack_policy_data _ c.ack_policy ack_policies &
    unless_fills is_zero natural_data _ c.ack_wait naturals & unless_fills is_zero_integer integer_data _ c.max_deliver integers &
    unless_fills is_empty text_data _ c.filter_subject texts &
    unless_fills is_empty (list_data text_data) _ c.filter_subjects (lists text_data texts) &
    always_fills replay_policy_data _ c.replay_policy replay_policies &
    unless_fills is_zero natural_data _ c.rate_limit naturals & unless_fills is_zero percent_data _ c.sample_frequency percents &
    unless_fills is_zero_integer integer_data _ c.max_waiting integers & unless_fills is_zero_integer integer_data _ c.max_ack_pending integers &
    unless_fills not truth_data _ c.headers_only truths & unless_fills not truth_data _ c.flow_control truths &
    unless_fills is_zero natural_data _ c.idle_heartbeat naturals &
    unless_fills is_zero_integer integer_data _ c.max_batch integers & unless_fills is_zero_integer integer_data _ c.max_bytes integers &
    unless_fills is_zero natural_data _ c.max_expires naturals & unless_fills is_zero natural_data _ c.inactive_threshold naturals &
    unless_fills is_zero natural_data _ c.num_replicas naturals &
    unless_fills not truth_data _ c.memory_storage truths & unless_fills is_empty (by_name_data text_data) _ c.metadata entries &
    unless_fills is_empty (list_data natural_data) _ c.backoff (lists natural_data naturals) &
    unless_fills is_blank_priority_policy priority_policy_data _ c.priority_policy priority_policies &
    unless_fills is_empty (list_data text_data) _ c.priority_groups (lists text_data texts) &
    unless_fills is_zero natural_data _ c.priority_timeout naturals & instant_fills _ _ has.pause & tt

-- a configuration is written whose instants have texts
written : (c : Config) → HasTexts c → (d : Data) × (config_value c ≡ Ok d)
unfolding config_value object_of
written c has = let made = rows_filled (config_rows c) no_members (all_rows c has) in (object made.0, rw made.1 refl)

-- ---- the request

actions : IsWritten action_data
actions key action.CreateOrUpdate = (_, refl)
actions key action.Create = (_, refl)
actions key action.Update = (_, refl)

-- a row of a configuration whose instants have texts
config_fills : (key : Key) (c : Config) → HasTexts c → Fills (always config_data key c)
unfolding always
config_fills key c has = some_fills (config_value c) (written c has).0 (written c has).1

request_rows : (r : CreateRequest) → HasTexts r.config → AreFilled (create_request_rows r)
request_rows r has =
    always_fills action_data _ r.action actions & config_fills _ r.config has & always_fills text_data _ r.stream_name texts & tt

request_value : (r : CreateRequest) → HasTexts r.config → (d : Data) × (create_request_value r ≡ Ok d)
unfolding create_request_value object_of
request_value r has = let made = rows_filled (create_request_rows r) no_members (request_rows r has) in (object made.0, rw made.1 refl)

text_written : (value : Result Data ReadError) (d : Data) → value ≡ Ok d → (text : List ℕ) × (text_of value ≡ Ok text)
unfolding text_of
text_written value d is = (compact_text d, rw is refl)

-- a request has a text whose configuration's instants have texts
pub request_written : (r : CreateRequest) → HasTexts r.config → law.IsWritten r
request_written r has = record {
  config = written r.config has;
  whole = let value = request_value r has in text_written (create_request_value r) value.0 value.1;
}
