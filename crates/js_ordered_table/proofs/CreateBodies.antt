-- A create request can be written: only an instant may have no text, and what an ordered consumer asks for names none.
use Rattle.std.proofs.Common.{◌≡◌, ℕ, Bool, List, [], ◌∷◌, ◌++◌, Option, Some, None, Result, Ok, Err, refl}
use Rattle.std.specs.Prelude.{IsOk, not}
use Rattle.std.specs.List.{AllByRecursion}
use Rattle.jiff.specs.Types.{Timestamp}
use Rattle.serde_json.specs.Data.{Data, Members, no_members, put, string}
use Rattle.js_json_members.specs.declared.key.Key.{Key}
use Rattle.js_json_members.specs.declared.key.Key.TheVariants as key
use Rattle.js_json_members.specs.declared.error.ReadError.{ReadError}
use Rattle.js_json_members.specs.declared.error.ReadError.TheVariants as fault
use Rattle.js_json_members.specs.Member.{◌>>=◌, Fails}
use Rattle.js_json_members.specs.Rows.{Writes, Row, with_row, with_rows, object_of, some, always, unless, where_some, text_data, natural_data, integer_data, truth_data, percent_data, instant_data, all_data, list_data, entries_data, by_name_data, is_empty, is_zero, is_zero_integer, text_of}
use Rattle.js_json.specs.declared.consumer.config.Config.{Config}
use Rattle.js_json.specs.declared.consumer.create_request.Action.TheVariants as action
use Rattle.js_json.specs.declared.consumer.deliver_policy.DeliverPolicy.{DeliverPolicy}
use Rattle.js_json.specs.declared.consumer.deliver_policy.DeliverPolicy.TheVariants as deliver
use Rattle.js_json.specs.declared.consumer.policies.AckPolicy.{AckPolicy}
use Rattle.js_json.specs.declared.consumer.policies.AckPolicy.TheVariants as ack
use Rattle.js_json.specs.declared.consumer.policies.PriorityPolicy.{PriorityPolicy}
use Rattle.js_json.specs.declared.consumer.policies.PriorityPolicy.TheVariants as priority
use Rattle.js_json.specs.declared.consumer.policies.ReplayPolicy.{ReplayPolicy}
use Rattle.js_json.specs.declared.consumer.policies.ReplayPolicy.TheVariants as replay
use Rattle.js_json.specs.AckPolicy.{ack_policy_data}
use Rattle.js_json.specs.DeliverPolicy.{deliver_policy_data, start_sequence_of, start_time_of}
use Rattle.js_json.specs.PriorityPolicy.{priority_policy_data, is_blank_priority_policy}
use Rattle.js_json.specs.ReplayPolicy.{replay_policy_data}
use Rattle.js_json.specs.ConsumerConfig.{names_rows, delivery_rows, flow_rows, limits_rows, priorities_rows, config_rows, config_value, config_data}
use Rattle.js_json.specs.CreateRequest.{action_data, create_request_rows, create_request_value}
use Rattle.js_ordered_table.specs.declared.consumer.Recreation.{Recreation}
use Rattle.js_ordered_table.specs.declared.consumer.ReplayInput.{ReplayInput}
use Rattle.js_ordered_table.specs.declared.run.Start as starts
use Rattle.js_ordered_table.specs.declared.run.Start.TheVariants as start
use Rattle.js_ordered_table.specs.declared.setup.OrderedSetup.{OrderedSetup}
use Rattle.js_ordered_table.specs.declared.setup.OrderedSetup.TheVariants.{Pull, Push}
use Rattle.js_ordered_table.specs.Texts.{config_of, policy_of, asked_config, create_request}
use Rattle.js_ordered_table.proofs.Rewritten.{if_both, all_append}

-- ---- what can be written

-- one thing after another
bound : {A B : Type 0} (first : Result A ReadError) (next : A → Result B ReadError) → IsOk first → ((x : A) → IsOk (next x)) → IsOk (first >>= next)
bound (Ok x) next is each = each x
bound (Err e) next is each = cc

list_written : {A : Type 0} (writes : Writes A) (k : Key) (xs : List A) → ((x : A) → IsOk (writes k x)) → IsOk (all_data writes k xs)
list_written writes k [] each = refl
list_written writes k (x ∷ xs) each =
    bound (writes k x) _ (each x) (λ d. bound (all_data writes k xs) _ (list_written writes k xs each) (λ ds. refl))

array_written : {A : Type 0} (writes : Writes A) (k : Key) (xs : List A) → ((x : A) → IsOk (writes k x)) → IsOk (list_data writes k xs)
unfolding list_data
array_written writes k xs each = bound (all_data writes k xs) _ (list_written writes k xs each) (λ ds. refl)

entries_written : (k : Key) (es : List (List ℕ × List ℕ)) (ms : Members) → IsOk (entries_data text_data k ms es)
entries_written k [] ms = refl
entries_written k (e ∷ es) ms = entries_written k es (put e.0 (string e.1) ms)

names_written : (k : Key) (es : List (List ℕ × List ℕ)) → IsOk (by_name_data text_data k es)
unfolding by_name_data
names_written k es = bound (entries_data text_data k no_members es) _ (entries_written k es no_members) (λ ms. refl)

-- ---- rows

always_there : {A : Type 0} (writes : Writes A) (k : Key) (x : A) → IsOk (writes k x) → IsOk (always writes k x)
unfolding always
always_there writes k x is = bound (writes k x) _ is (λ d. refl)

unless_blank : {A : Type 0} (is_blank : A → Bool) (writes : Writes A) (k : Key) (x : A) → IsOk (writes k x) → IsOk (unless is_blank writes k x)
unfolding unless
unless_blank is_blank writes k x is =
    if_both (λ (value : Result (Option Data) ReadError). IsOk value) (is_blank x) (Ok None) (some (writes k x)) refl (bound (writes k x) _ is (λ d. refl))

where_there : {A : Type 0} (writes : Writes A) (k : Key) (value : Option A) → ((x : A) → IsOk (writes k x)) → IsOk (where_some writes k value)
unfolding where_some
where_there writes k None each = refl
where_there writes k (Some x) each = bound (writes k x) _ (each x) (λ d. refl)

no_instant : (k : Key) (time : Option Timestamp) → time ≡ None → IsOk (where_some instant_data k time)
unfolding where_some
no_instant k None none = refl
no_instant k (Some time) none = cc

policy_there : (k : Key) (policy : DeliverPolicy) → IsOk (deliver_policy_data k policy)
policy_there k deliver.All = refl
policy_there k deliver.Last = refl
policy_there k deliver.New = refl
policy_there k (deliver.ByStartSequence n) = refl
policy_there k (deliver.ByStartTime t) = refl
policy_there k deliver.LastPerSubject = refl

ack_there : (k : Key) (policy : AckPolicy) → IsOk (ack_policy_data k policy)
ack_there k ack.None = refl
ack_there k ack.All = refl
ack_there k ack.Explicit = refl
ack_there k ack.FlowControl = refl

replay_there : (k : Key) (policy : ReplayPolicy) → IsOk (replay_policy_data k policy)
replay_there k replay.Instant = refl
replay_there k replay.Original = refl

priority_there : (k : Key) (policy : PriorityPolicy) → IsOk (priority_policy_data k policy)
priority_there k priority.Overflow = refl
priority_there k priority.None = refl
priority_there k priority.PinnedClient = refl
priority_there k priority.Prioritized = refl

-- ---- an object of rows

abbrev AreThere : List Row → Type 0
AreThere rows = AllByRecursion (λ (row : Row). IsOk row.1) rows

row_put : (k : Key) (value : Result (Option Data) ReadError) (members : Result Members ReadError) → IsOk value → IsOk members → IsOk (with_row k value members)
unfolding with_row
row_put k value members is there = bound members _ there (λ ms. bound value _ is (λ d. refl))

rows_put : (rows : List Row) (members : Result Members ReadError) → AreThere rows → IsOk members → IsOk (with_rows members rows)
rows_put [] members all there = there
rows_put (row ∷ rows) members all there = rows_put rows (with_row row.0 row.1 members) all.1 (row_put row.0 row.1 members all.0 there)

object_written : (rows : List Row) → AreThere rows → IsOk (object_of (with_rows (Ok no_members) rows))
unfolding object_of
object_written rows all = bound (with_rows (Ok no_members) rows) _ (rows_put rows (Ok no_members) all refl) (λ ms. refl)

-- ---- a configuration

names_there : (c : Config) → AreThere (names_rows c)
names_there c = (
  where_there text_data key.DeliverSubject c.deliver_subject (λ _. refl),
  (
    where_there text_data key.DurableName c.durable_name (λ _. refl),
    (
      where_there text_data key.Name c.name (λ _. refl),
      (
        where_there text_data key.Description c.description (λ _. refl),
        (where_there text_data key.DeliverGroup c.deliver_group (λ _. refl), tt),
      ),
    ),
  ),
)

delivery_there : (c : Config) → start_time_of c.deliver_policy ≡ None → AreThere (delivery_rows c)
delivery_there c none = (
  always_there deliver_policy_data key.DeliverPolicy c.deliver_policy (policy_there key.DeliverPolicy c.deliver_policy),
  (
    where_there natural_data key.OptStartSeq (start_sequence_of c.deliver_policy) (λ _. refl),
    (
      no_instant key.OptStartTime (start_time_of c.deliver_policy) none,
      (
        always_there ack_policy_data key.AckPolicy c.ack_policy (ack_there key.AckPolicy c.ack_policy),
        (
          unless_blank is_zero natural_data key.AckWait c.ack_wait refl,
          (
            unless_blank is_zero_integer integer_data key.MaxDeliver c.max_deliver refl,
            (
              unless_blank is_empty text_data key.FilterSubject c.filter_subject refl,
              (
                unless_blank is_empty (list_data text_data) key.FilterSubjects c.filter_subjects (array_written text_data key.FilterSubjects c.filter_subjects (λ _. refl)),
                (always_there replay_policy_data key.ReplayPolicy c.replay_policy (replay_there key.ReplayPolicy c.replay_policy), tt),
              ),
            ),
          ),
        ),
      ),
    ),
  ),
)

flow_there : (c : Config) → AreThere (flow_rows c)
flow_there c = (
  unless_blank is_zero natural_data key.RateLimitBps c.rate_limit refl,
  (
    unless_blank is_zero percent_data key.SampleFreq c.sample_frequency refl,
    (
      unless_blank is_zero_integer integer_data key.MaxWaiting c.max_waiting refl,
      (
        unless_blank is_zero_integer integer_data key.MaxAckPending c.max_ack_pending refl,
        (
          unless_blank not truth_data key.HeadersOnly c.headers_only refl,
          (
            unless_blank not truth_data key.FlowControl c.flow_control refl,
            (unless_blank is_zero natural_data key.IdleHeartbeat c.idle_heartbeat refl, tt),
          ),
        ),
      ),
    ),
  ),
)

limits_there : (c : Config) → AreThere (limits_rows c)
limits_there c = (
  unless_blank is_zero_integer integer_data key.MaxBatch c.max_batch refl,
  (
    unless_blank is_zero_integer integer_data key.MaxBytes c.max_bytes refl,
    (
      unless_blank is_zero natural_data key.MaxExpires c.max_expires refl,
      (
        unless_blank is_zero natural_data key.InactiveThreshold c.inactive_threshold refl,
        (unless_blank is_zero natural_data key.NumReplicas c.num_replicas refl, tt),
      ),
    ),
  ),
)

priorities_there : (c : Config) → c.pause_until ≡ None → AreThere (priorities_rows c)
priorities_there c none = (
  unless_blank not truth_data key.MemStorage c.memory_storage refl,
  (
    unless_blank is_empty (by_name_data text_data) key.Metadata c.metadata (names_written key.Metadata c.metadata),
    (
      unless_blank is_empty (list_data natural_data) key.Backoff c.backoff (array_written natural_data key.Backoff c.backoff (λ _. refl)),
      (
        unless_blank is_blank_priority_policy priority_policy_data key.PriorityPolicy c.priority_policy (priority_there key.PriorityPolicy c.priority_policy),
        (
          unless_blank is_empty (list_data text_data) key.PriorityGroups c.priority_groups (array_written text_data key.PriorityGroups c.priority_groups (λ _. refl)),
          (
            unless_blank is_zero natural_data key.PriorityTimeout c.priority_timeout refl,
            (no_instant key.PauseUntil c.pause_until none, tt),
          ),
        ),
      ),
    ),
  ),
)

-- one that names no instant can be written
config_written : (c : Config) → start_time_of c.deliver_policy ≡ None → c.pause_until ≡ None → IsOk (config_value c)
unfolding config_value
config_written c start pause =
    let there : Row → Type 0 = λ (row : Row). IsOk row.1 in
    object_written (config_rows c)
    (all_append there (names_rows c) (delivery_rows c ++ (flow_rows c ++ (limits_rows c ++ priorities_rows c))) (names_there c)
    (all_append there (delivery_rows c) (flow_rows c ++ (limits_rows c ++ priorities_rows c)) (delivery_there c start)
    (all_append there (flow_rows c) (limits_rows c ++ priorities_rows c) (flow_there c)
    (all_append there (limits_rows c) (priorities_rows c) (limits_there c) (priorities_there c pause)))))

-- ---- a create request

no_start_time : (s : starts.Start) → start_time_of (policy_of s) ≡ None
no_start_time start.All = refl
no_start_time (start.From sequence) = refl

no_pause : (setup : OrderedSetup) → (config_of setup).pause_until ≡ None
no_pause (Pull c) = refl
no_pause (Push c) = refl

pub create_written : (g : ReplayInput) (r : Recreation) → IsOk (create_request_value (create_request g r))
unfolding create_request_value
create_written g r =
    let config : IsOk (config_value (asked_config g r)) = config_written (asked_config g r) (no_start_time r.start) (no_pause g.setup) in
    object_written (create_request_rows (create_request g r)) (
      always_there action_data key.Action action.CreateOrUpdate refl,
      (always_there config_data key.Config (asked_config g r) config, (always_there text_data key.StreamName g.first.stream_name refl, tt)),
    )

-- so that writing it fails for want of memory alone
pub memory_alone : (written : Result Data ReadError) (e : ReadError) → IsOk written → Fails e (text_of written) → e ≡ fault.OutOfMemory
unfolding text_of
memory_alone (Err other) e is fails = cc
memory_alone (Ok d) fault.OutOfMemory is fails = refl
memory_alone (Ok d) (fault.Missing k) is fails = cc
memory_alone (Ok d) (fault.WrongKind k) is fails = cc
memory_alone (Ok d) (fault.OutOfRange k) is fails = cc
memory_alone (Ok d) fault.Float is fails = cc
memory_alone (Ok d) fault.NotJson is fails = cc
