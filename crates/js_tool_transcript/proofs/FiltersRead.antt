-- The filters of a configuration that is read from UTF-8 are UTF-8.
use Rattle.std.proofs.Common.{ℕ, pos, List, [], Result}
use Rattle.std.specs.List.{AllByRecursion}
use Rattle.std.specs.Str.{IsUtf8}
use Rattle.std.proofs.lemmas.Str.{IsUtf8-nil}
use Rattle.serde_json.specs.Data.{Data}
use Rattle.js_json_members.specs.declared.error.ReadError.{ReadError}
use Rattle.js_json_members.specs.declared.key.Key.TheVariants as key
use Rattle.js_json_members.specs.Member.{defaulted, text, natural, integer, list_of, named}
use Rattle.js_json.specs.declared.consumer.config.Config.{Config}
use Rattle.js_json.specs.declared.consumer.policies.AckPolicy.TheVariants as ack_policy
use Rattle.js_json.specs.declared.consumer.policies.ReplayPolicy.TheVariants as replay_policy
use Rattle.js_json.specs.AckPolicy.{ack_policy_named}
use Rattle.js_json.specs.ReplayPolicy.{replay_policy_named}
use Rattle.js_json.specs.ConsumerConfig.{names, delivery, flow, limits, priorities, config_fields}
use Rattle.js_json.specs.DeliverPolicy.{deliver_policy_of}
use Rattle.js_tool_transcript.proofs.MembersRead.{Gives, then_is, then_any, defaulted_is, text_is, list_is}

abbrev AreFilters : List ℕ → List (List ℕ) → Type 0
AreFilters filter filters = IsUtf8 filter × AllByRecursion IsUtf8 filters

-- a configuration's filters are UTF-8
abbrev pub HasTextFilters : Config → Type 0
HasTextFilters c = AreFilters c.filter_subject c.filter_subjects

-- a reader, and what it gives
abbrev ReadsTo : {A : Type 0} → (Data → Result A ReadError) → (A → Type 0) → Type 0
ReadsTo reads P = Gives P reads

delivery_is : ReadsTo delivery (λ v. AreFilters v.filter_subject v.filter_subjects)
unfolding delivery
delivery_is d is =
    then_any _ (deliver_policy_of d) _ (λ policy.
    then_any _ (defaulted (named ack_policy_named) key.AckPolicy ack_policy.Explicit d) _ (λ ack.
    then_any _ (defaulted natural key.AckWait 0 d) _ (λ wait.
    then_any _ (defaulted integer key.MaxDeliver (pos 0) d) _ (λ deliver.
    then_is IsUtf8 _ (defaulted text key.FilterSubject [] d) _ (defaulted_is IsUtf8 text key.FilterSubject [] IsUtf8-nil (text_is key.FilterSubject) d is) (λ filter one.
    then_is (AllByRecursion IsUtf8) _ (defaulted (list_of text) key.FilterSubjects [] d) _
    (defaulted_is (AllByRecursion IsUtf8) (list_of text) key.FilterSubjects [] tt (list_is IsUtf8 text key.FilterSubjects (text_is key.FilterSubjects)) d is) (λ filters more.
    then_any _ (defaulted (named replay_policy_named) key.ReplayPolicy replay_policy.Instant d) _ (λ replay. (one, more))))))))

pub config_is : Gives HasTextFilters config_fields
unfolding config_fields
config_is d is =
    then_any HasTextFilters (names d) _ (λ names.
    then_is _ HasTextFilters (delivery d) _ (delivery_is d is) (λ delivery filters.
    then_any HasTextFilters (flow d) _ (λ flow.
    then_any HasTextFilters (limits d) _ (λ limits.
    then_any HasTextFilters (priorities d) _ (λ priorities. filters)))))
