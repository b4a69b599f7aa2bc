-- What the error of a program prints: the text of the error that it holds.
use Rattle.std.specs.Prelude.{◌≡◌, ◌⊎◌, ℕ, List, Option, Some, None, codes}
use Rattle.js_base.specs.Error.{kind_of, source_of, printed}
use Rattle.js_base.specs.declared.error.Error.{Error}
use Rattle.js_call.specs.Texts.{request_text, send_text}
use Rattle.js_call_consumers.specs.Error as consumers
use Rattle.js_call_streams.specs.AccountError.{account_text}
use Rattle.js_call_streams.specs.Error as streams
use Rattle.js_call_streams.specs.Find.{find_text}
use Rattle.js_context.specs.Builder.{build_text}
use Rattle.js_context.specs.PublishError.{publish_text}
use Rattle.js_json.specs.Conversion.{config_error_text}
use Rattle.js_json_members.specs.Error as read
use Rattle.js_link.specs.Texts.{link_text}
use Rattle.js_link_connection.specs.Errors.{connection_text}
use Rattle.js_message.specs.StreamMessage as stored
use Rattle.js_message.specs.Texts.{ack_text, info_text, message_info_text}
use Rattle.js_ordered_stream.specs.Ordered as ordered
use Rattle.js_pull.specs.Texts as pull
use Rattle.js_readers.specs.BatchItem.{item_text}
use Rattle.js_readers.specs.PullError as opening
use Rattle.js_readers.specs.PushError as push
use Rattle.js_readers_worker.specs.declared.error.WorkerError.{WorkerError}
use Rattle.js_readers_worker.specs.declared.error.WorkerError.TheVariants as worker
use Rattle.js_store.specs.Error as store
use Rattle.jetstream.specs.declared.any_error.AnyError.{AnyError}
use Rattle.jetstream.specs.declared.any_error.AnyError.TheVariants as any

-- the text of a kind, and behind it that of the source, where there is one
abbrev pub with_source : {K : Type 0} → (K → List ℕ) → Error K → Option (List ℕ)
with_source kind_text error = printed (Some (kind_text (kind_of error))) (source_of error)

-- what each prints; what an error of reading or writing prints is not told
abbrev pub any_text : AnyError → Option (List ℕ)
any_text any.OutOfMemory = Some (codes "out of memory")
any_text (any.Link error) = Some (link_text error)
any_text (any.Connection error) = Some (connection_text error)
any_text (any.CreateStream error) = with_source streams.create_text error
any_text (any.GetStream error) = with_source streams.get_text error
any_text (any.Consumer error) = with_source consumers.consumer_text error
any_text (any.Publish error) = with_source publish_text error
any_text (any.Stream error) = with_source opening.stream_text error
any_text (any.Batch error) = with_source opening.batch_text error
any_text (any.BatchRequest error) = with_source opening.request_text error
any_text (any.Messages error) = with_source pull.messages_text error
any_text (any.BatchItem error) = Some (item_text error)
any_text (any.PushMessages error) = with_source push.messages_text error
any_text (any.Ordered error) = with_source ordered.kind_text error
any_text (any.Account error) = with_source account_text error
any_text (any.FindStream error) = with_source find_text error
any_text (any.Request error) = with_source request_text error
any_text (any.Send error) = Some (send_text error)
any_text (any.Build error) = Some (build_text error)
any_text (any.ConsumerInfo error) = with_source consumers.info_text error
any_text (any.CreateConsumerStrict error) = with_source consumers.strict_text error
any_text (any.UpdateConsumer error) = with_source consumers.update_text error
any_text (any.ConsumerConfig error) = Some (config_error_text error)
any_text (any.KeyValue error) = with_source store.key_value_text error
any_text (any.CreateKeyValue error) = with_source store.create_text error
any_text (any.UpdateKeyValue error) = with_source store.update_text error
any_text (any.ObjectStore error) = with_source store.objects_text error
any_text (any.Ack error) = Some (ack_text error)
any_text (any.MessageInfo error) = Some (message_info_text error)
any_text (any.AckSubject error) = Some (info_text error)
any_text (any.StreamMessage error) = with_source stored.kind_text error
any_text (any.Read error) = Some (read.error_text error)
any_text (any.Io error) = None
any_text (any.Own text) = Some text

-- the program's own error with this text, or memory ran out
abbrev pub IsOwn : List ℕ → AnyError → Type 0
IsOwn text error = (error ≡ any.Own text) ⊎ (error ≡ any.OutOfMemory)

-- a worker's error: one of its subscription, or of an acknowledgement
abbrev pub of_worker : {E : Type 0} → (E → AnyError) → WorkerError E → AnyError
of_worker told (worker.Subscription error) = told error
of_worker told (worker.Ack error) = any.Ack error
