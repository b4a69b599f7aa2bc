-- What is opened for an ordered consumer.
use Rattle.std.specs.Prelude.{◌≡◌, refl, ℕ, [], Option, Some, None, Result, Ok, Err, codes}
use Rattle.js_base.specs.Error.{plain}
use Rattle.js_base.specs.declared.error.Error.{Error}
use Rattle.js_call.specs.declared.scope.ApiScope.{ApiScope}
use Rattle.js_call_consumers.specs.declared.consumer.Consumer.{Consumer}
use Rattle.js_json.specs.declared.pull.OrderedConfig as pull_config
use Rattle.js_json.specs.declared.push.OrderedConfig as push_config
use Rattle.js_link.specs.Calls.{RefusedSend}
use Rattle.js_link.specs.LinkView.{LinkView}
use Rattle.js_link.specs.declared.link.LinkError.{LinkError}
use Rattle.js_ordered_stream.specs.Opening.{OpensOrdered, OpensPushed, RefusesOpen}
use Rattle.js_ordered_stream.specs.declared.push.OpenError.{OpenError}
use Rattle.js_ordered_stream.specs.declared.push.OpenError.TheVariants as open_error
use Rattle.js_pull.specs.Resilience.{none}
use Rattle.js_pull.specs.declared.resilience.Resilience.{Resilience}
use Rattle.js_readers.specs.PullConsumer.{message_timeout}
use Rattle.js_readers.specs.Stream.{stream_error_kind}
use Rattle.js_readers.specs.declared.ordered.pull.Ordered as pulls
use Rattle.js_readers.specs.declared.ordered.push.Ordered as pushes
use Rattle.js_readers.specs.declared.pull.error.StreamErrorKind.{StreamErrorKind}
use Rattle.js_readers.specs.declared.pull.error.StreamErrorKind.TheVariants.{Other, OutOfMemory}
use Rattle.js_ordered_table.specs.declared.setup.Settings.{Settings}

-- requests go where the scope's go, and wait as long; a recreation is tried again 4,294,967,295 times; the options are these
abbrev pub settings_of : Resilience → ApiScope → Option ℕ → Settings
settings_of resilience scope request_timeout = record {
  api_prefix = scope.prefix;
  inbox_prefix = [];
  context_timeout = scope.timeout;
  request_timeout = request_timeout;
  retries = 4294967295;
  resilience = resilience;
}

-- worked: a scope without a timeout leaves it to the connection. Refused: it waits without end
waits_as_the_connection : (settings_of none (record { prefix = codes "$JS.API"; timeout = None }) (Some 2000)).request_timeout ≡ Some 2000
waits_as_the_connection = refl

-- a reader over the one inbox that was opened for it, whose messages wait as long as the consumer's scope says
pub record OpensPullOf (options : Resilience) (o : pulls.Ordered) (c : Consumer pull_config.OrderedConfig) (old new : LinkView) : Type 0 where
  pub opens : OpensOrdered (Ok o.reader) (settings_of options c.scope old.request_timeout) c.config c.info old new
  pub timeout : o.timeout ≡ message_timeout c.scope.timeout

-- what `messages_with` of an ordered pull consumer does, by the options: it opens one inbox, and asks for nothing
abbrev pub OpensPullWith : Resilience → Result pulls.Ordered (Error StreamErrorKind) → Consumer pull_config.OrderedConfig → LinkView → LinkView → Type 0
OpensPullWith options (Ok o) c old new = OpensPullOf options o c old new
OpensPullWith options (Err e) c old new = (fault : LinkError) × RefusedSend fault old new × (e ≡ plain (stream_error_kind fault))

-- what `messages` does: the same with all of them off
abbrev pub OpensPull : Result pulls.Ordered (Error StreamErrorKind) → Consumer pull_config.OrderedConfig → LinkView → LinkView → Type 0
OpensPull = OpensPullWith none

-- why no ordered push consumer was opened
abbrev pub open_error_kind : OpenError → StreamErrorKind
open_error_kind open_error.NoDeliverSubject = Other
open_error_kind open_error.Failed = Other
open_error_kind open_error.OutOfMemory = OutOfMemory

-- a reader over the one inbox that was opened for what the consumer delivers, whose messages wait as long as the consumer's scope says
pub record OpensPushOf (options : Resilience) (o : pushes.Ordered) (c : Consumer push_config.OrderedConfig) (old new : LinkView) : Type 0 where
  pub opens : OpensPushed (Ok o.reader) (settings_of options c.scope old.request_timeout) c.config c.info old new
  pub timeout : o.timeout ≡ message_timeout c.scope.timeout

-- what `messages_with` of an ordered push consumer does, by the options: it subscribes to what the consumer delivers to, and sends nothing else
abbrev pub OpensPushWith : Resilience → Result pushes.Ordered (Error StreamErrorKind) → Consumer push_config.OrderedConfig → LinkView → LinkView → Type 0
OpensPushWith options (Ok o) c old new = OpensPushOf options o c old new
OpensPushWith options (Err e) c old new = (fault : OpenError) × RefusesOpen fault c.info old new × (e ≡ plain (open_error_kind fault))

-- what `messages` does: the same with all of them off
abbrev pub OpensPush : Result pushes.Ordered (Error StreamErrorKind) → Consumer push_config.OrderedConfig → LinkView → LinkView → Type 0
OpensPush = OpensPushWith none
