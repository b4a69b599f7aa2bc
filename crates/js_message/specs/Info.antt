-- What the code's values show of the plain ones of `Ack`.
use Rattle.std.specs.Prelude.{◌≡◌, ℕ, ℤ, List, Result, Ok, Err, if◌then◌else◌}
use Rattle.std.specs.Option.{option_copied}
use Rattle.std.specs.Result.{result_map_both}
use Rattle.js_message.specs.AckSubject as plain
use Rattle.js_message.specs.declared.info.Info.{Info}
use Rattle.js_message.specs.declared.info_error.InfoError.{InfoError}
use Rattle.js_message.specs.declared.info_error.InfoError.TheVariants.{Instant}

-- what was read, with its texts and its time as plain values
abbrev pub shown : Info → plain.Info
shown info = record {
  domain = option_copied info.domain;
  acc_hash = option_copied info.acc_hash;
  stream = info.stream.now;
  consumer = info.consumer.now;
  delivered = info.delivered;
  stream_sequence = info.stream_sequence;
  consumer_sequence = info.consumer_sequence;
  published = info.published.nanosecond;
  pending = info.pending;
  token = option_copied info.token;
}

-- the same of what was read or refused
abbrev pub shown_result : Result Info InfoError → Result plain.Info InfoError
shown_result result = result_map_both shown (λ error. error) result

-- the time, or the refusal of one that no instant holds
abbrev pub instant_of : ℤ → Result ℤ InfoError
instant_of nanoseconds = if plain.is_instant nanoseconds then Ok nanoseconds else Err Instant
