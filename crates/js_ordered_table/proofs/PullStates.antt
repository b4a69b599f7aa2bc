-- The states of an ordered pull consumer while it reads, and while no info is asked for.
use Rattle.std.proofs.Common.{◌≡◌, ℕ, Bool, true, false, List, Option, None, ap₂, ◌∙◌}
use Rattle.js_base.specs.declared.message.State.{State}
use Rattle.js_base.specs.declared.clock.Timer.{Timer}
use Rattle.js_pull.specs.declared.reader.PullSource.{PullSource}
use Rattle.js_pull.specs.declared.reader.Reader.{Reader}
use Rattle.js_pull.specs.declared.reader.InfoRequest.TheVariants.{NoInfoRequest}
use Rattle.js_ordered_table.specs.declared.consumer.Phase.{Phase}
use Rattle.js_ordered_table.specs.declared.ordered_core.OrderedCore.{OrderedCore}
use Rattle.js_ordered_table.specs.declared.consumer.Phase.TheVariants.{Pulls}
use Rattle.js_ordered_table.specs.declared.replay_state.ReplayState.{ReplayState}

-- what a reader keeps of its requests and of the time
pub record Requests : Type 0 where
  pub pending : ℕ
  pub pending_bytes : ℕ
  pub waiting : Bool
  pub unreset_requests : ℕ
  pub pin : Option (List ℕ)
  pub expiry : Option Timer
  pub heartbeat_timer : Option Timer

abbrev pub reader : PullSource → Requests → Reader
reader source l = record {
  source = source;
  pending = l.pending;
  pending_bytes = l.pending_bytes;
  waiting = l.waiting;
  unreset_requests = l.unreset_requests;
  pin = l.pin;
  expiry = l.expiry;
  heartbeat_timer = l.heartbeat_timer;
  inquiry = NoInfoRequest;
  ended = false;
}

-- what a consumer keeps of what it heard
pub record Progress : Type 0 where
  pub core : OrderedCore
  pub name : List ℕ
  pub missed : Bool
  pub limited : Bool
  pub connection : State

abbrev pub state_at : Phase → Progress → ℕ → ℕ → ReplayState
state_at phase c requests_sent inboxes_opened = record {
  consumer = record {
    phase = phase;
    core = c.core;
    name = c.name;
    missed = c.missed;
    limited = c.limited;
    stream_missing = false;
    connection = c.connection;
  };
  link_up = true;
  requests_sent = requests_sent;
  inboxes_opened = inboxes_opened;
}

pub same_counts : (phase : Phase) (c : Progress) (requests_sent inboxes_opened asked_now made_now : ℕ) → requests_sent ≡ asked_now → inboxes_opened ≡ made_now
    → state_at phase c requests_sent inboxes_opened ≡ state_at phase c asked_now made_now
same_counts phase c requests_sent inboxes_opened asked_now made_now a m = ap₂ (λ (requests_sent inboxes_opened : ℕ). state_at phase c requests_sent inboxes_opened) a m

-- the reader reads
abbrev pub IsOn : PullSource → Progress → ℕ → ℕ → ReplayState → Type 0
IsOn source c requests_sent inboxes_opened w = (l : Requests) × (w ≡ state_at (Pulls (reader source l)) c requests_sent inboxes_opened)

pub recounted : (source : PullSource) (c : Progress) (requests_sent inboxes_opened asked_now made_now : ℕ) → requests_sent ≡ asked_now → inboxes_opened ≡ made_now
    → (w : ReplayState) → IsOn source c requests_sent inboxes_opened w → IsOn source c asked_now made_now w
recounted source c requests_sent inboxes_opened asked_now made_now a m w on =
    (on.0, on.1 ∙ same_counts (Pulls (reader source on.0)) c requests_sent inboxes_opened asked_now made_now a m)

-- a reader that has asked for nothing yet
abbrev pub new : Requests
new = record { pending = 0; pending_bytes = 0; waiting = false; unreset_requests = 0; pin = None; expiry = None; heartbeat_timer = None }
