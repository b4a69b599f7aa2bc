-- What an ordered pull consumer does at each arrival of a relayed mirror.
use Rattle.std.proofs.Common.{◌≡◌, ℕ, suc, ◌+◌, ◌-◌, Bool, true, false, List, [], ◌∷◌, length, map, Some, None, refl, sym, subst, arith, append-nil}
use Rattle.std.specs.Prelude.{◌==◌, ◌&&◌, not, if◌then◌else◌}
use Rattle.js_base.specs.declared.message.Message.{Message}
use Rattle.js_base.specs.declared.message.State.TheVariants.{Connected}
use Rattle.js_base.specs.Clock.{is_any_due}
use Rattle.js_json.specs.declared.consumer.info.Info.{Info}
use Rattle.js_json.specs.declared.pull.OrderedConfig.{OrderedConfig}
use Rattle.js_message.specs.AckSubject.{Place, readable_as}
use Rattle.js_pull.specs.Reader as pull
use Rattle.js_pull.specs.declared.reader.PullSource.{PullSource}
use Rattle.js_pull.specs.declared.reader.Reason.{Reason}
use Rattle.js_pull.specs.declared.reader.Reason.TheVariants.{Low, Expired}
use Rattle.js_pull.specs.declared.reader.Row.TheVariants as read
use Rattle.js_ordered_table.specs.declared.setup.Settings.{Settings}
use Rattle.js_ordered_table.specs.declared.setup.OrderedSetup.TheVariants.{Pull}
use Rattle.js_ordered_table.specs.declared.consumer.ReplayInput.{ReplayInput}
use Rattle.js_ordered_table.specs.declared.consumer.Phase.TheVariants.{Pulls}
use Rattle.js_ordered_table.specs.declared.event.EventKind.TheVariants as what
use Rattle.js_ordered_table.specs.declared.row.Row.TheVariants.{Event, Read}
use Rattle.js_ordered_table.specs.OrderedCore.{after_yield, new_core}
use Rattle.js_ordered_table.specs.Texts.{configured_start, inbox_subject, pull_source}
use Rattle.js_ordered_table.specs.declared.replay_state.ReplayState.{ReplayState}
use Rattle.js_ordered_table.specs.Consumer.{Matter}
use Rattle.js_ordered_table.specs.Arrivals.{read_row}
use Rattle.js_ordered_table.specs.Gapless.{Entry}
use Rattle.js_ordered_table.specs.Fold.{Ran, after, stays, and_then, pass_each, pass_to, rank, tick, opening, matter_of, event}
use Rattle.js_ordered_table.proofs.PullStates.{IsOn, Progress, Requests, new, reader, recounted, same_counts, state_at}
use Rattle.js_ordered_table.proofs.Rewritten.{if_both}
use Rattle.js_event_log.proofs.Gives.{Gives, gives_append}

-- ---- what is put out

-- outputs that hand out entries, and a state of some kind
pub record Leads (left : List Entry) (next : ReplayState → Type 0) (left_now : List Entry) (ran : Ran) : Type 0 where
  pub state : next ran.state
  pub outputs : Gives left ran.outputs left_now

pub leads_weaker : (left left_now : List Entry) (next other : ReplayState → Type 0) (ran : Ran)
    → ((w : ReplayState) → next w → other w) → Leads left next left_now ran → Leads left other left_now ran
leads_weaker left left_now next other ran f h = record { state = f ran.state h.state; outputs = h.outputs }

pub leads_alone : (left left_now : List Entry) (next : ReplayState → Type 0) (ran : Ran)
    → Leads left next left_now ran → Leads left next left_now (and_then ran.outputs (stays ran.state))
leads_alone left left_now next ran h = record {
  state = h.state;
  outputs = subst (λ outputs. Gives left outputs left_now) (sym (append-nil ran.outputs)) h.outputs;
}

pub leads_then : (left left_then left_now : List Entry) (next other : ReplayState → Type 0) (ran : Ran) (rest : ReplayState → Ran)
    → Leads left next left_then ran → ((w : ReplayState) → next w → Leads left_then other left_now (rest w))
    → Leads left other left_now (and_then ran.outputs (rest ran.state))
leads_then left left_then left_now next other ran rest h more =
    let after_it : Leads left_then other left_now (rest ran.state) = more ran.state h.state in
    record {
      state = after_it.state;
      outputs = gives_append left ran.outputs (rest ran.state).outputs left_then left_now h.outputs after_it.outputs;
    }

-- ---- the rows of a reader

module _ (settings : Settings) (config : OrderedConfig) (first : Info) where
  abbrev pub replay_input : ReplayInput
  replay_input = record { settings = settings; setup = Pull config; first = first }

  -- what follows a reader's row
  abbrev done : ℕ → Matter → ℕ → ReplayState → pull.Passed → Ran
  done now m depth w passed =
      let row = read_row passed w.consumer in
      and_then row.outputs (pass_each (pass_to replay_input now m depth) row.next (after w row))

  module _ (now : ℕ) (m : Matter) (left : List Entry) (source : PullSource) (c : Progress) (requests_sent inboxes_opened : ℕ) where
    asks : (depth : ℕ) (l : Requests) (reason : Reason)
        → Leads left (IsOn source c requests_sent inboxes_opened) left (pass_to replay_input now m (suc depth) (Read (read.Ask reason)) (state_at (Pulls (reader source l)) c requests_sent inboxes_opened))
    asks depth l reason = record {
      state = (
        record {
          pending = pull.raised (pull.resets reason) source.config.batch l.pending;
          pending_bytes = pull.raised (pull.resets reason) source.config.max_bytes l.pending_bytes;
          waiting = false;
          unreset_requests = pull.extra_after reason l.unreset_requests;
          pin = l.pin;
          expiry = pull.armed_expiry now source.config.expires;
          heartbeat_timer = l.heartbeat_timer;
        },
        same_counts _ _ _ _ _ _ (omega arith) (omega arith),
      );
      outputs = refl;
    }

    stays_on : (l : Requests) → Leads left (IsOn source c requests_sent inboxes_opened) left (stays (state_at (Pulls (reader source l)) c requests_sent inboxes_opened))
    stays_on l = record { state = (l, refl); outputs = refl }

    arms : (depth : ℕ) (l : Requests)
        → Leads left (IsOn source c requests_sent inboxes_opened) left (pass_to replay_input now m (suc depth) (Read read.Arm) (state_at (Pulls (reader source l)) c requests_sent inboxes_opened))
    arms depth l = record {
      state = (record l { heartbeat_timer = pull.armed_silence now source.config.idle_heartbeat }, same_counts _ _ _ _ _ _ (omega arith) (omega arith));
      outputs = refl;
    }

    asks_if : (depth : ℕ) (l : Requests) (reason : Reason) (b : Bool)
        → Leads left (IsOn source c requests_sent inboxes_opened) left (pass_each (pass_to replay_input now m (suc depth)) (map Read (if b then read.Ask reason ∷ [] else [])) (state_at (Pulls (reader source l)) c requests_sent inboxes_opened))
    asks_if depth l reason true =
        leads_alone left left (IsOn source c requests_sent inboxes_opened)
        (pass_to replay_input now m (suc depth) (Read (read.Ask reason)) (state_at (Pulls (reader source l)) c requests_sent inboxes_opened)) (asks depth l reason)
    asks_if depth l reason false = stays_on l

  module _ (now : ℕ) (m : Matter) (left : List Entry) (source : PullSource) (c : Progress) (requests_sent inboxes_opened : ℕ) where
    again : (ran : Ran) → Leads left (IsOn source c (requests_sent + 0) (inboxes_opened + 0)) left ran → Leads left (IsOn source c requests_sent inboxes_opened) left ran
    again ran = leads_weaker left left (IsOn source c (requests_sent + 0) (inboxes_opened + 0)) (IsOn source c requests_sent inboxes_opened) ran
        (recounted source c (requests_sent + 0) (inboxes_opened + 0) requests_sent inboxes_opened (omega arith) (omega arith))

    expires : (depth : ℕ) (l : Requests)
        → Leads left (IsOn source c requests_sent inboxes_opened) left (pass_to replay_input now m (suc (suc depth)) (Read read.CheckExpiry) (state_at (Pulls (reader source l)) c requests_sent inboxes_opened))
    expires depth l = again _ (asks_if now m left source c (requests_sent + 0) (inboxes_opened + 0) depth l Expired (is_any_due l.expiry now))

    refills : (depth : ℕ) (l : Requests)
        → Leads left (IsOn source c requests_sent inboxes_opened) left (pass_to replay_input now m (suc (suc depth)) (Read read.Threshold) (state_at (Pulls (reader source l)) c requests_sent inboxes_opened))
    refills depth l =
        if_both (λ (passed : pull.Passed). Leads left (IsOn source c requests_sent inboxes_opened) left (done now m (suc depth) (state_at (Pulls (reader source l)) c requests_sent inboxes_opened) passed))
        (pull.is_low (reader source l) && not l.waiting)
        (pull.silent_row (record (reader source l) { waiting = true }) (read.Ask Low ∷ []))
        (pull.silent_row (reader source l) [])
        (again _ (asks_if now m left source c (requests_sent + 0) (inboxes_opened + 0) depth (record l { waiting = true }) Low true))
        (again _ (stays_on now m left source c (requests_sent + 0) (inboxes_opened + 0) l))

  -- ---- an arrival on the inbox that is read

  abbrev pub message : List ℕ → List ℕ → List ℕ → Message
  message subject reply payload = record { subject = subject; reply = Some reply; payload = payload; headers = None; status = None; description = None; length = length payload }

  -- what is kept after a yield
  abbrev pub accepted : Place → Progress → Progress
  accepted place c = record c { core = after_yield place.sequence place.number c.core; missed = false; limited = false }

  module _ (now : ℕ) (left : List Entry) (source : PullSource) (c : Progress) (requests_sent inboxes_opened inbox : ℕ) (subject reply payload : List ℕ) (place : Place) where
    abbrev arrives : Matter
    arrives = matter_of (what.Arrival inbox (message subject reply payload))

    abbrev heard_state : ℕ → ℕ → Requests → ReplayState
    heard_state a m l = state_at (Pulls (reader source l)) (accepted place c) a m

    -- after the message the reader has this
    abbrev kept : Requests → Requests
    kept l = record {
      pending = l.pending - 1;
      pending_bytes = l.pending_bytes - length payload;
      waiting = l.waiting;
      unreset_requests = l.unreset_requests;
      pin = (if source.pinned then pull.pin_after (message subject reply payload) None l.pin else None);
      expiry = l.expiry;
      heartbeat_timer = pull.armed_silence now source.config.idle_heartbeat;
    }

    goes_on : (depth : ℕ) (l : Requests) → Leads left (IsOn source (accepted place c) requests_sent inboxes_opened) left
        (pass_each (pass_to replay_input now arrives (suc (suc depth))) (Read read.Threshold ∷ []) (heard_state (requests_sent + 0) (inboxes_opened + 0) (kept l)))
    goes_on depth l =
        again now arrives left source (accepted place c) requests_sent inboxes_opened _
        (leads_alone left left (IsOn source (accepted place c) (requests_sent + 0) (inboxes_opened + 0))
        (pass_to replay_input now arrives (suc (suc depth)) (Read read.Threshold) (heard_state (requests_sent + 0) (inboxes_opened + 0) (kept l)))
        (refills now arrives left source (accepted place c) (requests_sent + 0) (inboxes_opened + 0) depth (kept l)))

    -- the next message is yielded
    pub yields : (depth : ℕ) (l : Requests) → (source.inbox == inbox) ≡ true → readable_as (Some reply) ≡ Some place → (place.number == c.core.consumer_sequence + 1) ≡ true
        → Leads (record { subject = subject; sequence = place.sequence; payload = payload } ∷ left) (IsOn source (accepted place c) requests_sent inboxes_opened) left
        (pass_to replay_input now arrives (suc (suc (suc depth))) (Read read.CheckArrival) (state_at (Pulls (reader source l)) c requests_sent inboxes_opened))
    yields depth l here reads next =
        rw (here, reads, next) (record { state = (goes_on depth l).state; outputs = (left, refl, (goes_on depth l).outputs) })

  -- ---- the whole event of an arrival

  module _ (now : ℕ) (left : List Entry) (source : PullSource) (c : Progress) (requests_sent inboxes_opened inbox : ℕ) (subject reply payload : List ℕ) (left_now : List Entry) (next : ReplayState → Type 0) where
    abbrev comes : Matter
    comes = matter_of (what.Arrival inbox (message subject reply payload))

    heard_then : ((l : Requests) → Leads left next left_now (pass_to replay_input now comes 9 (Read read.CheckArrival) (state_at (Pulls (reader source l)) c (requests_sent + 0) (inboxes_opened + 0))))
        → (w : ReplayState) → IsOn source c (requests_sent + 0) (inboxes_opened + 0) w → Leads left next left_now (pass_each (pass_to replay_input now comes 9) (Read read.CheckArrival ∷ []) w)
    heard_then row w on = subst (λ (w : ReplayState). Leads left next left_now (pass_each (pass_to replay_input now comes 9) (Read read.CheckArrival ∷ []) w)) (sym on.1)
        (leads_alone left left_now next (pass_to replay_input now comes 9 (Read read.CheckArrival) (state_at (Pulls (reader source on.0)) c (requests_sent + 0) (inboxes_opened + 0))) (row on.0))

    pub heard : ((l : Requests) → Leads left next left_now (pass_to replay_input now comes 9 (Read read.CheckArrival) (state_at (Pulls (reader source l)) c (requests_sent + 0) (inboxes_opened + 0))))
        → (w : ReplayState) → IsOn source c requests_sent inboxes_opened w → Leads left next left_now (event replay_input (record { at = now; what = what.Arrival inbox (message subject reply payload) }) w)
    unfolding event
    heard row w on = subst (λ (w : ReplayState). Leads left next left_now (event replay_input (record { at = now; what = what.Arrival inbox (message subject reply payload) }) w)) (sym on.1)
        (leads_alone left left_now next (pass_to replay_input now comes 10 Event (state_at (Pulls (reader source on.0)) c requests_sent inboxes_opened))
        (leads_then left left left_now (IsOn source c (requests_sent + 0) (inboxes_opened + 0)) next
        (pass_to replay_input now comes 9 (Read read.CheckExpiry) (state_at (Pulls (reader source on.0)) c (requests_sent + 0) (inboxes_opened + 0)))
        (λ (w : ReplayState). pass_each (pass_to replay_input now comes 9) (Read read.CheckArrival ∷ []) w)
        (expires now comes left source c (requests_sent + 0) (inboxes_opened + 0) 7 on.0) (heard_then row)))

  -- ---- the opening

  pub opened : (start : ℕ) (left : List Entry) → Leads left (IsOn (pull_source replay_input 0 0 (inbox_subject replay_input 0) first) (record { core = new_core (configured_start replay_input.setup); name = first.name; missed = false; limited = false; connection = Connected }) 0 1) left (opening replay_input start)
  unfolding opening
  opened start left =
      let source : PullSource = pull_source replay_input 0 0 (inbox_subject replay_input 0) first in
      let c : Progress = record { core = new_core (configured_start replay_input.setup); name = first.name; missed = false; limited = false; connection = Connected } in
      leads_then left left left (IsOn source c 0 1) (IsOn source c 0 1)
      (pass_to replay_input start tick 2 (Read read.Threshold) (state_at (Pulls (reader source new)) c 0 1))
      (λ (w : ReplayState). pass_each (λ row. pass_to replay_input start tick (suc (rank row)) row) (Read read.Arm ∷ []) w)
      (refills start tick left source c 0 1 0 new)
      (λ w on. subst (λ (w : ReplayState). Leads left (IsOn source c 0 1) left (pass_each (λ row. pass_to replay_input start tick (suc (rank row)) row) (Read read.Arm ∷ []) w)) (sym on.1)
      (leads_alone left left (IsOn source c 0 1) (pass_to replay_input start tick 1 (Read read.Arm) (state_at (Pulls (reader source on.0)) c 0 1)) (arms start tick left source c 0 1 0 on.0)))
