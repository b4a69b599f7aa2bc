-- What an ordered pull consumer does at each event of an episode.
use Rattle.std.proofs.Common.{◌≡◌, ℕ, suc, ◌+◌, ◌-◌, Bool, true, false, List, [], ◌∷◌, ◌++◌, length, map, Option, Some, None, Ok, refl, sym, ap, ap₂, ◌∙◌, subst, arith, append-nil}
use Rattle.std.specs.Prelude.{◌==◌, ◌&&◌, min, not, if◌then◌else◌}
use Rattle.std.proofs.lemmas.Bool.Decides.{Decides-eqb}
use Rattle.js_base.specs.declared.message.Message.{Message}
use Rattle.js_base.specs.declared.message.State.{State}
use Rattle.js_base.specs.declared.message.State.TheVariants.{Connected}
use Rattle.js_base.specs.declared.clock.Timer.{Timer}
use Rattle.js_base.specs.Clock.{is_any_due}
use Rattle.js_json_members.specs.Member.{float_free}
use Rattle.js_json.specs.declared.consumer.info.Info.{Info}
use Rattle.js_json.specs.declared.pull.OrderedConfig.{OrderedConfig}
use Rattle.js_json.specs.declared.response.Response.TheVariants as response
use Rattle.js_json.specs.ConsumerInfo.{info_fields}
use Rattle.js_json.specs.Response.{response_of}
use Rattle.js_message.specs.AckSubject.{Place, readable_as}
use Rattle.js_pull.specs.Reader as pull
use Rattle.js_pull.specs.declared.reader.PullSource.{PullSource}
use Rattle.js_pull.specs.declared.reader.Reader.{Reader}
use Rattle.js_pull.specs.declared.reader.Reason.{Reason}
use Rattle.js_pull.specs.declared.reader.Reason.TheVariants.{Low, Expired}
use Rattle.js_pull.specs.declared.reader.InfoRequest.TheVariants.{NoInfoRequest}
use Rattle.js_pull.specs.declared.reader.MessagesErrorKind.TheVariants as error
use Rattle.js_pull.specs.declared.reader.Row.TheVariants as read
use Rattle.js_ordered_table.specs.declared.setup.Settings.{Settings}
use Rattle.js_ordered_table.specs.declared.setup.OrderedSetup.TheVariants.{Pull}
use Rattle.js_ordered_table.specs.declared.consumer.ReplayInput.{ReplayInput}
use Rattle.js_ordered_table.specs.declared.consumer.Phase.{Phase}
use Rattle.js_ordered_table.specs.declared.consumer.Phase.TheVariants.{Pulls, Recreates}
use Rattle.js_ordered_table.specs.declared.consumer.Stage.{Stage}
use Rattle.js_ordered_table.specs.declared.consumer.Stage.TheVariants.{Deleting, Creating}
use Rattle.js_ordered_table.specs.declared.event.EventKind.TheVariants as what
use Rattle.js_ordered_table.specs.declared.row.Row.TheVariants.{Event, Read}
use Rattle.js_ordered_table.specs.declared.run.Output.{Output}
use Rattle.js_ordered_table.specs.declared.run.Start.{Start}
use Rattle.js_ordered_table.specs.declared.run.Start.TheVariants as start
use Rattle.js_ordered_table.specs.OrderedCore.{after_yield, new_core}
use Rattle.js_ordered_table.specs.Texts.{configured_start, consumer_name, inbox_subject, recreation_timeout, pull_source}
use Rattle.js_ordered_table.specs.declared.replay_state.ReplayState.{ReplayState}
use Rattle.js_ordered_table.specs.Consumer.{Matter}
use Rattle.js_ordered_table.specs.Arrivals.{read_row}
use Rattle.js_ordered_table.specs.Fold.{Ran, after, stays, and_then, pass_each, pass_to, rank, tick, opening, matter_of, event}
use Rattle.js_ordered_table.proofs.PullStates.{IsOn, Progress, Requests, new, reader, recounted, same_counts, state_at}
use Rattle.js_ordered_table.proofs.Rewritten.{if_both}
use Rattle.js_tool_generate.proofs.Follows.{Follows, follows_append}

-- ---- states

-- a recreation waits for the answer to a request
pub record IsRecreating (stage : ℕ → Timer → Stage) (request last inboxes_opened : ℕ) (w : ReplayState) : Type 0 where
  pub old_name : List ℕ
  pub new_name : List ℕ
  pub start : Start
  pub failures : ℕ
  pub timeout : Timer
  pub recreation_count : ℕ
  pub configured : Option ℕ
  pub name : List ℕ
  pub limited : Bool
  pub connection : State
  pub request_now : ℕ
  pub last_now : ℕ
  pub requests_sent : ℕ
  pub made_now : ℕ
  pub state : w ≡ state_at
      (Recreates (record { old_name = old_name; new_name = new_name; start = start; failures = failures; opened = None; stage = stage request_now timeout }))
      (record { core = record { stream_sequence = last_now; consumer_sequence = 0; recreation_count = recreation_count; start = configured }; name = name; missed = false; limited = limited; connection = connection })
      requests_sent made_now
  pub request_is : request_now ≡ request
  pub asked_is : requests_sent ≡ request
  pub last_is : last_now ≡ last
  pub made_is : made_now ≡ inboxes_opened

-- a new inbox is read
pub record IsOpened (request last inboxes_opened : ℕ) (w : ReplayState) : Type 0 where
  pub source : PullSource
  pub c : Progress
  pub requests_sent : ℕ
  pub made_now : ℕ
  pub on : IsOn source c requests_sent made_now w
  pub inbox_is : source.inbox ≡ inboxes_opened
  pub num_is : c.core.consumer_sequence ≡ 0
  pub last_is : c.core.stream_sequence ≡ last
  pub missed_is : c.missed ≡ false
  pub off_is : source.resilience.asks_at_first_heartbeat ≡ false
  pub asked_is : requests_sent ≡ request
  pub made_is : made_now ≡ inboxes_opened + 1

four_nils : (o : List Output) → (((o ++ []) ++ []) ++ []) ++ [] ≡ o
four_nils o = append-nil (((o ++ []) ++ []) ++ []) ∙ append-nil ((o ++ []) ++ []) ∙ append-nil (o ++ []) ∙ append-nil o

-- a stream that was there is there, whether that would be told or not
either_way : (b : Bool) → (if b then false else false) ≡ false
either_way true = refl
either_way false = refl

equal : (a b : ℕ) → a ≡ b → (a == b) ≡ true
equal a b e = (Decides-eqb a b).1 e

-- ---- what is put out

-- outputs that go on, and a state of some kind
pub record Leads (starts : ℕ → ℕ) (last from : ℕ) (next : ReplayState → Type 0) (last_now from_now : ℕ) (ran : Ran) : Type 0 where
  pub state : next ran.state
  pub outputs : Follows starts last from ran.outputs last_now from_now

pub leads_weaker : (starts : ℕ → ℕ) (last from last_now from_now : ℕ) (next other : ReplayState → Type 0) (ran : Ran)
    → ((w : ReplayState) → next w → other w) → Leads starts last from next last_now from_now ran → Leads starts last from other last_now from_now ran
leads_weaker starts last from last_now from_now next other ran f h = record { state = f ran.state h.state; outputs = h.outputs }

pub leads_alone : (starts : ℕ → ℕ) (last from last_now from_now : ℕ) (next : ReplayState → Type 0) (ran : Ran)
    → Leads starts last from next last_now from_now ran → Leads starts last from next last_now from_now (and_then ran.outputs (stays ran.state))
leads_alone starts last from last_now from_now next ran h = record {
  state = h.state;
  outputs = subst (λ outputs. Follows starts last from outputs last_now from_now) (sym (append-nil ran.outputs)) h.outputs;
}

pub leads_then : (starts : ℕ → ℕ) (last from last_then from_then last_now from_now : ℕ) (next other : ReplayState → Type 0) (ran : Ran) (rest : ReplayState → Ran)
    → Leads starts last from next last_then from_then ran → ((w : ReplayState) → next w → Leads starts last_then from_then other last_now from_now (rest w))
    → Leads starts last from other last_now from_now (and_then ran.outputs (rest ran.state))
leads_then starts last from last_then from_then last_now from_now next other ran rest h more =
    let after_it : Leads starts last_then from_then other last_now from_now (rest ran.state) = more ran.state h.state in
    record {
      state = after_it.state;
      outputs = follows_append starts last from ran.outputs (rest ran.state).outputs last_then from_then last_now from_now h.outputs after_it.outputs;
    }

-- ---- the rows of a reader

module _ (settings : Settings) (config : OrderedConfig) (first : Info) (starts : ℕ → ℕ) where
  abbrev pub replay_input : ReplayInput
  replay_input = record { settings = settings; setup = Pull config; first = first }

  -- what follows a reader's row
  abbrev done : ℕ → Matter → ℕ → ReplayState → pull.Passed → Ran
  done now m depth w passed =
      let row = read_row passed w.consumer in
      and_then row.outputs (pass_each (pass_to replay_input now m depth) row.next (after w row))

  module _ (now : ℕ) (m : Matter) (last from : ℕ) (source : PullSource) (c : Progress) (requests_sent inboxes_opened : ℕ) where
    asks : (depth : ℕ) (l : Requests) (reason : Reason)
        → Leads starts last from (IsOn source c requests_sent inboxes_opened) last from (pass_to replay_input now m (suc depth) (Read (read.Ask reason)) (state_at (Pulls (reader source l)) c requests_sent inboxes_opened))
    asks depth l reason = record {
      state = (
        record {
          pending = pull.raised (pull.resets reason) source.config.batch l.pending;
          pending_bytes = pull.raised (pull.resets reason) source.config.max_bytes l.pending_bytes;
          waiting = false;
          unreset_requests = pull.extra_after reason l.unreset_requests;
          pin = l.pin;
          expiry = pull.armed_expiry now source.config.expires;
          heartbeat_timer = l.heartbeat_timer;
        },
        same_counts _ _ _ _ _ _ (omega arith) (omega arith),
      );
      outputs = (refl, refl);
    }

    stays_on : (l : Requests) → Leads starts last from (IsOn source c requests_sent inboxes_opened) last from (stays (state_at (Pulls (reader source l)) c requests_sent inboxes_opened))
    stays_on l = record { state = (l, refl); outputs = (refl, refl) }

    arms : (depth : ℕ) (l : Requests)
        → Leads starts last from (IsOn source c requests_sent inboxes_opened) last from (pass_to replay_input now m (suc depth) (Read read.Arm) (state_at (Pulls (reader source l)) c requests_sent inboxes_opened))
    arms depth l = record {
      state = (record l { heartbeat_timer = pull.armed_silence now source.config.idle_heartbeat }, same_counts _ _ _ _ _ _ (omega arith) (omega arith));
      outputs = (refl, refl);
    }

    asks_if : (depth : ℕ) (l : Requests) (reason : Reason) (b : Bool)
        → Leads starts last from (IsOn source c requests_sent inboxes_opened) last from (pass_each (pass_to replay_input now m (suc depth)) (map Read (if b then read.Ask reason ∷ [] else [])) (state_at (Pulls (reader source l)) c requests_sent inboxes_opened))
    asks_if depth l reason true =
        leads_alone starts last from last from (IsOn source c requests_sent inboxes_opened)
        (pass_to replay_input now m (suc depth) (Read (read.Ask reason)) (state_at (Pulls (reader source l)) c requests_sent inboxes_opened)) (asks depth l reason)
    asks_if depth l reason false = stays_on l

  module _ (now : ℕ) (m : Matter) (last from : ℕ) (source : PullSource) (c : Progress) (requests_sent inboxes_opened : ℕ) where
    again : (ran : Ran) → Leads starts last from (IsOn source c (requests_sent + 0) (inboxes_opened + 0)) last from ran → Leads starts last from (IsOn source c requests_sent inboxes_opened) last from ran
    again ran = leads_weaker starts last from last from (IsOn source c (requests_sent + 0) (inboxes_opened + 0)) (IsOn source c requests_sent inboxes_opened) ran
        (recounted source c (requests_sent + 0) (inboxes_opened + 0) requests_sent inboxes_opened (omega arith) (omega arith))

    expires : (depth : ℕ) (l : Requests)
        → Leads starts last from (IsOn source c requests_sent inboxes_opened) last from (pass_to replay_input now m (suc (suc depth)) (Read read.CheckExpiry) (state_at (Pulls (reader source l)) c requests_sent inboxes_opened))
    expires depth l = again _ (asks_if now m last from source c (requests_sent + 0) (inboxes_opened + 0) depth l Expired (is_any_due l.expiry now))

    refills : (depth : ℕ) (l : Requests)
        → Leads starts last from (IsOn source c requests_sent inboxes_opened) last from (pass_to replay_input now m (suc (suc depth)) (Read read.Threshold) (state_at (Pulls (reader source l)) c requests_sent inboxes_opened))
    refills depth l =
        if_both (λ (passed : pull.Passed). Leads starts last from (IsOn source c requests_sent inboxes_opened) last from (done now m (suc depth) (state_at (Pulls (reader source l)) c requests_sent inboxes_opened) passed))
        (pull.is_low (reader source l) && not l.waiting)
        (pull.silent_row (record (reader source l) { waiting = true }) (read.Ask Low ∷ []))
        (pull.silent_row (reader source l) [])
        (again _ (asks_if now m last from source c (requests_sent + 0) (inboxes_opened + 0) depth (record l { waiting = true }) Low true))
        (again _ (stays_on now m last from source c (requests_sent + 0) (inboxes_opened + 0) l))

  -- ---- an arrival on the inbox that is read

  abbrev message : List ℕ → List ℕ → Message
  message reply payload = record { subject = []; reply = Some reply; payload = payload; headers = None; status = None; description = None; length = length payload }

  -- what is kept after a yield
  abbrev pub accepted : Place → Progress → Progress
  accepted place c = record c { core = after_yield place.sequence place.number c.core; missed = false; limited = false }

  module _ (now last from : ℕ) (source : PullSource) (c : Progress) (requests_sent inboxes_opened inbox : ℕ) (reply payload : List ℕ) (place : Place) where
    abbrev arrives : Matter
    arrives = matter_of (what.Arrival inbox (message reply payload))

    abbrev heard_state : ℕ → ℕ → Requests → ReplayState
    heard_state a m l = state_at (Pulls (reader source l)) (accepted place c) a m

    -- after the message the reader has this
    abbrev kept : Requests → Requests
    kept l = record {
      pending = l.pending - 1;
      pending_bytes = l.pending_bytes - length payload;
      waiting = l.waiting;
      unreset_requests = l.unreset_requests;
      pin = (if source.pinned then pull.pin_after (message reply payload) None l.pin else None);
      expiry = l.expiry;
      heartbeat_timer = pull.armed_silence now source.config.idle_heartbeat;
    }

    goes_on : (depth : ℕ) (l : Requests) → Leads starts place.sequence from (IsOn source (accepted place c) requests_sent inboxes_opened) place.sequence from
        (pass_each (pass_to replay_input now arrives (suc (suc depth))) (Read read.Threshold ∷ []) (heard_state (requests_sent + 0) (inboxes_opened + 0) (kept l)))
    goes_on depth l =
        again now arrives place.sequence from source (accepted place c) requests_sent inboxes_opened _
        (leads_alone starts place.sequence from place.sequence from (IsOn source (accepted place c) (requests_sent + 0) (inboxes_opened + 0))
        (pass_to replay_input now arrives (suc (suc depth)) (Read read.Threshold) (heard_state (requests_sent + 0) (inboxes_opened + 0) (kept l)))
        (refills now arrives place.sequence from source (accepted place c) (requests_sent + 0) (inboxes_opened + 0) depth (kept l)))

    -- the next message is yielded
    pub yields : (depth : ℕ) (l : Requests) → (source.inbox == inbox) ≡ true → readable_as (Some reply) ≡ Some place → (place.number == c.core.consumer_sequence + 1) ≡ true → place.sequence ≡ last + 1
        → Leads starts last from (IsOn source (accepted place c) requests_sent inboxes_opened) place.sequence from
        (pass_to replay_input now arrives (suc (suc (suc depth))) (Read read.CheckArrival) (state_at (Pulls (reader source l)) c requests_sent inboxes_opened))
    yields depth l here reads next rises =
        rw (here, reads, next) (record { state = (goes_on depth l).state; outputs = (rises, (goes_on depth l).outputs) })

    -- another one begins a recreation
    pub restarts : (depth : ℕ) (l : Requests) → (source.inbox == inbox) ≡ true → readable_as (Some reply) ≡ Some place → (place.number == c.core.consumer_sequence + 1) ≡ false
        → (c.core.stream_sequence == pull.u64_max) ≡ false → (c.core.stream_sequence == 0) ≡ false → c.core.stream_sequence ≡ last
        → Leads starts last from (IsRecreating Deleting (requests_sent + 1) last inboxes_opened) last (last + 1)
        (pass_to replay_input now arrives (suc (suc (suc depth))) (Read read.CheckArrival) (state_at (Pulls (reader source l)) c requests_sent inboxes_opened))
    restarts depth l here reads next below some is =
        rw (here, reads, next, below, some) (record {
          state = record {
            old_name = c.name;
            new_name = consumer_name replay_input (min (c.core.recreation_count + 1) pull.u64_max);
            start = start.From (c.core.stream_sequence + 1);
            failures = 0;
            timeout = record { set = now; wait = recreation_timeout settings };
            recreation_count = min (c.core.recreation_count + 1) pull.u64_max;
            configured = c.core.start;
            name = consumer_name replay_input (min (c.core.recreation_count + 1) pull.u64_max);
            limited = c.limited;
            connection = c.connection;
            request_now = requests_sent + 0 + 0 + 1;
            last_now = c.core.stream_sequence;
            requests_sent = requests_sent + 0 + 0 + 1;
            made_now = inboxes_opened + 0 + 0 + 0;
            state = refl;
            request_is = omega arith;
            asked_is = omega arith;
            last_is = is;
            made_is = omega arith;
          };
          outputs = (refl, omega (arith, is));
        })

    -- one on another inbox does nothing, where a missing heartbeat asks for no info
    pub passes_over : (depth : ℕ) (l : Requests) → (source.inbox == inbox) ≡ false → c.missed ≡ false → source.resilience.asks_at_first_heartbeat ≡ false
        → Leads starts last from (λ w. (missed : Bool) × IsOn source (record c { missed = missed }) requests_sent inboxes_opened w) last from
        (pass_to replay_input now arrives (suc (suc depth)) (Read read.CheckArrival) (state_at (Pulls (reader source l)) c requests_sent inboxes_opened))
    passes_over depth l other found off =
        rw other (leads_alone starts last from last from (λ w. (missed : Bool) × IsOn source (record c { missed = missed }) requests_sent inboxes_opened w)
        (pass_to replay_input now arrives (suc depth) (Read read.CheckSilence) (state_at (Pulls (reader source l)) c (requests_sent + 0) (inboxes_opened + 0)))
        (subst (λ (asks : Bool). Leads starts last from (λ w. (missed : Bool) × IsOn source (record c { missed = missed }) requests_sent inboxes_opened w) last from
        (done now arrives depth (state_at (Pulls (reader source l)) c (requests_sent + 0) (inboxes_opened + 0))
        (if is_any_due l.heartbeat_timer now
        then pull.tell error.MissingHeartbeat (record (reader source l) { heartbeat_timer = pull.armed_silence now source.config.idle_heartbeat })
        (if asks && not (pull.is_asking (reader source l).inquiry) then read.Inquire 0 ∷ [] else [])
        else pull.silent_row (reader source l) [])))
        (sym off)
        (if_both (λ (passed : pull.Passed). Leads starts last from (λ w. (missed : Bool) × IsOn source (record c { missed = missed }) requests_sent inboxes_opened w) last from
        (done now arrives depth (state_at (Pulls (reader source l)) c (requests_sent + 0) (inboxes_opened + 0)) passed))
        (is_any_due l.heartbeat_timer now)
        (pull.tell error.MissingHeartbeat (record (reader source l) { heartbeat_timer = pull.armed_silence now source.config.idle_heartbeat }) [])
        (pull.silent_row (reader source l) [])
        (rw found (record { state = (true, (record l { heartbeat_timer = pull.armed_silence now source.config.idle_heartbeat }, same_counts _ _ _ _ _ _ (omega arith) (omega arith))); outputs = (refl, refl) }))
        (record { state = (c.missed, (l, same_counts _ _ _ _ _ _ (omega arith) (omega arith))); outputs = (refl, refl) }))))

  -- ---- the whole event of an arrival

  module _ (now last from : ℕ) (source : PullSource) (c : Progress) (requests_sent inboxes_opened inbox : ℕ) (reply payload : List ℕ) (last_now from_now : ℕ) (next : ReplayState → Type 0) where
    abbrev comes : Matter
    comes = matter_of (what.Arrival inbox (message reply payload))

    heard_then : ((l : Requests) → Leads starts last from next last_now from_now (pass_to replay_input now comes 9 (Read read.CheckArrival) (state_at (Pulls (reader source l)) c (requests_sent + 0) (inboxes_opened + 0))))
        → (w : ReplayState) → IsOn source c (requests_sent + 0) (inboxes_opened + 0) w → Leads starts last from next last_now from_now (pass_each (pass_to replay_input now comes 9) (Read read.CheckArrival ∷ []) w)
    heard_then row w on = subst (λ (w : ReplayState). Leads starts last from next last_now from_now (pass_each (pass_to replay_input now comes 9) (Read read.CheckArrival ∷ []) w)) (sym on.1)
        (leads_alone starts last from last_now from_now next (pass_to replay_input now comes 9 (Read read.CheckArrival) (state_at (Pulls (reader source on.0)) c (requests_sent + 0) (inboxes_opened + 0))) (row on.0))

    pub heard : ((l : Requests) → Leads starts last from next last_now from_now (pass_to replay_input now comes 9 (Read read.CheckArrival) (state_at (Pulls (reader source l)) c (requests_sent + 0) (inboxes_opened + 0))))
        → (w : ReplayState) → IsOn source c requests_sent inboxes_opened w → Leads starts last from next last_now from_now (event replay_input (record { at = now; what = what.Arrival inbox (message reply payload) }) w)
    unfolding event
    heard row w on = subst (λ (w : ReplayState). Leads starts last from next last_now from_now (event replay_input (record { at = now; what = what.Arrival inbox (message reply payload) }) w)) (sym on.1)
        (leads_alone starts last from last_now from_now next (pass_to replay_input now comes 10 Event (state_at (Pulls (reader source on.0)) c requests_sent inboxes_opened))
        (leads_then starts last from last from last_now from_now (IsOn source c (requests_sent + 0) (inboxes_opened + 0)) next
        (pass_to replay_input now comes 9 (Read read.CheckExpiry) (state_at (Pulls (reader source on.0)) c (requests_sent + 0) (inboxes_opened + 0)))
        (λ (w : ReplayState). pass_each (pass_to replay_input now comes 9) (Read read.CheckArrival ∷ []) w)
        (expires now comes last from source c (requests_sent + 0) (inboxes_opened + 0) 7 on.0) (heard_then row)))

  -- ---- the events of a recreation

  module _ (now last from answered : ℕ) (payload : List ℕ) where
    abbrev answer : Message
    answer = record { subject = []; reply = None; payload = payload; headers = None; status = None; description = None; length = length payload }

    abbrev says : Matter
    says = matter_of (what.Answer answered (Some answer))

    -- the old consumer is deleted, and a new one is asked for
    pub deletes : (request inboxes_opened : ℕ) (w : ReplayState) → IsRecreating Deleting request last inboxes_opened w → (request ≡ answered)
        → Leads starts last from (IsRecreating Creating (request + 1) last inboxes_opened) last from (event replay_input (record { at = now; what = what.Answer answered (Some answer) }) w)
    unfolding event
    deletes request inboxes_opened w at same =
        let here : (at.request_now == answered) ≡ true = equal at.request_now answered (at.request_is ∙ same) in
        subst (λ (w : ReplayState). Leads starts last from (IsRecreating Creating (request + 1) last inboxes_opened) last from (event replay_input (record { at = now; what = what.Answer answered (Some answer) }) w)) (sym at.state)
        (rw here (record {
          state = record {
            old_name = at.old_name;
            new_name = at.new_name;
            start = at.start;
            failures = at.failures;
            timeout = record { set = now; wait = recreation_timeout settings };
            recreation_count = at.recreation_count;
            configured = at.configured;
            name = at.name;
            limited = at.limited;
            connection = at.connection;
            request_now = at.requests_sent + 0 + 0 + 0 + 1;
            last_now = at.last_now;
            requests_sent = at.requests_sent + 0 + 0 + 0 + 1;
            made_now = at.made_now + 0 + 0 + 0 + 0;
            state = refl;
            request_is = let a = at.asked_is in omega arith;
            asked_is = let a = at.asked_is in omega arith;
            last_is = at.last_is;
            made_is = let m = at.made_is in omega arith;
          };
          outputs = (refl, refl);
        }))

    arms_then : (source : PullSource) (c : Progress) (requests_sent inboxes_opened : ℕ) (w : ReplayState) → IsOn source c requests_sent inboxes_opened w
        → Leads starts last from (IsOn source c requests_sent inboxes_opened) last from (pass_each (pass_to replay_input now says 6) (Read read.Arm ∷ []) w)
    arms_then source c requests_sent inboxes_opened w on = subst (λ (w : ReplayState). Leads starts last from (IsOn source c requests_sent inboxes_opened) last from (pass_each (pass_to replay_input now says 6) (Read read.Arm ∷ []) w)) (sym on.1)
        (leads_alone starts last from last from (IsOn source c requests_sent inboxes_opened) (pass_to replay_input now says 6 (Read read.Arm) (state_at (Pulls (reader source on.0)) c requests_sent inboxes_opened)) (arms now says last from source c requests_sent inboxes_opened 5 on.0))

    -- a new reader asks for messages and listens
    opens : (source : PullSource) (c : Progress) (requests_sent inboxes_opened : ℕ) (l : Requests)
        → Leads starts last from (IsOn source c requests_sent inboxes_opened) last from (pass_each (pass_to replay_input now says 6) (Read read.Threshold ∷ Read read.Arm ∷ []) (state_at (Pulls (reader source l)) c requests_sent inboxes_opened))
    opens source c requests_sent inboxes_opened l =
        leads_then starts last from last from last from (IsOn source c requests_sent inboxes_opened) (IsOn source c requests_sent inboxes_opened)
        (pass_to replay_input now says 6 (Read read.Threshold) (state_at (Pulls (reader source l)) c requests_sent inboxes_opened))
        (λ (w : ReplayState). pass_each (pass_to replay_input now says 6) (Read read.Arm ∷ []) w)
        (refills now says last from source c requests_sent inboxes_opened 4 l) (arms_then source c requests_sent inboxes_opened)

    -- the new consumer is there, and its inbox is read
    pub creates : (request inboxes_opened : ℕ) (info : Info) (w : ReplayState) → IsRecreating Creating request last inboxes_opened w → (request ≡ answered) → starts inboxes_opened ≡ from
        → response_of (float_free info_fields) payload ≡ Ok (response.Ok info) → settings.resilience.asks_at_first_heartbeat ≡ false
        → Leads starts last from (IsOpened request last inboxes_opened) last from (event replay_input (record { at = now; what = what.Answer answered (Some answer) }) w)
    unfolding event
    creates request inboxes_opened info w at same begins reads off =
        let here : (at.request_now == answered) ≡ true = equal at.request_now answered (at.request_is ∙ same) in
        let inbox : ℕ = at.made_now + 0 + 0 + 0 in
        let source : PullSource = pull_source replay_input at.recreation_count inbox (inbox_subject replay_input inbox) info in
        let c : Progress = record { core = record { stream_sequence = at.last_now; consumer_sequence = 0; recreation_count = at.recreation_count; start = at.configured }; name = at.name; missed = false; limited = at.limited; connection = at.connection } in
        let requests_sent : ℕ = at.requests_sent + 0 + 0 + 0 + 0 in
        let rest : Leads starts last from (IsOn source c requests_sent (inbox + 1)) last from
        (pass_each (pass_to replay_input now says 6) (Read read.Threshold ∷ Read read.Arm ∷ []) (state_at (Pulls (reader source new)) c requests_sent (inbox + 1))) =
        opens source c requests_sent (inbox + 1) new in
        subst (λ (w : ReplayState). Leads starts last from (IsOpened request last inboxes_opened) last from (event replay_input (record { at = now; what = what.Answer answered (Some answer) }) w)) (sym at.state)
        (rw (here, reads, either_way settings.resilience.tells_missing_stream) (record {
          state = record {
            source = source;
            c = c;
            requests_sent = requests_sent;
            made_now = inbox + 1;
            on = rest.state;
            inbox_is = let m = at.made_is in omega arith;
            num_is = refl;
            last_is = at.last_is;
            missed_is = refl;
            off_is = off;
            asked_is = let a = at.asked_is in omega arith;
            made_is = let m = at.made_is in omega arith;
          };
          outputs = (ap starts (let m = at.made_is in omega arith) ∙ begins, subst (λ (o : List Output). Follows starts last from o last from) (sym (four_nils (pass_each (pass_to replay_input now says 6) (Read read.Threshold ∷ Read read.Arm ∷ []) (state_at (Pulls (reader source new)) c requests_sent (inbox + 1))).outputs)) rest.outputs);
        }))

  -- ---- the opening

  pub opened : (start : ℕ) → Leads starts 0 0 (IsOn (pull_source replay_input 0 0 (inbox_subject replay_input 0) first) (record { core = new_core (configured_start replay_input.setup); name = first.name; missed = false; limited = false; connection = Connected }) 0 1) 0 0 (opening replay_input start)
  unfolding opening
  opened start =
      let source : PullSource = pull_source replay_input 0 0 (inbox_subject replay_input 0) first in
      let c : Progress = record { core = new_core (configured_start replay_input.setup); name = first.name; missed = false; limited = false; connection = Connected } in
      leads_then starts 0 0 0 0 0 0 (IsOn source c 0 1) (IsOn source c 0 1)
      (pass_to replay_input start tick 2 (Read read.Threshold) (state_at (Pulls (reader source new)) c 0 1))
      (λ (w : ReplayState). pass_each (λ row. pass_to replay_input start tick (suc (rank row)) row) (Read read.Arm ∷ []) w)
      (refills start tick 0 0 source c 0 1 0 new)
      (λ w on. subst (λ (w : ReplayState). Leads starts 0 0 (IsOn source c 0 1) 0 0 (pass_each (λ row. pass_to replay_input start tick (suc (rank row)) row) (Read read.Arm ∷ []) w)) (sym on.1)
      (leads_alone starts 0 0 0 0 (IsOn source c 0 1) (pass_to replay_input start tick 1 (Read read.Arm) (state_at (Pulls (reader source on.0)) c 0 1)) (arms start tick 0 0 source c 0 1 0 on.0)))
