-- What polls hand out: each message is that of the last event, which is its arrival.
use Rattle.std.proofs.Common.{◌≡◌, ◌⊎◌, ℕ, ◌+◌, ◌≤◌, ◌∙◌, Bool, true, false, List, [], ◌∷◌, ◌++◌, drop, Option, Some, None, refl, sym, ap, subst, inl, inr, append_assoc, append-nil, arith}
use Rattle.std.specs.Prelude.{Result, Ok, Err, ⊤, if◌then◌else◌, max}
use Rattle.std.proofs.lemmas.List.Elements.{filter-append}
use Rattle.js_base.specs.declared.error.Error.{Error}
use Rattle.js_base.specs.declared.message.Message.{Message}
use Rattle.js_base.specs.declared.message.State.{State}
use Rattle.js_base.specs.declared.turn.Next.{Next}
use Rattle.js_base.specs.declared.turn.Next.TheVariants as next
use Rattle.js_link.specs.LinkView.{LinkView}
use Rattle.js_link.specs.declared.link.Watch.{Watch}
use Rattle.js_link.specs.declared.link.Watch.TheVariants as watch
use Rattle.js_message.specs.AckSubject.{Place, readable_as}
use Rattle.js_ordered.proofs.EventByEvent.{run_on, within_first}
use Rattle.js_ordered.specs.IncrementalReplay.{HasCome, IsWithin, last, last_ran}
use Rattle.js_ordered_stream.specs.declared.error.OrderedErrorKind.{OrderedErrorKind}
use Rattle.js_ordered_table.specs.Consumer.{Matter}
use Rattle.js_ordered_table.specs.Fold.{Ran, event as run_event, last_state, matter_of, opening, run_events}
use Rattle.js_ordered_table.specs.Timers.{phase_due}
use Rattle.js_ordered_table.specs.Walk.{handed, is_handed}
use Rattle.js_ordered_table.specs.declared.consumer.Phase.{Phase}
use Rattle.js_ordered_table.specs.declared.consumer.Phase.TheVariants.{Pulls, Pushes, Recreates, Idle, Ended, Exhausted}
use Rattle.js_ordered_table.specs.declared.consumer.ReplayInput.{ReplayInput}
use Rattle.js_ordered_table.specs.declared.event.Event.{Event}
use Rattle.js_ordered_table.specs.declared.event.EventKind.{EventKind}
use Rattle.js_ordered_table.specs.declared.event.EventKind.TheVariants as what
use Rattle.js_ordered_table.specs.declared.replay_state.ReplayState.{ReplayState}
use Rattle.js_ordered_table.specs.declared.run.ItemKind.{ItemKind}
use Rattle.js_ordered_table.specs.declared.run.ItemKind.TheVariants as item
use Rattle.js_ordered_table.specs.declared.run.Output.{Output}
use Rattle.js_ordered_table.specs.declared.run.Output.TheVariants as out
use Rattle.js_ordered_table.specs.declared.setup.OrderedSetup.{OrderedSetup}
use Rattle.js_ordered_table.specs.declared.setup.OrderedSetup.TheVariants.{Pull, Push}
use Rattle.js_pull.specs.Poll.{same_state}
use Rattle.js_ordered_recorder.proofs.OwnArrival.{AreOwn, HoldsNone, IsOwn, IsOwnOf, Ready, arrived, uses}
use Rattle.js_ordered_recorder.proofs.OwnEvents.{RanFits, event_fits, opening_fits}
use Rattle.js_ordered_recorder.proofs.RecorderStates.{drop_first, some_none}
use Rattle.js_ordered_recorder.specs.Acts.{Act, AreSilent, Does, DoesAll, Gives, Passes, PassesEvent, Stops, StopsWithin, Takes, TakesOne, Works, WorksOff, World, Writes, WritesDown, event_of, events_of, outgoing, outputs_of, phase_of}
use Rattle.js_ordered_recorder.specs.Life.{HandsOut, IsArrival}
use Rattle.js_ordered_recorder.specs.LinkInput.{AnswersAs, ArrivesAs, GivesArrival, change_in, kind_of, link_in, listened_at, message_at, message_in, read_in, tick_in}
use Rattle.js_ordered_recorder.specs.Recorder.{Answers, Goes, HandsError, HandsMessage, HandsOver, Stands, half_passed}
use Rattle.js_ordered_recorder.specs.Sends.{GoesTo, Outgoing, left_by, yielded}
use Rattle.js_ordered_recorder.specs.declared.link_event.Taken.{Taken}
use Rattle.js_ordered_recorder.specs.declared.link_event.Taken.TheVariants as taken
use Rattle.js_ordered_recorder.specs.declared.recorder.Recorder.{Recorder}
use Rattle.js_ordered_recorder.specs.declared.sends.LinkNumbers.{LinkNumbers}

-- ---- the last event of a run

last_of_more : (first : Ran) (rans : List Ran) (ran : Ran) → last_ran first (rans ++ ran ∷ []) ≡ ran
last_of_more first [] ran = refl
last_of_more first (one ∷ rans) ran = last_of_more one rans ran

last_state_is : (first : Ran) (rans : List Ran) → (last_ran first rans).state ≡ last_state first.state rans
last_state_is first [] = refl
last_state_is first (one ∷ rans) = last_state_is one rans

last_on : (g : ReplayInput) (start : ℕ) (es : List Event) (e : Event) → last g start (es ++ e ∷ []) ≡ run_event g e (last g start es).state
unfolding last
last_on g start es e =
    let first : Ran = opening g start in
    ap (λ (rans : List Ran). last_ran first rans) (run_on g es e first.state)
    ∙ last_of_more first (run_events g es first.state) (run_event g e (last_state first.state (run_events g es first.state)))
    ∙ ap (λ (w : ReplayState). run_event g e w) (sym (last_state_is first (run_events g es first.state)))

first_is : (g : ReplayInput) (start : ℕ) → last g start [] ≡ opening g start
unfolding last run_events
first_is g start = refl

least : (n : ℕ) → n ≤ 0 → n ≡ 0
least n few = omega arith

-- ---- what is known of a recorder's message

-- the message that an event brings
abbrev pub brought : EventKind → Option Message
brought (what.Arrival inbox message) = Some message
brought (what.Answer request reply) = reply
brought other = None

-- of these outputs one uses the message at most, and the message that waits is that of the last
-- event, whose outputs they are
pub record UsesOne (es : List Event) (message : Option Message) (outputs : List Output) : Type 0 where
  pub before : List Event
  pub event : Event
  pub last : es ≡ before ++ event ∷ []
  pub is : message ≡ brought event.what
  pub own : AreOwn (arrived (matter_of event.what)) outputs
  pub few : uses outputs ≤ 1

-- none uses it, or one does
abbrev pub LeavesOne : List Event → Option Message → List Output → Type 0
LeavesOne es message outputs = (uses outputs ≡ 0) ⊎ UsesOne es message outputs

-- where the consumer stands after events
abbrev pub phase_after : ReplayInput → ℕ → List Event → Phase
phase_after g start es = (last g start es).state.consumer.phase

-- what waits in a recorder belongs together
pub record Owns (g : ReplayInput) (start : ℕ) (es : List Event) (r : Recorder) : Type 0 where
  pub passed : List Event
  pub written : es ≡ passed ++ half_passed r.event
  pub stands : Stands g start passed r.event r.replay.value
  pub held : HoldsNone (phase_after g start passed)
  pub taken : (one : Taken) → r.taken ≡ Some one → (r.event ≡ None) × Ready (matter_of (kind_of one)) (phase_after g start passed)
  pub half : (e : Event) → r.event ≡ Some e → Ready (matter_of e.what) (phase_after g start passed) × (r.message ≡ brought e.what)
  pub left : r.event ≡ None → LeavesOne es r.message (drop r.worked r.replay.value.outputs)

-- ---- what is taken

none_taken : {P : Type 0} (one : Taken) → None ≡ Some one → P
none_taken one same = cc

same_taken : (one other : Taken) → Some one ≡ Some other → one ≡ other
same_taken one other same = cc

same_event : (one other : Event) → Some one ≡ Some other → one ≡ other
same_event one other same = cc

none_event : {P : Type 0} (e : Event) → None ≡ Some e → P
none_event e same = cc

nothing_ready : (m : Matter) (phase : Phase) → m.arrival ≡ None → Ready m phase
nothing_ready m (Recreates r) nothing = nothing
nothing_ready m (Pulls reader) nothing = tt
nothing_ready m (Pushes inbox heartbeat_timer) nothing = tt
nothing_ready m Idle nothing = tt
nothing_ready m Ended nothing = tt
nothing_ready m Exhausted nothing = tt

link_arrival : {P : Type 0} (inbox : ℕ) (message : Message) (up was : Bool) → link_in up was ≡ Some (taken.Arrival inbox message) → P
link_arrival inbox message true true is = cc
link_arrival inbox message true false is = cc
link_arrival inbox message false true is = cc
link_arrival inbox message false false is = cc

state_arrival : {P : Type 0} (inbox : ℕ) (message : Message) (state : State) (test : Bool) → (if test then None else Some (taken.Connection state)) ≡ Some (taken.Arrival inbox message) → P
state_arrival inbox message state true is = cc
state_arrival inbox message state false is = cc

change_arrival : {P : Type 0} (inbox : ℕ) (message : Message) (setup : OrderedSetup) (last : State) (w : Watch) → change_in setup last w ≡ Some (taken.Arrival inbox message) → P
change_arrival inbox message setup last (watch.State state) is = state_arrival inbox message state (same_state last state) is
change_arrival inbox message (Pull setup) last watch.Ended is = cc
change_arrival inbox message (Push setup) last watch.Ended is = cc

tick_where : {P : Type 0} (inbox : ℕ) (message : Message) (test : Bool) → (if test then Some taken.Tick else None) ≡ Some (taken.Arrival inbox message) → P
tick_where inbox message true is = cc
tick_where inbox message false is = cc

-- an inbox is read where the consumer is not recreated
reads_ready : (m : Matter) (number : ℕ) (message : Message) (phase : Phase) (sends : LinkNumbers) (v w : LinkView) → GivesArrival number message (listened_at (read_in phase) sends) v w → Ready m phase
reads_ready m number message (Recreates r) sends v w gives = absurd gives
reads_ready m number message (Pulls reader) sends v w gives = tt
reads_ready m number message (Pushes inbox heartbeat_timer) sends v w gives = tt
reads_ready m number message Idle sends v w gives = tt
reads_ready m number message Ended sends v w gives = tt
reads_ready m number message Exhausted sends v w gives = tt

arrival_ready : (now inbox : ℕ) (message : Message) (r : Recorder) (v w : LinkView) → Gives now (taken.Arrival inbox message) r v w → Ready (matter_of (what.Arrival inbox message)) (phase_of r)
arrival_ready now inbox message r v w (inl said) = link_arrival inbox message r.link_up r.replay.value.state.link_up said.1
arrival_ready now inbox message r v w (inr (inl changed)) = change_arrival inbox message r.setup.now r.replay.value.state.consumer.connection v.watch changed.1
arrival_ready now inbox message r v w (inr (inr (inl answer))) = absurd answer
arrival_ready now inbox message r v w (inr (inr (inr (inl arrival)))) = reads_ready (matter_of (what.Arrival inbox message)) inbox message (phase_of r) r.sends v w arrival
arrival_ready now inbox message r v w (inr (inr (inr (inr tick)))) = tick_where inbox message (phase_due (max now r.moment) (phase_of r)) tick.1

gives_ready : (now : ℕ) (one : Taken) (r : Recorder) (v w : LinkView) → Gives now one r v w → Ready (matter_of (kind_of one)) (phase_of r)
gives_ready now (taken.Arrival inbox message) r v w gives = arrival_ready now inbox message r v w gives
gives_ready now (taken.Link up) r v w gives = nothing_ready (matter_of (what.Link up)) (phase_of r) refl
gives_ready now (taken.Connection state) r v w gives = nothing_ready (matter_of (what.Connection state)) (phase_of r) refl
gives_ready now taken.WatcherEnded r v w gives = nothing_ready (matter_of what.WatcherEnded) (phase_of r) refl
gives_ready now (taken.Gone request) r v w gives = nothing_ready (matter_of (what.Answer request None)) (phase_of r) refl
gives_ready now (taken.Answer request message) r v w gives = nothing_ready (matter_of (what.Answer request (Some message))) (phase_of r) refl
gives_ready now taken.Tick r v w gives = nothing_ready (matter_of what.Tick) (phase_of r) refl

brings : (one : Taken) → message_in one ≡ brought (kind_of one)
brings (taken.Link up) = refl
brings (taken.Connection state) = refl
brings taken.WatcherEnded = refl
brings (taken.Gone request) = refl
brings (taken.Answer request message) = refl
brings (taken.Arrival inbox message) = refl
brings taken.Tick = refl

-- ---- one act

owns_taken : (g : ReplayInput) (start now : ℕ) (es : List Event) (one : Taken) (a b : World) → TakesOne now one a b → Owns g start es a.recorder → Owns g start es b.recorder
owns_taken g start now es one a b step owns =
    let P : Recorder → Type 0 = λ r. Owns g start es r in
    let S : Option Event → Type 0 = λ v. Stands g start owns.passed v a.recorder.replay.value in
    let come : HasCome g start owns.passed a.recorder.replay.value = subst S step.rests.event owns.stands in
    let R : Phase → Type 0 = λ phase. Ready (matter_of (kind_of one)) phase in
    let ready : R (phase_after g start owns.passed) =
    subst R (ap (λ (w : ReplayState). w.consumer.phase) come.state) (gives_ready now one a.recorder a.link b.link step.given) in
    let Q : Taken → Type 0 = λ x. Ready (matter_of (kind_of x)) (phase_after g start owns.passed) in
    subst P (sym step.kept) (record {
      passed = owns.passed;
      written = owns.written;
      stands = owns.stands;
      held = owns.held;
      taken = λ other is. (step.rests.event, subst Q (same_taken one other is) ready);
      half = owns.half;
      left = owns.left;
    })

owns_written : (g : ReplayInput) (start now : ℕ) (es : List Event) (e : Event) (a b : World) → WritesDown now e a b → Owns g start es a.recorder → Owns g start (es ++ e ∷ []) b.recorder
owns_written g start now es e a b step owns =
    let P : Recorder → Type 0 = λ r. Owns g start (es ++ e ∷ []) r in
    let fits = owns.taken step.one step.brought in
    let S : Option Event → Type 0 = λ v. Stands g start owns.passed v a.recorder.replay.value in
    let Q : EventKind → Type 0 = λ k. Ready (matter_of k) (phase_after g start owns.passed) in
    let kind : kind_of step.one ≡ e.what = sym (ap (λ (x : Event). x.what) step.is) in
    let H : Event → Type 0 = λ x. Ready (matter_of x.what) (phase_after g start owns.passed) × (message_at a.recorder.taken ≡ brought x.what) in
    let here : H e = (subst Q kind fits.1, ap (λ (t : Option Taken). message_at t) step.brought ∙ brings step.one ∙ ap brought kind) in
    subst P (sym step.kept) (record {
      passed = owns.passed;
      written = ap (λ (front : List Event). front ++ e ∷ []) (owns.written ∙ ap (λ (v : Option Event). owns.passed ++ half_passed v) fits.0 ∙ append-nil owns.passed);
      stands = within_first g start owns.passed e a.recorder.replay.value (subst S fits.0 owns.stands);
      held = owns.held;
      taken = λ other is. none_taken other is;
      half = λ other is. subst H (same_event e other is) here;
      left = λ none. some_none e none;
    })

owns_passed : (g : ReplayInput) (start : ℕ) (es : List Event) (a b : World) → PassesEvent a b → Owns g start es a.recorder → Owns g start es b.recorder
owns_passed g start es a b step owns =
    let P : Recorder → Type 0 = λ r. Owns g start es r in
    let S : Option Event → Type 0 = λ v. Stands g start owns.passed v a.recorder.replay.value in
    let e : Event = step.event in
    let half = owns.half e step.is in
    let come : HasCome g start (owns.passed ++ e ∷ []) b.recorder.replay.value = step.passed g start owns.passed (subst S step.is owns.stands) in
    let ran : Ran = run_event g e (last g start owns.passed).state in
    let fits : RanFits (matter_of e.what) 1 ran = event_fits g e (last g start owns.passed).state half.0 owns.held in
    let on : last g start (owns.passed ++ e ∷ []) ≡ ran = last_on g start owns.passed e in
    let H : Ran → Type 0 = λ x. HoldsNone x.state.consumer.phase in
    let outputs : b.recorder.replay.value.outputs ≡ ran.outputs = come.outputs ∙ ap (λ (x : Ran). x.outputs) on in
    let L : List Output → Type 0 = λ os. UsesOne es a.recorder.message os in
    let written : es ≡ owns.passed ++ e ∷ [] = owns.written ∙ ap (λ (v : Option Event). owns.passed ++ half_passed v) step.is in
    let one : UsesOne es a.recorder.message ran.outputs = record { before = owns.passed; event = e; last = written; is = half.1; own = fits.own; few = fits.few } in
    subst P (sym step.kept) (record {
      passed = owns.passed ++ e ∷ [];
      written = written ∙ sym (append-nil (owns.passed ++ e ∷ []));
      stands = come;
      held = subst H (sym on) fits.held;
      taken = λ other is. some_none e (sym step.is ∙ (owns.taken other is).0);
      half = λ other is. none_event other is;
      left = λ none. inr (subst L (sym outputs) one);
    })

owns_stopped : (g : ReplayInput) (start : ℕ) (es : List Event) (a b : World) → StopsWithin a b → Owns g start es a.recorder → Owns g start es b.recorder
owns_stopped g start es a b step owns =
    let P : Recorder → Type 0 = λ r. Owns g start es r in
    let S : Option Event → Type 0 = λ v. Stands g start owns.passed v a.recorder.replay.value in
    let T : Option Event → Type 0 = λ v. Stands g start owns.passed v b.recorder.replay.value in
    subst P (sym step.kept) (record {
      passed = owns.passed;
      written = owns.written;
      stands = subst T (sym step.is) (step.stays g start owns.passed (subst S step.is owns.stands));
      held = owns.held;
      taken = owns.taken;
      half = owns.half;
      left = λ none. some_none step.event (sym step.is ∙ none);
    })

-- ---- an output

none_of : {P : Type 0} (n : ℕ) → 1 + n ≡ 0 → P
none_of n is = absurd (omega arith)

-- of what is left after the first output
less_yield : (es : List Event) (message : Option Message) (sequence number : ℕ) (subject payload : List ℕ) (rest : List Output) → LeavesOne es message (out.Yield sequence number subject payload ∷ rest) → uses rest ≡ 0
less_yield es message sequence number subject payload rest (inl none) = none_of (uses rest) none
less_yield es message sequence number subject payload rest (inr one) = let few = one.few in omega arith

less_limit : (es : List Event) (message : Option Message) (rest : List Output) → LeavesOne es message (out.Item item.RequestLimitExceeded ∷ rest) → uses rest ≡ 0
less_limit es message rest (inl none) = none_of (uses rest) none
less_limit es message rest (inr one) = let few = one.few in omega arith

-- what is left after an output that uses no message
less_other : (es : List Event) (message : Option Message) (o : Output) (rest : List Output) → uses (o ∷ rest) ≡ uses rest → ((b : Option Message) → AreOwn b (o ∷ rest) → AreOwn b rest) → LeavesOne es message (o ∷ rest) → LeavesOne es message rest
less_other es message o rest same own (inl none) = inl (sym same ∙ none)
less_other es message o rest same own (inr one) = inr (record {
  before = one.before;
  event = one.event;
  last = one.last;
  is = one.is;
  own = own (arrived (matter_of one.event.what)) one.own;
  few = let few = one.few in omega arith;
})

as_message : (es : List Event) (m n : Option Message) (outputs : List Output) → n ≡ m → LeavesOne es m outputs → LeavesOne es n outputs
as_message es m n outputs same leaves = let P : Option Message → Type 0 = λ x. LeavesOne es x outputs in subst P (sym same) leaves

less_item : (es : List Event) (message : Option Message) (kind : ItemKind) (rest : List Output) → LeavesOne es message (out.Item kind ∷ rest) → LeavesOne es (left_by kind message) rest
less_item es message item.RequestLimitExceeded rest leaves = inl (less_limit es message rest leaves)
less_item es message item.MissingHeartbeat rest leaves = less_other es message (out.Item item.MissingHeartbeat) rest refl (λ b own. own) leaves
less_item es message item.PushBasedConsumer rest leaves = less_other es message (out.Item item.PushBasedConsumer) rest refl (λ b own. own) leaves
less_item es message item.Pull rest leaves = less_other es message (out.Item item.Pull) rest refl (λ b own. own) leaves
less_item es message item.Recreate rest leaves = less_other es message (out.Item item.Recreate) rest refl (λ b own. own) leaves
less_item es message item.Other rest leaves = less_other es message (out.Item item.Other) rest refl (λ b own. own) leaves
less_item es message item.StreamNotFound rest leaves = less_other es message (out.Item item.StreamNotFound) rest refl (λ b own. own) leaves

same_item : (es : List Event) (message : Option Message) (kind : ItemKind) (rest : List Output) → LeavesOne es message (out.Item kind ∷ rest) → LeavesOne es message rest
same_item es message item.RequestLimitExceeded rest leaves = inl (less_limit es message rest leaves)
same_item es message item.MissingHeartbeat rest leaves = less_other es message (out.Item item.MissingHeartbeat) rest refl (λ b own. own) leaves
same_item es message item.PushBasedConsumer rest leaves = less_other es message (out.Item item.PushBasedConsumer) rest refl (λ b own. own) leaves
same_item es message item.Pull rest leaves = less_other es message (out.Item item.Pull) rest refl (λ b own. own) leaves
same_item es message item.Recreate rest leaves = less_other es message (out.Item item.Recreate) rest refl (λ b own. own) leaves
same_item es message item.Other rest leaves = less_other es message (out.Item item.Other) rest refl (λ b own. own) leaves
same_item es message item.StreamNotFound rest leaves = less_other es message (out.Item item.StreamNotFound) rest refl (λ b own. own) leaves

goes_leave : (es : List Event) (o : Output) (rest : List Output) (a b : Outgoing) → GoesTo o a b → LeavesOne es a.message (o ∷ rest) → LeavesOne es b.message rest
goes_leave es (out.Yield sequence number subject payload) rest a b goes leaves = inl (less_yield es a.message sequence number subject payload rest leaves)
goes_leave es (out.Item kind) rest a b goes leaves = as_message es a.message b.message rest (ap (λ (x : Outgoing). x.message) goes) (same_item es a.message kind rest leaves)
goes_leave es (out.Recreate recreation_count start) rest a b goes leaves =
    as_message es a.message b.message rest (ap (λ (x : Outgoing). x.message) goes) (less_other es a.message (out.Recreate recreation_count start) rest refl (λ c own. own) leaves)
goes_leave es (out.Request number subject payload) rest a b goes leaves =
    as_message es a.message b.message rest goes.1 (less_other es a.message (out.Request number subject payload) rest refl (λ c own. own) leaves)
goes_leave es (out.Publish subject reply payload) rest a b goes leaves =
    as_message es a.message b.message rest goes.1 (less_other es a.message (out.Publish subject reply payload) rest refl (λ c own. own) leaves)
goes_leave es (out.Subscribe inbox subject) rest a b goes leaves =
    as_message es a.message b.message rest goes.1 (less_other es a.message (out.Subscribe inbox subject) rest refl (λ c own. own) leaves)

-- what was left before an output was worked off
left_before : (g : ReplayInput) (start : ℕ) (es : List Event) (o : Output) (a b : World) → WorksOff o a b → Owns g start es a.recorder → LeavesOne es a.recorder.message (o ∷ drop (a.recorder.worked + 1) a.recorder.replay.value.outputs)
left_before g start es o a b step owns =
    let P : List Output → Type 0 = λ os. LeavesOne es a.recorder.message os in
    subst P (drop_first a.recorder.replay.value.outputs a.recorder.worked o step.first) (owns.left step.rests.event)

owns_with : (g : ReplayInput) (start : ℕ) (es : List Event) (r : Recorder) (worked : ℕ) (sends : LinkNumbers) (message : Option Message) → r.event ≡ None → LeavesOne es message (drop worked r.replay.value.outputs) → Owns g start es r
    → Owns g start es (record r { worked = worked; sends = sends; message = message })
owns_with g start es r worked sends message none leaves owns = record {
  passed = owns.passed;
  written = owns.written;
  stands = owns.stands;
  held = owns.held;
  taken = owns.taken;
  half = λ e is. none_event e (sym none ∙ is);
  left = λ _. leaves;
}

owns_worked : (g : ReplayInput) (start : ℕ) (es : List Event) (o : Output) (a b : World) → WorksOff o a b → Owns g start es a.recorder → Owns g start es b.recorder
owns_worked g start es o a b step owns =
    let P : Recorder → Type 0 = λ r. Owns g start es r in
    let r : Recorder = a.recorder in
    let leaves : LeavesOne es b.recorder.message (drop (r.worked + 1) r.replay.value.outputs) =
    goes_leave es o (drop (r.worked + 1) r.replay.value.outputs) (outgoing a) (outgoing b) step.goes (left_before g start es o a b step owns) in
    subst P (sym step.kept) (owns_with g start es r (r.worked + 1) b.recorder.sends b.recorder.message step.rests.event leaves owns)

-- ---- acts in order

acts_own : (g : ReplayInput) (start now : ℕ) (es : List Event) (acts : List Act) (a b : World) → DoesAll now acts a b → Owns g start es a.recorder → Owns g start (es ++ events_of acts) b.recorder
acts_own g start now es [] a b does owns =
    let P : List Event → Type 0 = λ x. Owns g start x b.recorder in
    let Q : World → Type 0 = λ w. Owns g start es w.recorder in
    subst P (sym (append-nil es)) (subst Q (sym does) owns)
acts_own g start now es (Takes one ∷ acts) a b does owns = acts_own g start now es acts does.0 b does.2 (owns_taken g start now es one a does.0 does.1 owns)
acts_own g start now es (Writes e ∷ acts) a b does owns =
    let P : List Event → Type 0 = λ x. Owns g start x b.recorder in
    subst P (append_assoc es (e ∷ []) (events_of acts)) (acts_own g start now (es ++ e ∷ []) acts does.0 b does.2 (owns_written g start now es e a does.0 does.1 owns))
acts_own g start now es (Passes ∷ acts) a b does owns = acts_own g start now es acts does.0 b does.2 (owns_passed g start es a does.0 does.1 owns)
acts_own g start now es (Stops ∷ acts) a b does owns = acts_own g start now es acts does.0 b does.2 (owns_stopped g start es a does.0 does.1 owns)
acts_own g start now es (Works o ∷ acts) a b does owns = acts_own g start now es acts does.0 b does.2 (owns_worked g start es o a does.0 does.1 owns)

going_owns : (g : ReplayInput) (start now : ℕ) (earlier : List Event) (a b : World) (es : List Event) (worked : List Output) → Goes now a es worked b → Owns g start earlier a.recorder → Owns g start (earlier ++ es) b.recorder
going_owns g start now earlier a b es worked goes owns =
    let P : List Event → Type 0 = λ x. Owns g start (earlier ++ x) b.recorder in
    subst P goes.written (acts_own g start now earlier goes.acts a b goes.does owns)

-- ---- what is for the user

silent_none : (acts : List Act) → AreSilent acts → handed (outputs_of acts) ≡ []
silent_none [] silent = refl
silent_none (Takes one ∷ acts) silent = silent_none acts silent.1
silent_none (Writes e ∷ acts) silent = silent_none acts silent.1
silent_none (Passes ∷ acts) silent = silent_none acts silent.1
silent_none (Stops ∷ acts) silent = silent_none acts silent.1
silent_none (Works (out.Yield stream_sequence consumer_sequence subject payload) ∷ acts) silent = absurd silent.0
silent_none (Works (out.Item kind) ∷ acts) silent = absurd silent.0
silent_none (Works (out.Recreate recreation_count start) ∷ acts) silent = silent_none acts silent.1
silent_none (Works (out.Request number subject payload) ∷ acts) silent = silent_none acts silent.1
silent_none (Works (out.Publish subject reply payload) ∷ acts) silent = silent_none acts silent.1
silent_none (Works (out.Subscribe inbox subject) ∷ acts) silent = silent_none acts silent.1

going_none : (now : ℕ) (a b : World) (es : List Event) (worked : List Output) → Goes now a es worked b → handed worked ≡ []
going_none now a b es worked goes = sym (ap (λ (os : List Output). handed os) goes.outputs) ∙ silent_none goes.acts goes.silent

hands_one : (now : ℕ) (o : Output) (a b : World) (es : List Event) (worked : List Output) → HandsOver now o a es worked b → handed worked ≡ handed (o ∷ [])
hands_one now o a b es worked hands =
    ap (λ (os : List Output). handed os) hands.outputs ∙ filter-append is_handed hands.before (o ∷ [])
    ∙ ap (λ (os : List Output). os ++ handed (o ∷ [])) (going_none now a hands.between es hands.before hands.goes)

-- ---- the message of a yield

-- it is the last event's, an arrival
record IsOf (es : List Event) (message : Message) (sequence number : ℕ) (subject payload : List ℕ) : Type 0 where
  own : IsOwn message sequence number subject payload
  arrival : IsArrival es message

-- an event that yields is an arrival, and its message waits
yield_of : (es before : List Event) (moment : ℕ) (k : EventKind) (kept : Option Message) (message : Message) (sequence number : ℕ) (subject payload : List ℕ) → es ≡ before ++ record { at = moment; what = k } ∷ [] → kept ≡ brought k
    → IsOwnOf (arrived (matter_of k)) sequence number subject payload → Some message ≡ yielded subject payload kept → IsOf es message sequence number subject payload
yield_of es before moment (what.Arrival inbox own) kept message sequence number subject payload is same fits handed_is =
    let P : Option Message → Type 0 = λ x. Some message ≡ yielded subject payload x in
    let one : own ≡ message = sym (same_message message own (subst P same handed_is)) in
    let Q : Message → Type 0 = λ x. IsOf es x sequence number subject payload in
    subst Q one (record { own = fits; arrival = record { before = before; moment = moment; inbox = inbox; is = is } })
  where
    same_message : (one other : Message) → Some one ≡ Some other → one ≡ other
    same_message one other same = cc
yield_of es before moment (what.Answer request reply) kept message sequence number subject payload is same fits handed_is = absurd fits
yield_of es before moment what.Tick kept message sequence number subject payload is same fits handed_is = absurd fits
yield_of es before moment (what.Link up) kept message sequence number subject payload is same fits handed_is = absurd fits
yield_of es before moment (what.Connection state) kept message sequence number subject payload is same fits handed_is = absurd fits
yield_of es before moment what.WatcherEnded kept message sequence number subject payload is same fits handed_is = absurd fits

yields_own : (es : List Event) (kept : Option Message) (message : Message) (sequence number : ℕ) (subject payload : List ℕ) (rest : List Output) → LeavesOne es kept (out.Yield sequence number subject payload ∷ rest) → Some message ≡ yielded subject payload kept
    → IsOf es message sequence number subject payload
yields_own es kept message sequence number subject payload rest (inl none) is = none_of (uses rest) none
yields_own es kept message sequence number subject payload rest (inr one) is =
    yield_of es one.before one.event.at one.event.what kept message sequence number subject payload one.last one.is one.own.0 is

-- ---- a poll

abbrev pub Handing : ReplayInput → ℕ → List Event → Next (Result Message (Error OrderedErrorKind)) → List Output → World → Type 0
Handing g start es answer worked b = HandsOut es answer (handed worked) × Owns g start es b.recorder

message_hands : (g : ReplayInput) (start now : ℕ) (earlier : List Event) (message : Message) (a b : World) (es : List Event) (worked : List Output) → HandsMessage now message a es worked b → Owns g start earlier a.recorder
    → Handing g start (earlier ++ es) (next.Item (Ok message)) worked b
message_hands g start now earlier message a b es worked answers owns =
    let y = answers.yields in
    let o : Output = out.Yield y.stream_sequence y.consumer_sequence y.subject y.payload in
    let before : World = y.hands.between in
    let between : Recorder = answers.between.recorder in
    let r : Recorder = before.recorder in
    let kept : Owns g start (earlier ++ es) r = going_owns g start now earlier a before es y.hands.before y.hands.goes owns in
    let leaves = left_before g start (earlier ++ es) o before answers.between y.hands.last kept in
    let rest : List Output = drop (r.worked + 1) r.replay.value.outputs in
    let is : Some message ≡ yielded y.subject y.payload r.message = sym answers.message ∙ y.hands.last.goes.2 in
    let of : IsOf (earlier ++ es) message y.stream_sequence y.consumer_sequence y.subject y.payload =
    yields_own (earlier ++ es) r.message message y.stream_sequence y.consumer_sequence y.subject y.payload rest leaves is in
    let P : World → Type 0 = λ w. Owns g start (earlier ++ es) w.recorder in
    let Q : Recorder → Type 0 = λ x. Owns g start (earlier ++ es) (record x { message = None }) in
    let none : uses rest ≡ 0 = less_yield (earlier ++ es) r.message y.stream_sequence y.consumer_sequence y.subject y.payload rest leaves in (
      (
        record { sequence = y.stream_sequence; number = y.consumer_sequence },
        of.own.place,
        hands_one now o a answers.between es worked y.hands
            ∙ ap (λ (x : List ℕ). out.Yield y.stream_sequence y.consumer_sequence x y.payload ∷ []) (sym of.own.subject_is)
            ∙ ap (λ (x : List ℕ). out.Yield y.stream_sequence y.consumer_sequence message.subject x ∷ []) (sym of.own.payload_is),
        of.arrival,
      ),
      subst P (sym answers.kept) (subst Q (sym y.hands.last.kept) (owns_with g start (earlier ++ es) r (r.worked + 1) between.sends None y.hands.last.rests.event (inl none) kept)),
    )

error_hands : (g : ReplayInput) (start now : ℕ) (earlier : List Event) (e : Error OrderedErrorKind) (a b : World) (es : List Event) (worked : List Output) → HandsError now e a es worked b → Owns g start earlier a.recorder
    → Handing g start (earlier ++ es) (next.Item (Err e)) worked b
error_hands g start now earlier e a b es worked answers owns =
    let before : World = answers.hands.between in
    let between : Recorder = answers.between.recorder in
    let r : Recorder = before.recorder in
    let kept : Owns g start (earlier ++ es) r = going_owns g start now earlier a before es answers.hands.before answers.hands.goes owns in
    let rest : List Output = drop (r.worked + 1) r.replay.value.outputs in
    let less = less_item (earlier ++ es) r.message answers.kind rest (left_before g start (earlier ++ es) (out.Item answers.kind) before answers.between answers.hands.last kept) in
    let message : b.recorder.message ≡ left_by answers.kind r.message = answers.left ∙ ap (λ (x : Outgoing). left_by answers.kind x.message) answers.hands.last.goes in
    let P : World → Type 0 = λ w. Owns g start (earlier ++ es) w.recorder in
    let Q : Recorder → Type 0 = λ x. Owns g start (earlier ++ es) (record x { message = b.recorder.message }) in (
      (answers.kind, hands_one now (out.Item answers.kind) a answers.between es worked answers.hands, answers.tells),
      subst P (sym answers.kept)
          (subst Q (sym answers.hands.last.kept)
          (owns_with g start (earlier ++ es) r (r.worked + 1) between.sends b.recorder.message answers.hands.last.rests.event (as_message (earlier ++ es) (left_by answers.kind r.message) b.recorder.message rest message less) kept)),
    )

pub poll_hands : (g : ReplayInput) (start now : ℕ) (earlier : List Event) (answer : Next (Result Message (Error OrderedErrorKind))) (a b : World) (es : List Event) (worked : List Output) → Answers now answer a es worked b → Owns g start earlier a.recorder
    → Handing g start (earlier ++ es) answer worked b
poll_hands g start now earlier next.Pending a b es worked answers owns = (going_none now a b es worked answers.0, going_owns g start now earlier a b es worked answers.0 owns)
poll_hands g start now earlier next.End a b es worked answers owns = (going_none now a b es worked answers.0, going_owns g start now earlier a b es worked answers.0 owns)
poll_hands g start now earlier next.OutOfMemory a b es worked answers owns = (going_none now a b es worked answers, going_owns g start now earlier a b es worked answers owns)
poll_hands g start now earlier (next.Item (Ok message)) a b es worked answers owns = message_hands g start now earlier message a b es worked answers owns
poll_hands g start now earlier (next.Item (Err e)) a b es worked answers owns = error_hands g start now earlier e a b es worked answers owns

-- what the caller says of the link leaves it as it is
pub said_owns : (g : ReplayInput) (start : ℕ) (es : List Event) (r : Recorder) (up : Bool) → Owns g start es r → Owns g start es (record r { link_up = up })
said_owns g start es r up owns = record { passed = owns.passed; written = owns.written; stands = owns.stands; held = owns.held; taken = owns.taken; half = owns.half; left = owns.left }

-- ---- the opening

-- a recorder that was just opened
pub new_owns : (g : ReplayInput) (start : ℕ) (r : Recorder) → HasCome g start [] r.replay.value → r.taken ≡ None → r.event ≡ None → r.worked ≡ 0 → Owns g start [] r
new_owns g start r come taken event worked =
    let S : Option Event → Type 0 = λ v. Stands g start [] v r.replay.value in
    let fits = opening_fits g start in
    let none : last g start [] ≡ opening g start = first_is g start in
    let H : Ran → Type 0 = λ x. HoldsNone x.state.consumer.phase in
    let outputs : drop r.worked r.replay.value.outputs ≡ (last g start []).outputs = ap (λ (n : ℕ). drop n r.replay.value.outputs) worked ∙ come.outputs in
    let few : uses (last g start []).outputs ≡ 0 = ap (λ (x : Ran). uses x.outputs) none ∙ least (uses (opening g start).outputs) fits.few in
    record {
      passed = [];
      written = ap half_passed (sym event);
      stands = subst S (sym event) come;
      held = subst H (sym none) fits.held;
      taken = λ one is. none_taken one (sym taken ∙ is);
      half = λ e is. none_event e (sym event ∙ is);
      left = λ _. inl (ap uses outputs ∙ few);
    }
