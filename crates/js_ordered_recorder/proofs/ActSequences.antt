-- Acts after acts.
use Rattle.std.proofs.Common.{◌≡◌, ℕ, ◌+◌, ◌-◌, ◌<◌, ◌^◌, ◌∙◌, List, [], ◌∷◌, ◌++◌, length, Option, Some, None, true, refl, sym, ap, subst, append_assoc, append-nil, arith}
use Rattle.std.specs.Prelude.{IfSome, is_some, false, max}
use Rattle.js_base.specs.Error.{kind_of, source_of}
use Rattle.js_base.specs.declared.error.Error.{Error}
use Rattle.js_base.specs.declared.message.Message.{Message}
use Rattle.js_ordered_stream.specs.Ordered.{error_kind, source_by}
use Rattle.js_ordered_stream.specs.declared.error.OrderedErrorKind.{OrderedErrorKind}
use Rattle.js_link.specs.LinkView.{LinkView}
use Rattle.js_ordered_table.specs.Fold.{is_over}
use Rattle.js_ordered_table.specs.declared.event.EventKind.{EventKind}
use Rattle.js_ordered_recorder.specs.LinkInput.{kind_of as event_kind, message_at}
use Rattle.js_ordered_recorder.specs.declared.link_event.Taken.{Taken}
use Rattle.std.proofs.lemmas.Option.{slice_get_within}
use Rattle.js_ordered_table.specs.declared.event.Event.{Event}
use Rattle.js_ordered_table.specs.declared.run.ItemKind.{ItemKind}
use Rattle.js_ordered_table.specs.declared.run.Output.{Output}
use Rattle.js_ordered_table.specs.declared.run.Output.TheVariants as out
use Rattle.js_ordered_recorder.specs.Acts.{Act, AreSilent, Does, DoesAll, IsSilent, LiesNothing, Passes, Rests, Stops, TakenBy, Takes, Works, WorksNext, WorksOff, World, Writes, WritesDown, events_of, outputs_of, phase_of, queue}
use Rattle.js_ordered_recorder.specs.Recorder.{EndsAs, Goes, HandsOver, HandsError, HandsMessage, IsEmpty, IsEnded, IsQuiet, TurnsTo, WorksTo, Yields}
use Rattle.js_ordered_recorder.specs.Sends.{HasMessage, left_by, worked_as}
use Rattle.js_ordered_recorder.specs.Recording.{WritesAll}
use Rattle.js_ordered_recorder.specs.Recording as recording
use Rattle.js_ordered_recorder.proofs.Written.{writes_one}
use Rattle.js_ordered_recorder.specs.declared.recorder.Recorder.{Recorder}
use Rattle.js_ordered_recorder.specs.declared.recording.RecordingFault.{RecordingFault}
use Rattle.js_ordered_recorder.specs.declared.output_delivery.Worked.{Worked}
use Rattle.js_ordered_recorder.specs.declared.output_delivery.Worked.TheVariants as worked
use Rattle.js_ordered_recorder.specs.declared.recorder.Ending.{Ending}
use Rattle.js_ordered_recorder.specs.declared.recorder.Ending.TheVariants as ending

does_append : (now : ℕ) (xs ys : List Act) (a b c : World) → DoesAll now xs a b → DoesAll now ys b c → DoesAll now (xs ++ ys) a c
does_append now [] ys a b c same after = let P : World → Type 0 = λ w. DoesAll now ys w c in subst P same after
does_append now (act ∷ xs) ys a b c does after = (does.0, does.1, does_append now xs ys does.0 b c does.2 after)

silent_append : (xs ys : List Act) → AreSilent xs → AreSilent ys → AreSilent (xs ++ ys)
silent_append [] ys before after = after
silent_append (act ∷ xs) ys before after = (before.0, silent_append xs ys before.1 after)

events_append : (xs ys : List Act) → events_of (xs ++ ys) ≡ events_of xs ++ events_of ys
events_append [] ys = refl
events_append (Takes one ∷ xs) ys = events_append xs ys
events_append (Writes e ∷ xs) ys = ap (λ (es : List Event). e ∷ es) (events_append xs ys)
events_append (Passes ∷ xs) ys = events_append xs ys
events_append (Stops ∷ xs) ys = events_append xs ys
events_append (Works o ∷ xs) ys = events_append xs ys

outputs_append : (xs ys : List Act) → outputs_of (xs ++ ys) ≡ outputs_of xs ++ outputs_of ys
outputs_append [] ys = refl
outputs_append (Takes one ∷ xs) ys = outputs_append xs ys
outputs_append (Writes e ∷ xs) ys = outputs_append xs ys
outputs_append (Passes ∷ xs) ys = outputs_append xs ys
outputs_append (Stops ∷ xs) ys = outputs_append xs ys
outputs_append (Works o ∷ xs) ys = ap (λ (os : List Output). o ∷ os) (outputs_append xs ys)

both_same : {A : Type 0} (xs ys zs ws : List A) → xs ≡ zs → ys ≡ ws → xs ++ ys ≡ zs ++ ws
both_same {A} xs ys zs ws front back = ap (λ (x : List A). x ++ ys) front ∙ ap (λ (y : List A). zs ++ y) back

-- nothing is done
pub goes_none : (now : ℕ) (a b : World) → b ≡ a → Goes now a [] [] b
goes_none now a b same = record { acts = []; does = same; silent = tt; written = refl; outputs = refl }

-- one act
pub goes_one : (now : ℕ) (act : Act) (a b : World) → IsSilent act → Does now act a b → Goes now a (events_of (act ∷ [])) (outputs_of (act ∷ [])) b
goes_one now act a b silent does = record { acts = act ∷ []; does = (b, does, refl); silent = (silent, tt); written = refl; outputs = refl }

-- and more
pub goes_on : (now : ℕ) (a b c : World) (es fs : List Event) (os ps : List Output) → Goes now a es os b → Goes now b fs ps c → Goes now a (es ++ fs) (os ++ ps) c
goes_on now a b c es fs os ps first next = record {
  acts = first.acts ++ next.acts;
  does = does_append now first.acts next.acts a b c first.does next.does;
  silent = silent_append first.acts next.acts first.silent next.silent;
  written = events_append first.acts next.acts ∙ both_same (events_of first.acts) (events_of next.acts) es fs first.written next.written;
  outputs = outputs_append first.acts next.acts ∙ both_same (outputs_of first.acts) (outputs_of next.acts) os ps first.outputs next.outputs;
}

pub hands_on : (now : ℕ) (o : Output) (a b c : World) (es fs : List Event) (os ps : List Output) → Goes now a es os b → HandsOver now o b fs ps c → HandsOver now o a (es ++ fs) (os ++ ps) c
hands_on now o a b c es fs os ps first hands = record {
  before = os ++ hands.before;
  between = hands.between;
  goes = goes_on now a b hands.between es fs os hands.before first hands.goes;
  last = hands.last;
  outputs = ap (λ (more : List Output). os ++ more) hands.outputs ∙ sym (append_assoc os hands.before (o ∷ []));
}

pub ends_on : (now : ℕ) (end : Ending) (a b c : World) (es fs : List Event) (os ps : List Output) → Goes now a es os b → EndsAs now end b fs ps c → EndsAs now end a (es ++ fs) (os ++ ps) c
ends_on now ending.Hands a b c es fs os ps first ends = record {
  stream_sequence = ends.stream_sequence;
  consumer_sequence = ends.consumer_sequence;
  subject = ends.subject;
  payload = ends.payload;
  hands = hands_on now (out.Yield ends.stream_sequence ends.consumer_sequence ends.subject ends.payload) a b c es fs os ps first ends.hands;
  message = ends.message;
}
ends_on now (ending.Tells kind) a b c es fs os ps first ends = hands_on now (out.Item kind) a b c es fs os ps first ends
ends_on now ending.Quiet a b c es fs os ps first ends = (goes_on now a b c es fs os ps first ends.0, ends.1)
ends_on now ending.Over a b c es fs os ps first ends = (goes_on now a b c es fs os ps first ends.0, ends.1)
ends_on now ending.OutOfMemory a b c es fs os ps first ends = goes_on now a b c es fs os ps first ends

goes_same : (now : ℕ) (a b : World) (es fs : List Event) (os ps : List Output) → es ≡ fs → os ≡ ps → Goes now a es os b → Goes now a fs ps b
goes_same now a b es fs os ps same_events same_outputs goes =
    record { acts = goes.acts; does = goes.does; silent = goes.silent; written = goes.written ∙ same_events; outputs = goes.outputs ∙ same_outputs }

-- nothing is written or worked off behind it
pub goes_then : (now : ℕ) (a b c : World) (es : List Event) (os : List Output) → Goes now a es os b → Goes now b [] [] c → Goes now a es os c
goes_then now a b c es os first next = goes_same now a c (es ++ []) es (os ++ []) os (append-nil es) (append-nil os) (goes_on now a b c es [] os [] first next)

-- ---- an output more

silent_message : {P : Type 0} → worked.Silent ≡ worked.Message → P
silent_message same = cc

silent_error : {P : Type 0} (kind : ItemKind) → worked.Silent ≡ worked.Error kind → P
silent_error kind same = cc

message_error : {P : Type 0} (kind : ItemKind) → worked.Message ≡ worked.Error kind → P
message_error kind same = cc

same_kind : (kind other : ItemKind) → worked.Error kind ≡ worked.Error other → other ≡ kind
same_kind kind other same = cc

silent_as : (o : Output) → worked.Silent ≡ worked_as o → IsSilent (Works o)
silent_as (out.Yield stream_sequence consumer_sequence subject payload) is = silent_message is
silent_as (out.Item kind) is = silent_error kind is
silent_as (out.Recreate recreation_count start) is = tt
silent_as (out.Request number subject payload) is = tt
silent_as (out.Publish subject reply payload) is = tt
silent_as (out.Subscribe inbox subject) is = tt

-- the output of a message hands it out
hands_as : (now : ℕ) (o : Output) (a b c : World) (os : List Output) → worked.Message ≡ worked_as o → Goes now a [] os b → WorksOff o b c → is_some c.recorder.message ≡ true → Yields now a [] (os ++ o ∷ []) c
hands_as now (out.Yield stream_sequence consumer_sequence subject payload) a b c os is goes works some = record {
  stream_sequence = stream_sequence;
  consumer_sequence = consumer_sequence;
  subject = subject;
  payload = payload;
  hands = record { before = os; between = b; goes = goes; last = works; outputs = refl };
  message = some;
}
hands_as now (out.Item kind) a b c os is goes works some = message_error kind is
hands_as now (out.Recreate recreation_count start) a b c os is goes works some = silent_message (sym is)
hands_as now (out.Request number subject payload) a b c os is goes works some = silent_message (sym is)
hands_as now (out.Publish subject reply payload) a b c os is goes works some = silent_message (sym is)
hands_as now (out.Subscribe inbox subject) a b c os is goes works some = silent_message (sym is)

error_as : (o : Output) (kind : ItemKind) → worked.Error kind ≡ worked_as o → o ≡ out.Item kind
error_as (out.Yield stream_sequence consumer_sequence subject payload) kind is = message_error kind (sym is)
error_as (out.Item other) kind is = ap (λ (k : ItemKind). out.Item k) (same_kind kind other is)
error_as (out.Recreate recreation_count start) kind is = silent_error kind (sym is)
error_as (out.Request number subject payload) kind is = silent_error kind (sym is)
error_as (out.Publish subject reply payload) kind is = silent_error kind (sym is)
error_as (out.Subscribe inbox subject) kind is = silent_error kind (sym is)

-- what was worked off so far, with nothing for the user
abbrev pub WorkedSo : ℕ → World → World → Type 0
WorkedSo now a b = (os : List Output) × Goes now a [] os b

pub works_silent : (now : ℕ) (a b c : World) → WorkedSo now a b → WorksNext (Some worked.Silent) b c → WorkedSo now a c
works_silent now a b c so next =
    (so.0 ++ next.0 ∷ [], goes_on now a b c [] [] so.0 (next.0 ∷ []) so.1 (goes_one now (Works next.0) b c (silent_as next.0 next.2) next.1))

pub works_message : (now : ℕ) (a b c : World) → WorkedSo now a b → WorksNext (Some worked.Message) b c → is_some c.recorder.message ≡ true
    → (os : List Output) × WorksTo now (Some ending.Hands) a [] os c
works_message now a b c so next some = (so.0 ++ next.0 ∷ [], hands_as now next.0 a b c so.0 next.2 so.1 next.1 some)

pub works_error : (now : ℕ) (kind : ItemKind) (a b c : World) → WorkedSo now a b → WorksNext (Some (worked.Error kind)) b c → (os : List Output) × WorksTo now (Some (ending.Tells kind)) a [] os c
works_error now kind a b c so next =
    let P : Output → Type 0 = λ x. WorksOff x b c in
    (so.0 ++ out.Item kind ∷ [], record { before = so.0; between = b; goes = so.1; last = subst P (error_as next.0 kind next.2) next.1; outputs = refl })

pub works_none : (now : ℕ) (a b c : World) → WorkedSo now a b → Rests b.recorder → WorksNext None b c → (os : List Output) × WorksTo now None a [] os c
works_none now a b c so rests next =
    let P : World → Type 0 = λ w. Goes now a [] so.0 w × IsEmpty w in
    (so.0, subst P (sym next.0) (so.1, record { rests = rests; empty = next.1 }))

pub works_lacks : (now : ℕ) (a b c : World) → WorkedSo now a b → c ≡ b → (os : List Output) × WorksTo now (Some ending.OutOfMemory) a [] os c
works_lacks now a b c so same = let P : World → Type 0 = λ w. Goes now a [] so.0 w in (so.0, subst P (sym same) so.1)

-- what stays
pub works_rest : (done : Worked) (a b : World) → WorksNext (Some done) a b → Rests b.recorder
works_rest done a b next =
    let P : Recorder → Type 0 = λ r. Rests r in
    let works : WorksOff next.0 a b = next.1 in
    subst P (sym works.kept) (record { taken = works.rests.taken; event = works.rests.event })

pub works_fault : (done : Worked) (a b : World) → WorksNext (Some done) a b → b.recorder.fault ≡ a.recorder.fault
works_fault done a b next = let works : WorksOff next.0 a b = next.1 in ap (λ (r : Recorder). r.fault) works.kept

pub works_count : (done : Worked) (a b : World) → WorksNext (Some done) a b → b.recorder.replay.value.count ≡ a.recorder.replay.value.count
works_count done a b next = let works : WorksOff next.0 a b = next.1 in ap (λ (r : Recorder). r.replay.value.count) works.kept

-- how many outputs are left
abbrev pub outputs_left : Recorder → ℕ
outputs_left r = length r.replay.value.outputs - r.worked

one_fewer : (n m : ℕ) → m < n → n - (m + 1) < n - m
one_fewer n m below = omega arith

pub works_fewer : (done : Worked) (a b : World) → WorksNext (Some done) a b → outputs_left b.recorder < outputs_left a.recorder
works_fewer done a b next =
    let works : WorksOff next.0 a b = next.1 in
    let P : Recorder → Type 0 = λ r. outputs_left r < outputs_left a.recorder in
    subst P (sym works.kept)
    (one_fewer (length a.recorder.replay.value.outputs) a.recorder.worked (slice_get_within a.recorder.replay.value.outputs a.recorder.worked next.0 works.first))

-- ---- an event

-- what was taken is written, and nothing else is done
pub writes_taken : {R : Type 0} (writes : R → Event → Option RecordingFault → R → Type 0) (now : ℕ) (e : Event) (a b : World) (before after : R) → WritesDown now e a b → recording.Writes writes a.recorder.fault e b.recorder.fault before after
    → (es : List Event) × Goes now a es [] b × WritesAll writes a.recorder.fault es b.recorder.fault before after
writes_taken writes now e a b before after step wrote =
    (e ∷ [], goes_one now (Writes e) a b tt step, writes_one writes e a.recorder.fault b.recorder.fault before after wrote)

pub writes_nothing : {R : Type 0} (writes : R → Event → Option RecordingFault → R → Type 0) (now : ℕ) (a b : World) (before after : R) → b ≡ a → after ≡ before
    → (es : List Event) × Goes now a es [] b × WritesAll writes a.recorder.fault es b.recorder.fault before after
writes_nothing writes now a b before after same unchanged = ([], goes_none now a b same, (unchanged, ap (λ (w : World). w.recorder.fault) same))

-- and then it is passed
pub writes_then : {R : Type 0} (writes : R → Event → Option RecordingFault → R → Type 0) (now : ℕ) (a b c : World) (before after : R)
    → (es : List Event) × Goes now a es [] b × WritesAll writes a.recorder.fault es b.recorder.fault before after → Goes now b [] [] c → c.recorder.fault ≡ b.recorder.fault
    → (es : List Event) × Goes now a es [] c × WritesAll writes a.recorder.fault es c.recorder.fault before after
writes_then writes now a b c before after first next same =
    let P : Option RecordingFault → Type 0 = λ w. WritesAll writes a.recorder.fault first.0 w before after in
    (first.0, goes_then now a b c first.0 [] first.1 next, subst P (sym same) first.2)

-- ---- the steps of the code

abbrev event : ℕ → EventKind → Event
event at what = record { at = at; what = what }

same_event : (at at_too : ℕ) (what what_too : EventKind) → at ≡ at_too → what ≡ what_too → event at what ≡ event at_too what_too
same_event at at_too what what_too same_at same_what = ap (λ (n : ℕ). event n what) same_at ∙ ap (λ (k : EventKind). event at_too k) same_what

abbrev written : Recorder → Event → Option RecordingFault → Recorder
written r e w = record r { fault = w; taken = None; event = Some e; message = message_at r.taken; moment = e.at }

pub writes_step : {R : Type 0} (writes : R → Event → Option RecordingFault → R → Type 0) (now : ℕ) (r new : Recorder) (one : Taken) (at : ℕ) (what : EventKind) (w : Option RecordingFault) (v : LinkView) (before after : R)
    → r.taken ≡ Some one → at ≡ max now r.moment → what ≡ event_kind one → new ≡ record r { fault = w; taken = None; event = Some (record { at = at; what = what }); message = message_at r.taken; moment = at }
    → recording.Writes writes r.fault (record { at = at; what = what }) w before after
    → (es : List Event) × Goes now (record { recorder = r; link = v }) es [] (record { recorder = new; link = v }) × WritesAll writes r.fault es new.fault before after
writes_step writes now r new one at what w v before after brought is_at is_what is wrote =
    let e : Event = record { at = at; what = what } in
    let same_fault : new.fault ≡ w = ap (λ (x : Recorder). x.fault) is in
    let P : Option RecordingFault → Type 0 = λ x. recording.Writes writes r.fault e x before after in
    writes_taken writes now e (record { recorder = r; link = v }) (record { recorder = new; link = v }) before after
    (record {
      one = one;
      brought = brought;
      is = same_event at (max now r.moment) what (event_kind one) is_at is_what;
      kept = is ∙ ap (λ (x : Option RecordingFault). written r e x) (sym same_fault);
      link = refl;
    })
    (subst P (sym same_fault) wrote)

abbrev pub world : Recorder → LinkView → World
world r v = record { recorder = r; link = v }

-- nothing is taken, since nothing lies there
pub quiet_turn : (now : ℕ) (r : Recorder) (v w : LinkView) → TakenBy now r None v w → Rests r → queue r ≡ [] → is_over (phase_of r) ≡ false
    → Goes now (record { recorder = r; link = v }) [] [] (record { recorder = r; link = w }) × IsQuiet now (record { recorder = r; link = w })
quiet_turn now r v w nothing rests empty alive =
    let P : LinkView → Type 0 = λ x. LiesNothing now r x in (
      goes_none now (world r v) (world r w) (ap (λ (x : LinkView). world r x) nothing.0),
      record { rests = rests; empty = empty; alive = alive; lies = subst P (sym nothing.0) nothing.1 },
    )

-- one thing is taken, and then its event is written and passed
pub turn_on : {R : Type 0} (writes : R → Event → Option RecordingFault → R → Type 0) (now : ℕ) (r mid new : Recorder) (one : Taken) (v w : LinkView) (before after : R)
    → TakenBy now r (Some one) v w → Rests r → queue r ≡ [] → is_over (phase_of r) ≡ false → mid ≡ record r { taken = Some one }
    → ((u : LinkView) → (es : List Event) × Goes now (record { recorder = mid; link = u }) es [] (record { recorder = new; link = u }) × WritesAll writes mid.fault es new.fault before after)
    → (es : List Event) × Goes now (record { recorder = r; link = v }) es [] (record { recorder = new; link = w }) × WritesAll writes r.fault es new.fault before after
turn_on writes now r mid new one v w before after given rests empty alive is next =
    let rest : (es : List Event) × Goes now (record { recorder = mid; link = w }) es [] (record { recorder = new; link = w }) × WritesAll writes mid.fault es new.fault before after = next w in
    let P : Option RecordingFault → Type 0 = λ x. WritesAll writes x rest.0 new.fault before after in (
      rest.0,
      goes_on now (world r v) (world mid w) (world new w) [] rest.0 [] []
          (goes_one now (Takes one) (world r v) (world mid w) tt (record { rests = rests; empty = empty; alive = alive; given = given; kept = is })) rest.1,
      subst P (ap (λ (x : Recorder). x.fault) is) rest.2,
    )

pub as_next : (done other : Option Worked) (a b : World) → done ≡ other → WorksNext done a b → WorksNext other a b
as_next done other a b same next = let P : Option Worked → Type 0 = λ x. WorksNext x a b in subst P same next

pub message_there : (done : Option Worked) (message : Option Message) → done ≡ Some worked.Message → IfSome done (λ x. HasMessage x message) → is_some message ≡ true
message_there done message same there = let P : Option Worked → Type 0 = λ x. IfSome x (λ y. HasMessage y message) in subst P same there

-- ---- a turn, and turns

-- all is worked off, and the consumer has ended
pub over_turn : (now : ℕ) (a b : World) (os : List Output) → Goes now a [] os b × IsEmpty b → is_over (phase_of b.recorder) ≡ true → Goes now a [] os b × IsEnded b
over_turn now a b os all over = (all.0, record { rests = all.1.rests; empty = all.1.empty; over = over })

-- a turn after what was worked off
pub turns_on : (now : ℕ) (end : Option Ending) (a b c : World) (fs : List Event) (os : List Output) → Goes now a [] os b → b.recorder.replay.value.count ≡ a.recorder.replay.value.count → TurnsTo now end b fs [] c
    → TurnsTo now end a fs (os ++ []) c
turns_on now (Some end) a b c fs os first same next = ends_on now end a b c [] fs os [] first next
turns_on now None a b c fs os first same next =
    let P : ℕ → Type 0 = λ n. n < 2 ^ 64 in
    (goes_on now a b c [] fs os [] first next.0, next.1, (next.2.0 ∙ ap (λ (n : ℕ). n + 1) same, subst P same next.2.1))

pub world_same : (r s : Recorder) (v w : LinkView) → r ≡ s → v ≡ w → world r v ≡ world s w
world_same r s v w same_recorder same_link = ap (λ (x : Recorder). world x v) same_recorder ∙ ap (λ (x : LinkView). world s x) same_link

-- ---- what is answered

pub hands_answer : (now : ℕ) (end : Ending) (r : Recorder) (v : LinkView) (message : Message) (left : Option Message) (a : World) (es : List Event) (os : List Output) → end ≡ ending.Hands → left ≡ None → r.message ≡ Some message
    → EndsAs now end a es os (record { recorder = r; link = v }) → HandsMessage now message a es os (record { recorder = record r { message = left }; link = v })
hands_answer now end r v message left a es os is gone there ends =
    let P : Ending → Type 0 = λ e. EndsAs now e a es os (world r v) in
    record {
      between = world r v;
      yields = subst P is ends;
      message = there;
      kept = ap (λ (m : Option Message). world (record r { message = m }) v) gone;
    }

pub tells_answer : (now : ℕ) (end : Ending) (kind : ItemKind) (r : Recorder) (v : LinkView) (e : Error OrderedErrorKind) (left : Option Message) (a : World) (es : List Event) (os : List Output) → end ≡ ending.Tells kind
    → kind_of e ≡ error_kind kind → source_of e ≡ source_by (error_kind kind) r.message → left ≡ left_by kind r.message
    → EndsAs now end a es os (record { recorder = r; link = v }) → HandsError now e a es os (record { recorder = record r { message = left }; link = v })
tells_answer now end kind r v e left a es os is tells source gone ends =
    let P : Ending → Type 0 = λ x. EndsAs now x a es os (world r v) in
    record { kind = kind; between = world r v; hands = subst P is ends; tells = tells; source = source; left = gone; kept = refl }
