-- How a batch passes over heartbeats, and what it does where nothing comes.
use Rattle.std.proofs.Common.{◌≡◌, ℕ, ◌<◌, ◌==◌, Bool, true, false, List, [], ◌∷◌, ◌++◌, Option, Some, None, if◌then◌else◌, refl, sym, ◌∙◌, subst, arith}
use Rattle.std.proofs.lemmas.Bool.{ne_eqb}
use Rattle.std.specs.List.{AllByRecursion}
use Rattle.js_base.specs.Clock.{is_any_due}
use Rattle.js_base.specs.declared.message.Message as base
use Rattle.js_link.specs.LinkView.{LinkView}
use Rattle.js_link.specs.Calls.{Takes, TakesOf}
use Rattle.js_link.specs.declared.link.Taken.{Taken}
use Rattle.js_link.specs.declared.link.Taken.TheVariants as taken
use Rattle.js_readers.specs.declared.pull.batch.Batch.{Batch}
use Rattle.js_readers.specs.declared.pull.batch.BatchOutcome.{BatchOutcome}
use Rattle.js_readers.specs.declared.pull.batch.BatchOutcome.TheVariants.{Skips, Hands, Refuses}
use Rattle.js_readers.specs.declared.pull.batch.BatchOutcome.TheVariants as heard_as
use Rattle.js_readers.specs.declared.pull.batch_item.ArrivalKind.{ArrivalKind}
use Rattle.js_readers.specs.declared.pull.batch_item.ArrivalKind.TheVariants.{Delivered, Heartbeat, Over, Refusal}
use Rattle.js_readers.specs.BatchItem.{arrival_of}
use Rattle.js_readers.specs.Batch.{BatchAnswer, PollsFrom, PollsBatch, ReadsBatch, AnswersTo, TakesAll, IsHeartbeat, IsQuietAt, Sleeps, SleepsIfQuiet, heard, heard_message, due_from}

-- heartbeats were passed over so far
pub record Passed (inbox : ℕ) (before v : LinkView) : Type 0 where
  pub heartbeats : List base.Message
  pub are : AllByRecursion IsHeartbeat heartbeats
  pub takes_all : TakesAll inbox heartbeats before v

pub passed_none : (inbox : ℕ) (v : LinkView) → Passed inbox v v
passed_none inbox v = record { heartbeats = []; are = tt; takes_all = refl }

-- one more at the end
takes_one_more : (inbox : ℕ) (ms : List base.Message) (m : base.Message) (before v u : LinkView) → TakesAll inbox ms before v → Takes inbox m v u → TakesAll inbox (ms ++ (m ∷ [])) before u
takes_one_more inbox [] m before v u same takes = (u, (subst (λ x. Takes inbox m x u) same takes, refl))
takes_one_more inbox (n ∷ ms) m before v u all takes = (all.0, (all.1.0, takes_one_more inbox ms m all.0 v u all.1.1 takes))

one_more_is : (ms : List base.Message) (m : base.Message) → AllByRecursion IsHeartbeat ms → IsHeartbeat m → AllByRecursion IsHeartbeat (ms ++ (m ∷ []))
one_more_is [] m all is = (is, tt)
one_more_is (n ∷ ms) m all is = (all.0, one_more_is ms m all.1 is)

passed_more : (inbox : ℕ) (m : base.Message) (before v u : LinkView) → Passed inbox before v → IsHeartbeat m → Takes inbox m v u → Passed inbox before u
passed_more inbox m before v u passed is takes = record {
  heartbeats = passed.heartbeats ++ (m ∷ []);
  are = one_more_is passed.heartbeats m passed.are is;
  takes_all = takes_one_more inbox passed.heartbeats m before v u passed.takes_all takes;
}

-- ---- what is skipped is a heartbeat

message_skipped : (a : ArrivalKind) (m : base.Message) → heard_message a m ≡ Skips → a ≡ Heartbeat
message_skipped Delivered m is = absurd (let no : Hands m ≡ Skips = is in cc)
message_skipped Heartbeat m is = refl
message_skipped Over m is = absurd (let no : heard_as.Ends ≡ Skips = is in cc)
message_skipped (Refusal status) m is = absurd (let no : Refuses (record { status = status; description = m.description }) ≡ Skips = is in cc)

empty_not_skipped : (due : Bool) → (if due then heard_as.Ends else heard_as.Waits) ≡ Skips → ⊥
empty_not_skipped true is = let no : heard_as.Ends ≡ Skips = is in cc
empty_not_skipped false is = let no : heard_as.Waits ≡ Skips = is in cc

pub passed_next : (now inbox : ℕ) (b : Batch) (t : Taken) (before v u : LinkView) → heard now b t ≡ Skips → TakesOf inbox t v u → Passed inbox before v → Passed inbox before u
passed_next now inbox b (taken.Message m) before v u is takes passed = passed_more inbox m before v u passed (message_skipped (arrival_of m.status) m is) takes
passed_next now inbox b taken.Empty before v u is takes passed = absurd (empty_not_skipped (is_any_due b.timer now) is)
passed_next now inbox b taken.Closed before v u is takes passed = absurd (let no : heard_as.Ends ≡ Skips = is in cc)

pub fewer_left : (now inbox : ℕ) (b : Batch) (t : Taken) (v u : LinkView) → heard now b t ≡ Skips → TakesOf inbox t v u → u.count inbox < v.count inbox
fewer_left now inbox b (taken.Message m) v u is takes = omega (arith, takes.one_less)
fewer_left now inbox b taken.Empty v u is takes = absurd (empty_not_skipped (is_any_due b.timer now) is)
fewer_left now inbox b taken.Closed v u is takes = absurd (let no : heard_as.Ends ≡ Skips = is in cc)

-- ---- a poll that reads

pub polls_by : (now inbox : ℕ) (first old new : Batch) (answer : BatchAnswer) (before after : LinkView) → old ≡ first → first.inbox ≡ Some inbox → (first.left ≡ 0 → ⊥) → ReadsBatch now inbox old answer new before after → PollsBatch now first answer new before after
polls_by now inbox first old new answer before after same is some reads =
    subst (λ i. PollsFrom i (first.left == 0) now first answer new before after) (sym is)
    (subst (λ z. PollsFrom (Some inbox) z now first answer new before after) (sym (ne_eqb first.left 0 some))
    (subst (λ b. ReadsBatch now inbox b answer new before after) same reads))

pub reads_found : (now inbox : ℕ) (old new : Batch) (answer : BatchAnswer) (t : Taken) (h : BatchOutcome) (before v u after : LinkView) → Passed inbox before v → TakesOf inbox t v u → h ≡ heard now old t → AnswersTo h inbox old answer new u after → ReadsBatch now inbox old answer new before after
reads_found now inbox old new answer t h before v u after passed takes is answers = record {
  heartbeats = passed.heartbeats;
  are = passed.are;
  passed = v;
  takes_all = passed.takes_all;
  found = t;
  between = u;
  takes = takes;
  answers = subst (λ x. AnswersTo x inbox old answer new u after) is answers;
}

-- ---- nothing comes

no_first : (inbox : ℕ) (m : base.Message) (v u : LinkView) → v.count inbox ≡ 0 → Takes inbox m v u → ⊥
no_first inbox m v u none takes = omega (arith, none, takes.one_less)

none_passed : (inbox : ℕ) (ms : List base.Message) (v u : LinkView) → v.count inbox ≡ 0 → TakesAll inbox ms v u → u ≡ v
none_passed inbox [] v u none all = all
none_passed inbox (m ∷ ms) v u none all = absurd (no_first inbox m v all.0 none all.1.0)

waits_at : (due : Bool) (inbox : ℕ) (old new : Batch) (answer : BatchAnswer) (v u : LinkView) → due ≡ false → AnswersTo (if due then heard_as.Ends else heard_as.Waits) inbox old answer new v u → Sleeps old answer new v u
waits_at true inbox old new answer v u early answers = absurd (let no : true ≡ false = early in cc)
waits_at false inbox old new answer v u early answers = record { waits = answers.0; stays = answers.1; same = answers.2 }

found_none : (now inbox : ℕ) (t : Taken) (old new : Batch) (answer : BatchAnswer) (v u after : LinkView) → v.is_open inbox ≡ true → v.count inbox ≡ 0 → is_any_due old.timer now ≡ false → TakesOf inbox t v u → AnswersTo (heard now old t) inbox old answer new u after → Sleeps old answer new v after
found_none now inbox (taken.Message m) old new answer v u after is_open none early takes answers = absurd (no_first inbox m v u none takes)
found_none now inbox taken.Empty old new answer v u after is_open none early takes answers =
    subst (λ x. Sleeps old answer new x after) takes.0 (waits_at (is_any_due old.timer now) inbox old new answer u after early answers)
found_none now inbox taken.Closed old new answer v u after is_open none early takes answers = absurd (let no : true ≡ false = sym is_open ∙ takes.1 in cc)

reads_none : (now inbox : ℕ) (old new : Batch) (answer : BatchAnswer) (before after : LinkView) → before.is_open inbox ≡ true → before.count inbox ≡ 0 → is_any_due old.timer now ≡ false → ReadsBatch now inbox old answer new before after → Sleeps old answer new before after
reads_none now inbox old new answer before after is_open none early r =
    let same = none_passed inbox r.heartbeats before r.passed none r.takes_all in
    found_none now inbox r.found old new answer before r.between after is_open none early (subst (λ x. TakesOf inbox r.found x r.between) same r.takes) r.answers

sleeps_from : (i : Option ℕ) (none_left : Bool) (now : ℕ) (old new : Batch) (answer : BatchAnswer) (before after : LinkView) → PollsFrom i none_left now old answer new before after → IsQuietAt i before → due_from i none_left old.timer now ≡ false → Sleeps old answer new before after
sleeps_from None none_left now old new answer before after polls quiet early = absurd quiet
sleeps_from (Some inbox) true now old new answer before after polls quiet early = absurd (let no : true ≡ false = early in cc)
sleeps_from (Some inbox) false now old new answer before after polls quiet early = reads_none now inbox old new answer before after quiet.0 quiet.1 early polls

pub sleeps : (now : ℕ) (old new : Batch) (answer : BatchAnswer) (before after : LinkView) → PollsBatch now old answer new before after → SleepsIfQuiet now old answer new before after
sleeps now old new answer before after polls quiet early = sleeps_from old.inbox (old.left == 0) now old new answer before after polls quiet early
