-- Row after row of a poll, how far it is from its end, and what it does where nothing comes.
use Rattle.std.proofs.Common.{◌≡◌, ℕ, ◌+◌, ◌*◌, ◌<◌, ◌==◌, Bool, true, false, List, [], ◌∷◌, ◌++◌, Option, Some, None, Ok, Err, if◌then◌else◌, refl, sym, ◌∙◌, ap, subst, arith}
use Rattle.js_base.specs.Clock.{is_any_due}
use Rattle.js_base.specs.Error.{plain}
use Rattle.js_base.specs.declared.error.Error.{Error}
use Rattle.js_base.specs.declared.message.Message as base
use Rattle.js_base.specs.declared.message.StatusCode.{StatusCode}
use Rattle.js_base.specs.declared.turn.Next.TheVariants as next
use Rattle.js_link.specs.LinkView.{LinkView}
use Rattle.js_link.specs.Meets.{Meets}
use Rattle.js_link.specs.declared.wish.Wish.TheVariants.{Nothing, Reads}
use Rattle.js_link.specs.declared.wish.Met.{Met}
use Rattle.js_link.specs.declared.wish.Met.TheVariants.{Unasked, GoneOut, Refused, Took, Empty, Shut}
use Rattle.js_ordered_table.specs.Arrivals.{answer_subject}
use Rattle.js_readers.specs.PushRows.{answer_wish, armed, arrival_row, hear, next_row, pass, silent_row, wish, Passed}
use Rattle.js_readers.specs.PushMessages.{AnswersBy, IsLeftAlone, Lacks, IsPoll, Passes, PassesQuietly, PollAnswer, Sleeps, due_at}
use Rattle.js_readers.specs.declared.push.error.MessagesErrorKind.{MessagesErrorKind}
use Rattle.js_readers.specs.declared.push.error.MessagesErrorKind.TheVariants as error
use Rattle.js_readers.specs.declared.push.messages.Messages.{Messages}
use Rattle.js_readers.specs.declared.push.row.Row.{Row}
use Rattle.js_readers.specs.declared.push.row.Row.TheVariants.{Arm, CheckArrival, Answer, Ended}
use Rattle.js_readers.specs.declared.push.row.RowOutcome.{RowOutcome}
use Rattle.js_readers.specs.declared.push.row.RowOutcome.TheVariants.{Hands, MissesHeartbeat, Waits, Ends}
use Rattle.js_readers.specs.declared.push.row.RowOutcome.TheVariants as tells

-- the rows so far have told nothing
pub record Polled (now : ℕ) (first at : Messages) (before v : LinkView) : Type 0 where
  pub mets : List Met
  pub quiet : PassesQuietly now mets first at before v

pub polled_none : (now : ℕ) (first : Messages) (v : LinkView) → Polled now first first v v
polled_none now first v = record { mets = []; quiet = (refl, refl) }

-- one more at the end
quiet_more : (now : ℕ) (mets : List Met) (met : Met) (old at new : Messages) (v u w : LinkView) → PassesQuietly now mets old at v u → Meets (wish at.next at.inbox) met u w
    → pass now met at.next at ≡ record { told = tells.Nothing; messages = new } → PassesQuietly now (mets ++ met ∷ []) old new v w
quiet_more now [] met old at new v u w (stays, same) meets is = (
  new,
  w,
  subst (λ (x : LinkView). Meets (wish old.next old.inbox) met x w) same (subst (λ (r : Messages). Meets (wish r.next r.inbox) met u w) stays meets),
  subst (λ (r : Messages). pass now met r.next r ≡ record { told = tells.Nothing; messages = new }) stays is,
  (refl, refl),
)
quiet_more now (m ∷ mets) met old at new v u w (middle, between, m_meets, m_is, rest) meets is =
    (middle, between, m_meets, m_is, quiet_more now mets met middle at new between u w rest meets is)

pub polled_more : (now : ℕ) (told : RowOutcome) (first at new : Messages) (before v u : LinkView) → told ≡ tells.Nothing → Polled now first at before v → Passes now told at new v u → Polled now first new before u
polled_more now told first at new before v u quiet polled passes =
    let p = subst (λ (t : RowOutcome). Passes now t at new v u) quiet passes in
    record {
      mets = polled.mets ++ p.met ∷ [];
      quiet = quiet_more now polled.mets p.met first at new before v u polled.quiet p.meets p.passed;
    }

-- ---- the last row answers

answers_by : (now : ℕ) (answer : PollAnswer) (first at new : Messages) (before v u : LinkView) → Polled now first at before v → AnswersBy answer now at new v u → IsPoll now first answer new before u
answers_by now answer first at new before v u polled answers = record { mets = polled.mets; last = at; between = v; silent = polled.quiet; answers = answers }

pub poll_hands : (now : ℕ) (told : RowOutcome) (m : base.Message) (timeout : ℕ) (first at new : Messages) (before v u : LinkView) → told ≡ Hands m → timeout ≡ new.timeout
    → Polled now first at before v → Passes now told at new v u → IsPoll now first (next.Item (Ok (record { message = m; timeout = timeout }))) new before u
poll_hands now told m timeout first at new before v u is kept polled passes =
    answers_by now (next.Item (Ok (record { message = m; timeout = timeout }))) first at new before v u polled (subst (λ (t : RowOutcome). Passes now t at new v u) is passes, kept)

pub poll_misses : (now : ℕ) (told : RowOutcome) (e : Error MessagesErrorKind) (first at new : Messages) (before v u : LinkView) → told ≡ MissesHeartbeat → e ≡ plain error.MissingHeartbeat
    → Polled now first at before v → Passes now told at new v u → IsPoll now first (next.Item (Err e)) new before u
poll_misses now told e first at new before v u is plainly polled passes =
    answers_by now (next.Item (Err e)) first at new before v u polled (subst (λ (t : RowOutcome). Passes now t at new v u) is passes, plainly)

pub poll_waits : (now : ℕ) (told : RowOutcome) (first at new : Messages) (before v u : LinkView) → told ≡ Waits
    → Polled now first at before v → Passes now told at new v u → IsPoll now first next.Pending new before u
poll_waits now told first at new before v u is polled passes =
    answers_by now next.Pending first at new before v u polled (subst (λ (t : RowOutcome). Passes now t at new v u) is passes)

pub poll_ends : (now : ℕ) (told : RowOutcome) (first at new : Messages) (before v u : LinkView) → told ≡ Ends
    → Polled now first at before v → Passes now told at new v u → IsPoll now first next.End new before u
poll_ends now told first at new before v u is polled passes =
    answers_by now next.End first at new before v u polled (subst (λ (t : RowOutcome). Passes now t at new v u) is passes)

pub poll_lacks : (now : ℕ) (first at new : Messages) (before v u : LinkView) → Polled now first at before v → Lacks at new v u → IsPoll now first next.OutOfMemory new before u
poll_lacks now first at new before v u polled lacks = answers_by now next.OutOfMemory first at new before v u polled lacks

-- ---- how far it is from its end

abbrev pub weight : Row → ℕ
weight Arm = 1
weight CheckArrival = 0
weight (Answer m) = 1
weight Ended = 0

-- each message that lies in the inbox is taken and may be answered
abbrev pub measure : Messages → LinkView → ℕ
measure r v = 2 * v.count r.inbox + weight r.next

nothing_same : (met : Met) (v u : LinkView) → Meets Nothing met v u → u ≡ v
nothing_same Unasked v u m = m
nothing_same met v u m = absurd m

answer_counts : (o : Option (List ℕ)) (inbox : ℕ) (met : Met) (v u : LinkView) → Meets (answer_wish o) met v u → u.count inbox ≡ v.count inbox
answer_counts None inbox met v u m = ap (λ (x : LinkView). x.count inbox) (nothing_same met v u m)
answer_counts (Some subject) inbox GoneOut v u m = ap (λ (x : LinkView). x.count inbox) m.same
answer_counts (Some subject) inbox Refused v u m = ap (λ (x : LinkView). x.count inbox) m.fails.same
answer_counts (Some subject) inbox met v u m = absurd m

-- a row that tells something is no silent one
abbrev Falls : ℕ → Messages → LinkView → Type 0
Falls n new u = measure new u < n

heard_falls : (status : Option StatusCode) (m : base.Message) (r new : Messages) (v u : LinkView) → r.next ≡ CheckArrival → v.count r.inbox ≡ u.count r.inbox + 1
    → hear status m r ≡ record { told = tells.Nothing; messages = new } → Falls (2 * v.count r.inbox) new u
heard_falls None m r new v u rests less is = absurd (let no : Hands m ≡ tells.Nothing = ap (λ (p : Passed). p.told) is in cc)
heard_falls (Some status) m r new v u rests less is = by_test (status.0 == 100) is
  where
    by_test : (b : Bool) → (if b then silent_row (next_row (Answer m) r) else silent_row r) ≡ record { told = tells.Nothing; messages = new } → Falls (2 * v.count r.inbox) new u
    by_test true e = subst (λ (x : Messages). Falls (2 * v.count r.inbox) x u) (ap (λ (p : Passed). p.messages) e) (omega (arith, less))
    by_test false e = subst (λ (x : Messages). Falls (2 * v.count r.inbox) x u) (ap (λ (p : Passed). p.messages) e) (let none : weight r.next ≡ 0 = ap weight rests in omega (arith, less, none))

abbrev silence_by : Bool → ℕ → Messages → Passed
silence_by due now r = if due then record { told = MissesHeartbeat; messages = armed now r } else record { told = Waits; messages = r }

silence_tells : (due : Bool) (now : ℕ) (r new : Messages) → silence_by due now r ≡ record { told = tells.Nothing; messages = new } → ⊥
silence_tells true now r new is = let no : MissesHeartbeat ≡ tells.Nothing = ap (λ (p : Passed). p.told) is in cc
silence_tells false now r new is = let no : Waits ≡ tells.Nothing = ap (λ (p : Passed). p.told) is in cc

arrival_falls : (now : ℕ) (met : Met) (r new : Messages) (v u : LinkView) → r.next ≡ CheckArrival → Meets (Reads r.inbox) met v u
    → arrival_row now met r ≡ record { told = tells.Nothing; messages = new } → Falls (2 * v.count r.inbox) new u
arrival_falls now (Took m) r new v u rests meets is = heard_falls m.status m (armed now r) new v u rests meets.one_less is
arrival_falls now Empty r new v u rests meets is = absurd (silence_tells (is_any_due r.heartbeat_timer now) now r new is)
arrival_falls now Shut r new v u rests meets is = absurd (let no : Ends ≡ tells.Nothing = ap (λ (p : Passed). p.told) is in cc)
arrival_falls now met r new v u rests meets is = absurd meets

row_falls : (now : ℕ) (row : Row) (met : Met) (r new : Messages) (v u : LinkView) → r.next ≡ row → Meets (wish row r.inbox) met v u
    → pass now met row r ≡ record { told = tells.Nothing; messages = new } → Falls (2 * v.count r.inbox + weight row) new u
row_falls now Arm met r new v u at meets is =
    subst (λ (x : Messages). Falls (2 * v.count r.inbox + 1) x u) (ap (λ (p : Passed). p.messages) is)
    (let kept : u.count r.inbox ≡ v.count r.inbox = ap (λ (x : LinkView). x.count r.inbox) (nothing_same met v u meets) in omega (arith, kept))
row_falls now CheckArrival met r new v u at meets is = let falls = arrival_falls now met r new v u at meets is in omega (arith, falls)
row_falls now (Answer m) met r new v u at meets is =
    subst (λ (x : Messages). Falls (2 * v.count r.inbox + 1) x u) (ap (λ (p : Passed). p.messages) is)
    (let kept = answer_counts (answer_subject m) r.inbox met v u meets in omega (arith, kept))
row_falls now Ended met r new v u at meets is = absurd (let no : Ends ≡ tells.Nothing = ap (λ (p : Passed). p.told) is in cc)

pub smaller : (now : ℕ) (told : RowOutcome) (old new : Messages) (v u : LinkView) → told ≡ tells.Nothing → Passes now told old new v u → measure new u < measure old v
smaller now told old new v u quiet passes =
    let p = subst (λ (t : RowOutcome). Passes now t old new v u) quiet passes in
    row_falls now old.next p.met old new v u refl p.meets p.passed

-- ---- nothing comes

-- a row of a reader that is left alone waits
record Waited (told : RowOutcome) (old new : Messages) (before after : LinkView) : Type 0 where
  waits : Waits ≡ told
  stays : old ≡ new
  same : after ≡ before

false_true : false ≡ true → ⊥
false_true e = cc

arrival_waits : (now : ℕ) (met : Met) (told : RowOutcome) (r new : Messages) (v u : LinkView) → v.is_open r.inbox ≡ true → v.count r.inbox ≡ 0 → is_any_due r.heartbeat_timer now ≡ false
    → Meets (Reads r.inbox) met v u → arrival_row now met r ≡ record { told = told; messages = new } → Waited told r new v u
arrival_waits now (Took m) told r new v u is_open empty early meets is = absurd (omega (arith, meets.one_less, empty))
arrival_waits now Empty told r new v u is_open empty early meets is =
    let waits : silence_by false now r ≡ record { told = told; messages = new } = sym (ap (λ (due : Bool). silence_by due now r) early) ∙ is in
    record { waits = ap (λ (p : Passed). p.told) waits; stays = ap (λ (p : Passed). p.messages) waits; same = meets.0 }
arrival_waits now Shut told r new v u is_open empty early meets is = absurd (false_true (sym meets.1 ∙ is_open))
arrival_waits now met told r new v u is_open empty early meets is = absurd meets

alone_waits : (now : ℕ) (met : Met) (told : RowOutcome) (r new : Messages) (v u : LinkView) → IsLeftAlone now r v → Meets (wish r.next r.inbox) met v u
    → pass now met r.next r ≡ record { told = told; messages = new } → Waited told r new v u
alone_waits now met told r new v u alone meets is =
    arrival_waits now met told r new v u alone.is_open alone.empty
    (sym (ap (λ (row : Row). due_at row r.heartbeat_timer now) alone.rests) ∙ alone.early)
    (subst (λ (row : Row). Meets (wish row r.inbox) met v u) alone.rests meets)
    (subst (λ (row : Row). pass now met row r ≡ record { told = told; messages = new }) alone.rests is)

passes_waits : (now : ℕ) (told : RowOutcome) (r new : Messages) (v u : LinkView) → IsLeftAlone now r v → Passes now told r new v u → Waited told r new v u
passes_waits now told r new v u alone p = alone_waits now p.met told r new v u alone p.meets p.passed

answers_waits : (answer : PollAnswer) (now : ℕ) (r new : Messages) (v u : LinkView) → IsLeftAlone now r v → AnswersBy answer now r new v u → Sleeps r answer new v u
answers_waits next.Pending now r new v u alone p =
    let waited = passes_waits now Waits r new v u alone p in
    record { waits = refl; stays = sym waited.stays; same = waited.same }
answers_waits (next.Item (Ok m)) now r new v u alone p =
    let waited = passes_waits now (Hands m.message) r new v u alone p.0 in
    absurd (let no = waited.waits in cc)
answers_waits (next.Item (Err e)) now r new v u alone p =
    let waited = passes_waits now MissesHeartbeat r new v u alone p.0 in
    absurd (let no = waited.waits in cc)
answers_waits next.End now r new v u alone p =
    let waited = passes_waits now Ends r new v u alone p in
    absurd (let no = waited.waits in cc)
answers_waits next.OutOfMemory now r new v u alone p =
    absurd (let no : CheckArrival ≡ Answer p.message = sym alone.rests ∙ p.row in cc)

walk_waits : (mets : List Met) (answer : PollAnswer) (now : ℕ) (old last new : Messages) (v between u : LinkView) → IsLeftAlone now old v → PassesQuietly now mets old last v between
    → AnswersBy answer now last new between u → Sleeps old answer new v u
walk_waits [] answer now old last new v between u alone (stays, same) answers =
    answers_waits answer now old new v u alone
    (subst (λ (r : Messages). AnswersBy answer now r new v u) stays (subst (λ (x : LinkView). AnswersBy answer now last new x u) same answers))
walk_waits (met ∷ mets) answer now old last new v between u alone (middle, after, meets, is, rest) answers =
    let waited = alone_waits now met tells.Nothing old middle v after alone meets is in
    absurd (let no = waited.waits in cc)

pub poll_sleeps : (now : ℕ) (old new : Messages) (answer : PollAnswer) (v u : LinkView) → IsPoll now old answer new v u → IsLeftAlone now old v → Sleeps old answer new v u
poll_sleeps now old new answer v u poll alone = walk_waits poll.mets answer now old poll.last new v poll.between u alone poll.silent poll.answers
