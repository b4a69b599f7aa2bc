-- The rows of a reader that is left alone do nothing before one of its timers is due.
use Rattle.std.proofs.Common.{◌≡◌, ℕ, Bool, true, false, List, [], ◌∷◌, Option, None, refl, sym, ◌∙◌, ap, arith}
use Rattle.std.specs.Prelude.{⊤, ◌||◌, if◌then◌else◌}
use Rattle.js_base.specs.Clock.{is_due, is_any_due}
use Rattle.js_base.specs.declared.clock.Timer.{Timer}
use Rattle.js_base.specs.declared.message.Message.{Message}
use Rattle.js_link.specs.LinkView.{LinkView}
use Rattle.js_link.specs.LinkView as views
use Rattle.js_link.specs.Wish.{row_input, message_of}
use Rattle.js_link.specs.declared.wish.Wish.TheVariants.{Awaits, Reads}
use Rattle.js_link.specs.declared.wish.Met.{Met}
use Rattle.js_link.specs.declared.wish.Met.TheVariants.{Unasked, Took, Empty, Shut, Waiting, Gone, Got}
use Rattle.js_link.specs.declared.wish.Wish.TheVariants as wishes
use Rattle.js_link.specs.Meets.{Meets}
use Rattle.js_link.specs.RowInput.{RowInput}
use Rattle.js_pull.specs.declared.reader.Reader.{Reader}
use Rattle.js_pull.specs.declared.reader.InfoRequest.{InfoRequest}
use Rattle.js_pull.specs.declared.reader.InfoRequest.TheVariants.{NoInfoRequest, Asked, Resting}
use Rattle.js_pull.specs.declared.reader.Reason.TheVariants.{Expired}
use Rattle.js_pull.specs.declared.reader.Row.{Row}
use Rattle.js_pull.specs.declared.reader.Row.TheVariants.{Ask, Inquire, FailInfoRequest, CheckInfoRequest, CheckExpiry, CheckArrival, CheckSilence}
use Rattle.js_pull.specs.declared.reader.MessagesErrorKind.TheVariants as error
use Rattle.js_pull.specs.Reader as rows
use Rattle.js_pull.specs.Timers.{IsUnanswered, inquiry_due, timer_due}
use Rattle.js_pull.proofs.Walk.{passing_now}

-- where an event stands that does nothing
pub data Stage : Type 0 where
  Rest Expiry Info Arrival Silence : Stage

abbrev pub rows_at : Stage → List Row
rows_at Rest = []
rows_at Expiry = CheckExpiry ∷ CheckArrival ∷ []
rows_at Info = CheckInfoRequest ∷ CheckArrival ∷ []
rows_at Arrival = CheckArrival ∷ []
rows_at Silence = CheckSilence ∷ []

-- the expiry is looked at where no info is open
abbrev pub IsAt : Stage → Reader → Type 0
IsAt Expiry r = rows.is_asking r.inquiry ≡ false
IsAt Rest r = ⊤
IsAt Info r = ⊤
IsAt Arrival r = ⊤
IsAt Silence r = ⊤

-- ---- what is not due

either_false : (a b : Bool) → (a || b) ≡ false → (a ≡ false) × (b ≡ false)
either_false true b e = absurd (never e)
  where
    never : true ≡ false → ⊥
    never e = cc
either_false false b e = (refl, e)

pub early_parts : (now : ℕ) (r : Reader) → r.ended ≡ false → timer_due now r ≡ false → (inquiry_due now r.inquiry r.expiry ≡ false) × (is_any_due r.heartbeat_timer now ≡ false)
early_parts now r alive e =
    either_false (inquiry_due now r.inquiry r.expiry) (is_any_due r.heartbeat_timer now)
    (sym (ap (λ (b : Bool). if b then false else (inquiry_due now r.inquiry r.expiry || is_any_due r.heartbeat_timer now)) alive) ∙ e)

expiry_early : (now : ℕ) (inquiry : InfoRequest) (expiry : Option Timer) → rows.is_asking inquiry ≡ false → inquiry_due now inquiry expiry ≡ false → is_any_due expiry now ≡ false
expiry_early now NoInfoRequest expiry none e = e
expiry_early now (Asked request timeout failures) expiry none e = cc
expiry_early now (Resting wait failures) expiry none e = cc

pub moment_is : (now : ℕ) (p : RowInput) (met : Met) → p ≡ row_input now met → p.now ≡ now
moment_is now p met is = ap (λ (x : RowInput). x.now) is ∙ sym (passing_now now met)

-- ---- rows that do nothing

pub nothing_same : (met : Met) (v u : LinkView) → Meets wishes.Nothing met v u → u ≡ v
nothing_same Unasked v u m = m
nothing_same met v u m = absurd m

-- an event begins
pub begun_idle : (p : RowInput) (r : Reader) (b : Bool) → rows.is_asking r.inquiry ≡ b → r.ended ≡ false → (stage : Stage) × IsAt stage r × (rows.begin_row p None r ≡ rows.silent_row r (rows_at stage))
begun_idle p r true asks alive = (
  Info,
  tt,
  ap (λ (e : Bool). if e then rows.silent_row r [] else (if rows.is_asking r.inquiry then rows.silent_row r (CheckInfoRequest ∷ CheckArrival ∷ []) else rows.begin_change p None r)) alive
      ∙ ap (λ (b : Bool). if b then rows.silent_row r (CheckInfoRequest ∷ CheckArrival ∷ []) else rows.begin_change p None r) asks,
)
begun_idle p r false asks alive = (
  Expiry,
  asks,
  ap (λ (e : Bool). if e then rows.silent_row r [] else (if rows.is_asking r.inquiry then rows.silent_row r (CheckInfoRequest ∷ CheckArrival ∷ []) else rows.begin_change p None r)) alive
      ∙ ap (λ (b : Bool). if b then rows.silent_row r (CheckInfoRequest ∷ CheckArrival ∷ []) else rows.begin_change p None r) asks,
)

pub expiry_idle : (now : ℕ) (p : RowInput) (r : Reader) → p.now ≡ now → rows.is_asking r.inquiry ≡ false → inquiry_due now r.inquiry r.expiry ≡ false
    → rows.silent_row r (if is_any_due r.expiry p.now then Ask Expired ∷ [] else []) ≡ rows.silent_row r []
expiry_idle now p r at none early =
    ap (λ (b : Bool). rows.silent_row r (if b then Ask Expired ∷ [] else [])) (ap (is_any_due r.expiry) at ∙ expiry_early now r.inquiry r.expiry none early)

-- no answer has come
pub no_reply : (request : ℕ) (met : Met) (v u : LinkView) → Meets (Awaits request) met v u → v.status request ≡ views.Waits → (rows.answer_of (Awaits request) met ≡ None) × (u ≡ v)
no_reply request Waiting v u m waits = (refl, m.0)
no_reply request Gone v u m waits = absurd (never (sym waits ∙ m.1))
  where
    never : views.Waits ≡ views.Ended → ⊥
    never e = cc
no_reply request (Got reply) v u m waits = absurd (never (sym waits ∙ m.had_come))
  where
    never : views.Waits ≡ views.Answered → ⊥
    never e = cc
no_reply request met v u m waits = absurd m

pub inquiry_idle : (now : ℕ) (p : RowInput) (answer : Option rows.Answer) (inquiry : InfoRequest) (r : Reader) (met : Met) (v u : LinkView) → p.now ≡ now → answer ≡ rows.answer_of (rows.awaited inquiry) met
    → Meets (rows.awaited inquiry) met v u → IsUnanswered inquiry v → inquiry_due now inquiry r.expiry ≡ false
    → (rows.check_inquiry p answer inquiry r ≡ rows.silent_row r []) × (u ≡ v)
inquiry_idle now p answer NoInfoRequest r met v u at is m waits early = (refl, nothing_same met v u m)
inquiry_idle now p answer (Asked request timeout failures) r met v u at is m waits early =
    let none = no_reply request met v u m waits in (
      ap (λ (a : Option rows.Answer). rows.check_asked p timeout failures (rows.reply_to request a) r) (is ∙ none.0)
          ∙ ap (λ (b : Bool). rows.silent_row r (if b then FailInfoRequest failures ∷ [] else [])) (ap (is_any_due timeout) at ∙ early),
      none.1,
    )
inquiry_idle now p answer (Resting wait failures) r met v u at is m waits early =
    (ap (λ (b : Bool). rows.silent_row r (if b then Inquire failures ∷ [] else [])) (ap (is_due wait) at ∙ early), nothing_same met v u m)

-- no message has come
pub none_arrives : (inbox : ℕ) (arrival : Option Message) (met : Met) (v u : LinkView) → arrival ≡ message_of met → Meets (Reads inbox) met v u → v.is_open inbox ≡ true → v.count inbox ≡ 0
    → (arrival ≡ None) × (u ≡ v)
none_arrives inbox arrival Empty v u is m is_open empty = (is, m.0)
none_arrives inbox arrival Shut v u is m is_open empty = absurd (never (sym m.1 ∙ is_open))
  where
    never : false ≡ true → ⊥
    never e = cc
none_arrives inbox arrival (Took message) v u is m is_open empty =
    let less = m.one_less in
    absurd (omega (arith, less, empty))
none_arrives inbox arrival met v u is m is_open empty = absurd m

pub arrival_idle : (p : RowInput) (arrival : Option Message) (r : Reader) (met : Met) (v u : LinkView) → arrival ≡ message_of met → Meets (Reads r.source.inbox) met v u
    → v.is_open r.source.inbox ≡ true → v.count r.source.inbox ≡ 0 → (rows.check_arrival p arrival r ≡ rows.silent_row r (CheckSilence ∷ [])) × (u ≡ v)
arrival_idle p arrival r met v u is m is_open empty =
    let none = none_arrives r.source.inbox arrival met v u is m is_open empty in
    (ap (λ (a : Option Message). rows.check_arrival p a r) none.0, none.1)

pub silence_idle : (now : ℕ) (p : RowInput) (r : Reader) → p.now ≡ now → is_any_due r.heartbeat_timer now ≡ false → rows.check_silence p r ≡ rows.silent_row r []
silence_idle now p r at early =
    ap (λ (b : Bool). if b then rows.tell error.MissingHeartbeat (rows.with_silence p.now r) (rows.silence_inquiry r) else rows.silent_row r []) (ap (is_any_due r.heartbeat_timer) at ∙ early)
