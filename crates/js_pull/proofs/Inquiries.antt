-- The row that looks at an open info, whoever brings its answer.
use Rattle.std.proofs.Common.{◌≡◌, ℕ, Bool, true, false, [], ◌∷◌, Option, Some, None, refl, ap}
use Rattle.std.specs.Prelude.{◌==◌, is_some, if◌then◌else◌}
use Rattle.js_base.specs.Clock.{is_due, is_any_due}
use Rattle.js_base.specs.declared.clock.Timer.{Timer}
use Rattle.js_base.specs.declared.message.Message.{Message}
use Rattle.js_link.specs.RowInput.{RowInput}
use Rattle.js_pull.specs.declared.reader.InfoRequest.{InfoRequest}
use Rattle.js_pull.specs.declared.reader.InfoRequest.TheVariants.{NoInfoRequest, Asked, Resting}
use Rattle.js_pull.specs.declared.reader.Reader.{Reader}
use Rattle.js_pull.specs.declared.reader.Row.TheVariants.{Inquire, FailInfoRequest, Answered}
use Rattle.js_pull.specs.declared.rows.Due.TheVariants as due
use Rattle.js_pull.specs.declared.passed_row.PassedRow.{PassedRow}
use Rattle.js_pull.specs.Reader as rows
use Rattle.js_pull.specs.Reader.{Answer, reply_to}
use Rattle.js_pull.specs.Rows.{IsInquired, ReadsTo, brought, inquiry_step, quiet_step}

-- no info is open
pub nothing_read : (p : RowInput) (reply message : Option Message) (answer : Option Answer) (answered : Bool) (r : Reader)
    → ReadsTo reply message (rows.check_inquiry p answer NoInfoRequest r) r (inquiry_step p.now answered NoInfoRequest)
nothing_read p reply message answer answered r = record { reader = refl; told = refl; next = refl }

-- a row that follows where a clock is over
fails_if : (reply message : Option Message) (failures : ℕ) (over : Bool) (r : Reader)
    → ReadsTo reply message (rows.silent_row r (if over then FailInfoRequest failures ∷ [] else [])) r (quiet_step (if over then Some (due.FailInfoRequest failures) else None))
fails_if reply message failures true r = record { reader = refl; told = refl; next = refl }
fails_if reply message failures false r = record { reader = refl; told = refl; next = refl }

tries_if : (reply message : Option Message) (failures : ℕ) (over : Bool) (r : Reader)
    → ReadsTo reply message (rows.silent_row r (if over then Inquire failures ∷ [] else [])) r (quiet_step (if over then Some (due.Inquire failures) else None))
tries_if reply message failures true r = record { reader = refl; told = refl; next = refl }
tries_if reply message failures false r = record { reader = refl; told = refl; next = refl }

-- the reply that is there is read, and else the clock is looked at
replied_read : (p : RowInput) (reply message : Option Message) (o : Option (Option Message)) (timeout : Option Timer) (failures : ℕ) (r : Reader) → ((x : Option Message) → o ≡ Some x → reply ≡ x)
    → ReadsTo reply message (rows.check_asked p timeout failures o r) r
    (quiet_step (if is_some o then Some (due.Answered failures) else (if is_any_due timeout p.now then Some (due.FailInfoRequest failures) else None)))
replied_read p reply message (Some x) timeout failures r brings =
    record { reader = refl; told = refl; next = ap (λ (y : Option Message). Answered y failures ∷ []) (brings x refl) }
replied_read p reply message None timeout failures r brings = fails_if reply message failures (is_any_due timeout p.now) r

-- a reply to the request is the one that is brought
reply_brought : (request : ℕ) (answer : Option Answer) (x : Option Message) → reply_to request answer ≡ Some x → brought answer ≡ x
reply_brought request None x is = cc
reply_brought request (Some answer) x is = by_test (request == answer.request) is
  where
    by_test : (b : Bool) → (if b then Some answer.reply else None) ≡ Some x → answer.reply ≡ x
    by_test true is = cc
    by_test false is = cc

-- an info was asked for
pub asked_read : (p : RowInput) (reply message : Option Message) (answer : Option Answer) (request : ℕ) (timeout : Option Timer) (failures : ℕ) (answered : Bool) (r : Reader)
    → reply ≡ brought answer → answered ≡ is_some (reply_to request answer)
    → ReadsTo reply message (rows.check_inquiry p answer (Asked request timeout failures) r) r (inquiry_step p.now answered (Asked request timeout failures))
asked_read p reply message answer request timeout failures answered r brings is =
    rw is (rw brings (replied_read p (brought answer) message (reply_to request answer) timeout failures r (reply_brought request answer)))

-- the next try waits
pub resting_read : (p : RowInput) (reply message : Option Message) (answer : Option Answer) (wait : Timer) (failures : ℕ) (answered : Bool) (r : Reader)
    → ReadsTo reply message (rows.check_inquiry p answer (Resting wait failures) r) r (inquiry_step p.now answered (Resting wait failures))
resting_read p reply message answer wait failures answered r = tries_if reply message failures (is_due wait p.now) r

-- an event brings the answer, or none
pub inquiry_read : (p : RowInput) (message : Option Message) (answer : Option Answer) (inquiry : InfoRequest) (answered : Bool) (r : Reader) (step : PassedRow)
    → IsInquired answer inquiry answered → step ≡ inquiry_step p.now answered inquiry → ReadsTo (brought answer) message (rows.check_inquiry p answer inquiry r) r step
inquiry_read p message answer inquiry answered r step is to = rw to (known inquiry is)
  where
    known : (inquiry : InfoRequest) → IsInquired answer inquiry answered → ReadsTo (brought answer) message (rows.check_inquiry p answer inquiry r) r (inquiry_step p.now answered inquiry)
    known NoInfoRequest is = nothing_read p (brought answer) message answer answered r
    known (Asked request timeout failures) is = asked_read p (brought answer) message answer request timeout failures answered r refl is
    known (Resting wait failures) is = resting_read p (brought answer) message answer wait failures answered r
