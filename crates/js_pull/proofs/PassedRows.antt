-- Each row that the code has passed, as the row of the table at what was met.
use Rattle.std.proofs.Common.{◌≡◌, ℕ, Bool, true, false, List, Option, Some, None, refl, sym, ◌∙◌, ap, subst}
use Rattle.std.proofs.lemmas.Bool.{eq-eqb}
use Rattle.std.specs.Prelude.{Result, Ok, Err, IfOk, is_some, unwrap_or, option_map}
use Rattle.js_base.specs.declared.message.Message.{Message}
use Rattle.js_link.specs.RowInput.{RowInput}
use Rattle.js_link.specs.Wish.{row_input, message_of, reply_of, GoesAs, reply_met}
use Rattle.js_link.specs.declared.wish.Wish.{Wish}
use Rattle.js_link.specs.declared.wish.Met.{Met}
use Rattle.js_link.specs.declared.wish.Met.TheVariants.{Unasked, GoneOut, Refused, Dropped, Requested, Opened, Empty, Shut, Took, Waiting, Gone, Got, Stands, WatchOver}
use Rattle.js_pull.specs.declared.reader.Reader.{Reader}
use Rattle.js_pull.specs.declared.reader.Reason.{Reason}
use Rattle.js_pull.specs.declared.reader.InfoRequest.{InfoRequest}
use Rattle.js_pull.specs.declared.reader.InfoRequest.TheVariants.{NoInfoRequest, Asked, Resting}
use Rattle.js_pull.specs.declared.reader.Row.{Row}
use Rattle.js_pull.specs.declared.reader.Row.TheVariants.{Ask, Inquire}
use Rattle.js_pull.specs.declared.rows.Due.{Due}
use Rattle.js_pull.specs.declared.passed_row.PassedRow.{PassedRow}
use Rattle.js_pull.specs.Passes.{publishing}
use Rattle.js_pull.specs.Reader as rows
use Rattle.js_pull.specs.Rows.{StepsTo, Steps, brought, inquiry_row, inquiry_step, passing_at, requesting, row_of}
use Rattle.js_pull.proofs.Inquiries.{nothing_read, asked_read, resting_read}

-- ---- the moment of a row

passing_is : (now : ℕ) (met : Met) → passing_at now met ≡ row_input now met
passing_is now Unasked = refl
passing_is now GoneOut = refl
passing_is now Refused = refl
passing_is now Dropped = refl
passing_is now (Requested number) = refl
passing_is now (Opened inbox subject) = refl
passing_is now Empty = refl
passing_is now Shut = refl
passing_is now (Took message) = refl
passing_is now Waiting = refl
passing_is now Gone = refl
passing_is now (Got reply) = refl
passing_is now (Stands state) = refl
passing_is now WatchOver = refl

-- a row that was passed at a moment
pub at_moment : (now : ℕ) (row : Row) (met : Met) (r new : Reader) (step : PassedRow)
    → StepsTo (rows.row (passing_at now met) (rows.answer_of (rows.wish row r) met) (message_of met) row r) met step new → Steps now row met step r new
at_moment now row met r new step steps =
    subst (λ (p : RowInput). StepsTo (rows.row p (rows.answer_of (rows.wish row r) met) (message_of met) row r) met step new) (passing_is now met) steps

-- ---- requests

pub ask_steps : (now : ℕ) (reason : Reason) (request : Option ℕ) (b : Bool) (met : Met) (r new : Reader) (step : PassedRow) → GoesAs request met → b ≡ is_some request
    → StepsTo (rows.ask (publishing now b) reason r) met step new → Steps now (Ask reason) met step r new
ask_steps now reason None b met r new step goes is steps =
    at_moment now (Ask reason) met r new step (subst (λ (x : Bool). StepsTo (rows.ask (publishing now x) reason r) met step new) (is ∙ sym (goes now)) steps)
ask_steps now reason (Some request) b met r new step goes is steps =
    at_moment now (Ask reason) met r new step (subst (λ (x : Bool). StepsTo (rows.ask (publishing now x) reason r) met step new) (is ∙ sym (goes now).0) steps)

refused_is : (now : ℕ) (up : Bool) (request inbox : ℕ) (subject : List ℕ) (failures : ℕ) (r : Reader) → up ≡ false
    → rows.inquire (publishing now false) failures r ≡ rows.inquire (record { now = now; up = up; request = request; inbox = inbox; subject = subject }) failures r
refused_is now true request inbox subject failures r e = absurd (never e)
  where
    never : true ≡ false → ⊥
    never e = cc
refused_is now false request inbox subject failures r e = refl

gone_is : (now : ℕ) (up : Bool) (request number inbox : ℕ) (subject : List ℕ) (failures : ℕ) (r : Reader) → up ≡ true → request ≡ number
    → rows.inquire (requesting now (Some number)) failures r ≡ rows.inquire (record { now = now; up = up; request = request; inbox = inbox; subject = subject }) failures r
gone_is now true request number inbox subject failures r e same = ap (λ (x : ℕ). rows.inquire (requesting now (Some x)) failures r) (sym same)
gone_is now false request number inbox subject failures r e same = absurd (never e)
  where
    never : false ≡ true → ⊥
    never e = cc

pub inquire_steps : (now failures : ℕ) (request : Option ℕ) (met : Met) (r new : Reader) (step : PassedRow) → GoesAs request met
    → StepsTo (rows.inquire (requesting now request) failures r) met step new → Steps now (Inquire failures) met step r new
inquire_steps now failures None met r new step goes steps =
    let p = row_input now met in
    at_moment now (Inquire failures) met r new step (subst (λ (x : rows.Passed). StepsTo x met step new) (refused_is now p.up p.request p.inbox p.subject failures r (goes now)) steps)
inquire_steps now failures (Some request) met r new step goes steps =
    let p = row_input now met in
    at_moment now (Inquire failures) met r new step (subst (λ (x : rows.Passed). StepsTo x met step new) (gone_is now p.up p.request request p.inbox p.subject failures r (goes now).0 (goes now).1) steps)

-- ---- the info that is open

-- the reply that was met is that of the answer to the request
met_brings : (request : ℕ) (o : Option (Option Message)) → unwrap_or o None ≡ brought (option_map (λ (reply : Option Message). record { request = request; reply = reply }) o)
met_brings request None = refl
met_brings request (Some reply) = refl

-- it is there where an answer was met
met_replies : (request : ℕ) (o : Option (Option Message))
    → is_some o ≡ is_some (rows.reply_to request (option_map (λ (reply : Option Message). record { request = request; reply = reply }) o))
met_replies request None = refl
met_replies request (Some reply) = rw (eq-eqb request request refl) refl

inquiry_met : (now : ℕ) (met : Met) (inquiry : InfoRequest) (r : Reader) → StepsTo (inquiry_row now met inquiry r) met (inquiry_step now (is_some (reply_of met)) inquiry) r
inquiry_met now met NoInfoRequest r = nothing_read (passing_at now met) (reply_met met) (message_of met) None (is_some (reply_of met)) r
inquiry_met now met (Asked request timeout failures) r =
    asked_read (passing_at now met) (reply_met met) (message_of met) _ request timeout failures _ r (met_brings request (reply_of met)) (met_replies request (reply_of met))
inquiry_met now met (Resting wait failures) r = resting_read (passing_at now met) (reply_met met) (message_of met) None wait failures (is_some (reply_of met)) r

pub inquiry_steps : (now : ℕ) (met : Met) (answered : Bool) (r : Reader) (step : PassedRow) → answered ≡ is_some (reply_of met) → step ≡ inquiry_step now answered r.inquiry
    → StepsTo (inquiry_row now met r.inquiry r) met step r
inquiry_steps now met answered r step is to = rw to (rw is (inquiry_met now met r.inquiry r))

-- ---- what a row wishes

pub wish_known : {E : Type 0} (result : Result Wish E) (wish : Wish) (due : Due) (r : Reader) → ((reply : Option Message) → wish ≡ rows.wish (row_of reply due) r)
    → IfOk result (λ w. w ≡ wish) → IfOk result (λ w. (reply : Option Message) → w ≡ rows.wish (row_of reply due) r)
wish_known (Ok w) wish due r same is = λ reply. is ∙ same reply
wish_known (Err e) wish due r same is = is
