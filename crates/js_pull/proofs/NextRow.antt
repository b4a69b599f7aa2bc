-- A row that was passed with what it met, as the next row of its stream.
use Rattle.std.proofs.Common.{◌≡◌, ℕ, Bool, true, false, List, ◌∷◌, ◌++◌, Option, Some, None, refl, sym, ◌∙◌, ap, subst}
use Rattle.std.specs.Prelude.{is_some}
use Rattle.js_base.specs.declared.message.Message.{Message}
use Rattle.js_base.specs.declared.message.State.{State}
use Rattle.js_link.specs.LinkView.{LinkView}
use Rattle.js_link.specs.Wish.{message_of, row_input, is_shut, reply_met}
use Rattle.js_link.specs.declared.wish.Met.{Met}
use Rattle.js_link.specs.declared.wish.Met.TheVariants.{Shut}
use Rattle.js_link.specs.Meets.{Meets}
use Rattle.js_pull.specs.declared.reader.PullSource.{PullSource}
use Rattle.js_pull.specs.declared.reader.Reader.{Reader}
use Rattle.js_pull.specs.declared.reader.InfoRequest.{InfoRequest}
use Rattle.js_pull.specs.declared.reader.InfoRequest.TheVariants.{NoInfoRequest, Asked, Resting}
use Rattle.js_pull.specs.declared.reader.Row.{Row}
use Rattle.js_pull.specs.declared.reader.Row.TheVariants.{Begin, Ask, Threshold, Arm, Inquire, FailInfoRequest, CheckInfoRequest, Answered, CheckExpiry, CheckArrival, CheckSilence}
use Rattle.js_pull.specs.declared.reader.ReaderOutput.{ReaderOutput}
use Rattle.js_pull.specs.declared.reader.ReaderOutput.TheVariants.{Nothing, Hands, Tells}
use Rattle.js_pull.specs.declared.rows.Due.{Due}
use Rattle.js_pull.specs.declared.rows.Notice.{Notice}
use Rattle.js_pull.specs.declared.rows.Notice.TheVariants as notice
use Rattle.js_pull.specs.declared.passed_row.PassedRow.{PassedRow}
use Rattle.js_pull.specs.Reader.{wish}
use Rattle.js_pull.specs.Reader as rows
use Rattle.js_pull.specs.Rows.{Steps, met_row, row_list, row_of, told_shown}
use Rattle.js_pull.specs.declared.stream.RowOutcome.{RowOutcome}
use Rattle.js_pull.specs.declared.stream.RowOutcome.TheVariants as outcome
use Rattle.js_pull.specs.Poll.{Position, IsOpen, closed_at, text_of}
use Rattle.js_pull.specs.HeldMessage.{seen}
use Rattle.js_pull.specs.Stream.{PassesNext, PassesAt, ClosesAt, BeginsAt, IsText, begun, outcome_by}
use Rattle.js_pull.proofs.Calls.{Advanced, advanced_begun}
use Rattle.js_pull.proofs.Measure.{begun_source, row_nears}
use Rattle.js_pull.proofs.HeldMessage.{watch_is_seen}
use Rattle.js_pull.proofs.Walk.{place}

-- the next row of a position, but for the text that it tells
record Next (now : ℕ) (what : ReaderOutput) (met : Met) (old new : Position) (before after : LinkView) : Type 0 where
  row : Row
  later : List Row
  todo : old.todo ≡ row ∷ later
  reader : new.reader ≡ (met_row now row met old.reader).reader
  left : new.todo ≡ (met_row now row met old.reader).next ++ later
  connection : new.connection ≡ old.connection
  is_open : IsOpen met
  told : what ≡ (met_row now row met old.reader).told
  meets : Meets (wish row old.reader) met before after

with_text : (now : ℕ) (told : ReaderOutput) (text : Option (List ℕ)) (met : Met) (old new : Position) (v u : LinkView) → IsText told text (message_of met)
    → Next now told met old new v u → PassesNext now told text met old new v u
with_text now told text met old new v u is p =
    record { row = p.row; later = p.later; todo = p.todo; reader = p.reader; left = p.left; connection = p.connection; is_open = p.is_open; told = p.told; text = is; meets = p.meets }

by_told : (now : ℕ) (told : Notice) (o : Option Message) (met : Met) (old new : Position) (v u : LinkView) → o ≡ message_of met
    → Next now (told_shown told o) met old new v u → PassesAt (outcome_by told o) now old new v u
by_told now notice.Nothing None met old new v u is p = (met, with_text now Nothing None met old new v u tt p, sym (ap is_some is))
by_told now notice.Nothing (Some message) met old new v u is p = (met, with_text now Nothing None met old new v u tt p, sym (ap is_some is))
by_told now notice.Hands None met old new v u is p = (met, with_text now Nothing None met old new v u tt p, sym (ap is_some is))
by_told now notice.Hands (Some message) met old new v u is p = (met, with_text now (Hands message) None met old new v u tt p)
by_told now (notice.Tells kind) o met old new v u is p = (met, with_text now (Tells kind) (text_of kind o) met old new v u (ap (text_of kind) is) p)

open_unless : (met : Met) → is_shut met ≡ false → IsOpen met
open_unless Shut e = absurd (never e)
  where
    never : true ≡ false → ⊥
    never e = cc
open_unless met e = tt

-- the row that was next was passed
pub passes_step : (last : State) (turn : RowOutcome) (now : ℕ) (due : Due) (reply : Option Message) (later : List Row) (step : PassedRow) (o : Option Message) (after : Option Message) (met : Met) (shut : Bool)
    (r s : Reader) (todo left : List Row) (v u : LinkView)
    → todo ≡ row_of reply due ∷ later → shut ≡ is_shut met → shut ≡ false → Steps now (row_of reply due) met step r s → o ≡ message_of met → after ≡ reply_met met
    → left ≡ row_list after step.next ++ later → turn ≡ outcome_by step.told o → Meets (wish (row_of reply due) r) met v u
    → PassesAt turn now (place r todo last) (place s left last) v u
passes_step last turn now due reply later step o after met shut r s todo left v u at is_shut_by not_shut steps taken answered is turned meets =
    let old : Position = place r todo last in
    let new : Position = place s left last in
    subst (λ (x : RowOutcome). PassesAt x now old new v u) (sym turned)
    (by_told now step.told o met old new v u taken (record {
      row = row_of reply due;
      later = later;
      todo = at;
      reader = steps.reader;
      left = is ∙ ap (λ (x : Option Message). row_list x step.next ++ later) answered ∙ ap (λ (xs : List Row). xs ++ later) steps.next;
      connection = refl;
      is_open = open_unless met (sym is_shut_by ∙ not_shut);
      told = ap (told_shown step.told) taken ∙ steps.told;
      meets = meets;
    }))

shut_is : (met : Met) → is_shut met ≡ true → met ≡ Shut
shut_is Shut e = refl
shut_is met e = cc

-- only the row that looks for an arrival finds an inbox closed
only_arrivals : (row : Row) (r : Reader) (v u : LinkView) → Meets (wish row r) Shut v u → row ≡ CheckArrival
only_arrivals (Begin change) r v u m = absurd m
only_arrivals (Ask reason) r v u m = absurd m
only_arrivals Threshold r v u m = absurd m
only_arrivals Arm r v u m = absurd m
only_arrivals (Inquire failures) r v u m = absurd m
only_arrivals (FailInfoRequest failures) r v u m = absurd m
only_arrivals CheckInfoRequest r v u m = absurd (by_inquiry r.inquiry m)
  where
    by_inquiry : (inquiry : InfoRequest) → Meets (rows.awaited inquiry) Shut v u → ⊥
    by_inquiry NoInfoRequest m = m
    by_inquiry (Asked request timeout failures) m = m
    by_inquiry (Resting wait failures) m = m
only_arrivals (Answered reply failures) r v u m = absurd m
only_arrivals CheckExpiry r v u m = absurd m
only_arrivals CheckArrival r v u m = refl
only_arrivals CheckSilence r v u m = absurd m

pub passes_closed : (due : Due) (reply : Option Message) (later : List Row) (met : Met) (shut : Bool) (old new : Position) (v u : LinkView)
    → old.todo ≡ row_of reply due ∷ later → shut ≡ is_shut met → shut ≡ true → new ≡ closed_at true old → Meets (wish (row_of reply due) old.reader) met v u
    → ClosesAt old new v u
passes_closed due reply later met shut old new v u at is_shut_by is leads meets =
    let is_met = shut_is met (sym is_shut_by ∙ is) in
    let found : Meets (wish (row_of reply due) old.reader) Shut v u = subst (λ (m : Met). Meets (wish (row_of reply due) old.reader) m v u) is_met meets in
    let is_row = only_arrivals (row_of reply due) old.reader v u found in
    record {
      later = later;
      todo = at ∙ ap (λ (row : Row). row ∷ later) is_row;
      leads = leads;
      meets = subst (λ (row : Row). Meets (wish row old.reader) Shut v u) is_row found;
    }

-- ---- a row keeps the inbox

kept_by : (now : ℕ) (told : ReaderOutput) (text : Option (List ℕ)) (met : Met) (old new : Position) (v u : LinkView) → PassesNext now told text met old new v u → new.reader.source ≡ old.reader.source
kept_by now told text met old new v u p =
    ap (λ (x : Reader). x.source) p.reader ∙ (row_nears (row_input now met) (rows.answer_of (wish p.row old.reader) met) (message_of met) p.row old.reader).source

keeps_source : (turn : RowOutcome) (now : ℕ) (old new : Position) (v u : LinkView) → PassesAt turn now old new v u → new.reader.source ≡ old.reader.source
keeps_source outcome.Silent now old new v u h = kept_by now Nothing None h.0 old new v u h.1
keeps_source outcome.Took now old new v u h = kept_by now Nothing None h.0 old new v u h.1
keeps_source (outcome.Hands message) now old new v u h = kept_by now (Hands message) None h.0 old new v u h.1
keeps_source (outcome.Tells kind text) now old new v u h = kept_by now (Tells kind) text h.0 old new v u h.1
keeps_source outcome.Closed now old new v u h = ap (λ (p : Position). p.reader.source) h.leads
keeps_source outcome.OutOfMemory now old new v u h = ap (λ (p : Position). p.reader.source) h.0

pub step_seen : (turn : RowOutcome) (now : ℕ) (old new : Position) (held kept : Option Message) (v u : LinkView) → kept ≡ held
    → PassesAt turn now old new v (seen held old.reader.source.inbox u) → PassesAt turn now old new v (seen kept new.reader.source.inbox u)
step_seen turn now old new held kept v u same h =
    subst (λ (w : LinkView). PassesAt turn now old new v w)
    (ap (λ (x : PullSource). seen held x.inbox u) (sym (keeps_source turn now old new v (seen held old.reader.source.inbox u) h))
    ∙ ap (λ (x : Option Message). seen x new.reader.source.inbox u) (sym same)) h

-- ---- the beginning of an event

seen_same : (held kept : Option Message) (r s : PullSource) (v : LinkView) → kept ≡ held → s ≡ r → seen kept s.inbox v ≡ seen held r.inbox v
seen_same held kept r s v e f = ap (λ (x : Option Message). seen x s.inbox v) e ∙ ap (λ (x : PullSource). seen held x.inbox v) f

pub begun_seen : (now : ℕ) (change : Option State) (old new : Position) (held kept : Option Message) (v : LinkView) → new ≡ begun now change old → kept ≡ held
    → Advanced now change old new (seen held old.reader.source.inbox v) (seen kept new.reader.source.inbox v)
begun_seen now change old new held kept v leads e =
    subst (λ (w : LinkView). Advanced now change old new (seen held old.reader.source.inbox v) w)
    (sym (seen_same held kept old.reader.source new.reader.source v e (begun_source now change old new leads)))
    (advanced_begun now change old new (seen held old.reader.source.inbox v) leads)

pub begins_seen : (now : ℕ) (old new : Position) (held kept : Option Message) (v u : LinkView) → BeginsAt now old new v u → kept ≡ held
    → BeginsAt now old new (seen held old.reader.source.inbox v) (seen kept new.reader.source.inbox u)
begins_seen now old new held kept v u begins e =
    subst (λ (w : LinkView). BeginsAt now old new (seen held old.reader.source.inbox v) w)
    (sym (seen_same held kept old.reader.source new.reader.source u e (begun_source now begins.change old new begins.leads)))
    (record {
      met = begins.met;
      change = begins.change;
      is = begins.is;
      meets = watch_is_seen begins.met held old.reader.source.inbox v u begins.meets;
      leads = begins.leads;
    })
