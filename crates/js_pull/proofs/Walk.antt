-- Row after row over a link: what a call of a stream has walked.
use Rattle.std.proofs.Common.{◌≡◌, ℕ, true, false, List, [], ◌∷◌, ◌++◌, Option, Some, None, refl, sym, ◌∙◌, ap, subst}
use Rattle.std.specs.Prelude.{unwrap_or}
use Rattle.js_base.specs.declared.message.Message.{Message}
use Rattle.js_base.specs.declared.message.State.{State}
use Rattle.js_base.specs.declared.message.State.TheVariants.{Pending, Connected, Disconnected}
use Rattle.js_link.specs.RowInput.{RowInput}
use Rattle.js_link.specs.LinkView.{LinkView}
use Rattle.js_link.specs.Wish.{row_input, message_of, IsClosing}
use Rattle.js_link.specs.declared.wish.Wish.{Wish}
use Rattle.js_link.specs.declared.wish.Wish.TheVariants.{Watches}
use Rattle.js_link.specs.declared.wish.Met.{Met}
use Rattle.js_link.specs.declared.wish.Met.TheVariants.{Unasked}
use Rattle.js_link.specs.declared.wish.Wish.TheVariants as wishes
use Rattle.js_link.specs.declared.wish.Met.TheVariants as meetings
use Rattle.js_link.specs.Meets.{Meets}
use Rattle.js_pull.specs.declared.reader.Reader.{Reader}
use Rattle.js_pull.specs.declared.reader.Row.{Row}
use Rattle.js_pull.specs.declared.reader.Row.TheVariants.{Begin, Ask, Threshold, Arm, Inquire, FailInfoRequest, CheckInfoRequest, Answered, CheckExpiry, CheckArrival, CheckSilence}
use Rattle.js_pull.specs.declared.reader.InfoRequest.{InfoRequest}
use Rattle.js_pull.specs.declared.reader.InfoRequest.TheVariants.{NoInfoRequest, Asked, Resting}
use Rattle.js_pull.specs.declared.reader.MessagesErrorKind.{MessagesErrorKind}
use Rattle.js_pull.specs.declared.reader.ReaderOutput.{ReaderOutput}
use Rattle.js_pull.specs.declared.reader.ReaderOutput.TheVariants.{Nothing, Hands, Tells}
use Rattle.js_pull.specs.Passes.{publishing}
use Rattle.js_pull.specs.Reader.{wish, answer_of, begin_row, is_asking, begin_change}
use Rattle.js_pull.specs.Reader as rows
use Rattle.js_pull.specs.Rows.{met_row}
use Rattle.js_pull.specs.Poll.{Position, Stride, PollAnswer, HandsOut, Fails, Ends, told_by, walk, step, passed_by, told_list, first_wish, wish_next, closed_at, last_arrival, text_of, text_source, HasSource, StopsAtFirst, IsOpen, change_met, IsStride, IsMet, IsCall}
use Rattle.js_pull.specs.Stream.{PassesNext, ClosesAt, IsText, begun_with}
use Rattle.js_pull.proofs.Ledger.{call_bounded}
use Rattle.js_pull.proofs.Cases.{if_each}
use Rattle.js_pull.proofs.Wishes.{begin_told}

-- ---- one stride

-- how a row is passed with what was met
abbrev pub stride_of : ℕ → Wish → Met → Option State → Stride
stride_of now wish met change = record { passing = row_input now met; change = change; answer = answer_of wish met; arrival = message_of met }

-- one row of a walk, which told this
pub record Strode (now : ℕ) (begins : Wish) (what : ReaderOutput) (met : Met) (old new : Position) (before after : LinkView) : Type 0 where
  pub stride : Stride
  pub is : IsStride now old.connection (wish_next begins old) met stride
  pub meets : Meets (wish_next begins old) met before after
  pub leads : new ≡ step stride old
  pub told : what ≡ (passed_by stride old).told
  pub arrival : stride.arrival ≡ message_of met

-- a row that the code has passed, as a stride; no event begins at it
pub record Passed (now : ℕ) (begins : Wish) (told : ReaderOutput) (met : Met) (old new : Position) (before after : LinkView) : Type 0 where
  pub strode : Strode now begins told met old new before after
  pub busy : old.todo ≡ [] → ⊥

abbrev pub place : Reader → List Row → State → Position
place reader todo connection = record { reader = reader; todo = todo; connection = connection }

pub three_parts : (r s : Reader) (xs ys : List Row) (c d : State) → r ≡ s → xs ≡ ys → c ≡ d → place r xs c ≡ place s ys d
three_parts r s xs ys c d e f h = ap (λ (x : Reader). place x xs c) e ∙ ap (λ (x : List Row). place s x c) f ∙ ap (λ (x : State). place s ys x) h

-- no row watches the connection but one that begins an event
unwatched_inquiry : (inquiry : InfoRequest) → rows.awaited inquiry ≡ Watches → ⊥
unwatched_inquiry NoInfoRequest e = cc
unwatched_inquiry (Asked request timeout failures) e = cc
unwatched_inquiry (Resting wait failures) e = cc

unwatched : (row : Row) (r : Reader) → wish row r ≡ Watches → ⊥
unwatched (Begin change) r e = cc
unwatched (Ask reason) r e = cc
unwatched Threshold r e = cc
unwatched Arm r e = cc
unwatched (Inquire failures) r e = cc
unwatched (FailInfoRequest failures) r e = cc
unwatched CheckInfoRequest r e = unwatched_inquiry r.inquiry e
unwatched (Answered reply failures) r e = cc
unwatched CheckExpiry r e = cc
unwatched CheckArrival r e = cc
unwatched CheckSilence r e = cc

row_strode : (now : ℕ) (begins : Wish) (told : ReaderOutput) (text : Option (List ℕ)) (met : Met) (r : Reader) (todo : List Row) (last : State) (new : Position) (v u : LinkView)
    (row : Row) (later : List Row) → todo ≡ row ∷ later → new.reader ≡ (met_row now row met r).reader → new.todo ≡ (met_row now row met r).next ++ later
    → new.connection ≡ last → told ≡ (met_row now row met r).told → IsOpen met → Meets (wish row r) met v u
    → Passed now begins told met (place r todo last) new v u
row_strode now begins told text met r todo last new v u row later at reader left kept tells is_open meets = rw at (record {
  strode = record {
    stride = stride_of now (wish row r) met None;
    is = record { is_open = is_open; passing = refl; change = λ watches. absurd (unwatched row r watches); answer = refl; arrival = refl };
    meets = meets;
    leads = three_parts new.reader (met_row now row met r).reader new.todo ((met_row now row met r).next ++ later) new.connection last reader left kept;
    told = tells;
    arrival = refl;
  };
  busy = λ e. never row later e;
})
  where
    never : (row : Row) (later : List Row) → row ∷ later ≡ [] → ⊥
    never row later e = cc

pub passes_next : (now : ℕ) (begins : Wish) (told : ReaderOutput) (text : Option (List ℕ)) (met : Met) (old new : Position) (v u : LinkView)
    → PassesNext now told text met old new v u → Passed now begins told met old new v u
passes_next now begins told text met old new v u p =
    row_strode now begins told text met old.reader old.todo old.connection new v u p.row p.later p.todo p.reader p.left p.connection p.told p.is_open p.meets

-- ---- the row that begins an event

change_tells : (p : RowInput) (change : Option State) (r : Reader) → Nothing ≡ (begin_change p change r).told
change_tells p None r = refl
change_tells p (Some Connected) r = refl
change_tells p (Some Pending) r = refl
change_tells p (Some Disconnected) r = refl

pub begin_tells : (p : RowInput) (change : Option State) (r : Reader) → Nothing ≡ (begin_row p change r).told
begin_tells p change r = if_each (λ (x : rows.Passed). Nothing ≡ x.told) r.ended _ _ (λ _. refl)
    (λ _. if_each (λ (x : rows.Passed). Nothing ≡ x.told) (is_asking r.inquiry) _ _ (λ _. refl) (λ _. change_tells p change r))

pub passing_now : (now : ℕ) (met : Met) → now ≡ (row_input now met).now
passing_now now (meetings.Requested number) = refl
passing_now now (meetings.Opened inbox subject) = refl
passing_now now meetings.Refused = refl
passing_now now met = refl

pub append_rows : (xs : List Row) → xs ≡ xs ++ []
append_rows [] = refl
append_rows (x ∷ xs) = ap (λ (ys : List Row). x ∷ ys) (append_rows xs)

-- an event that begins, as a stride
abbrev pub begun_strode : (now : ℕ) (begins : Wish) (met : Met) (change : Option State) (r : Reader) (last : State) (new : Position) (v u : LinkView)
    → (begins ≡ Watches → change ≡ change_met last met) → IsOpen met → Meets begins met v u → new ≡ begun_with now change r [] last → Strode now begins Nothing met (place r [] last) new v u
begun_strode now begins met change r last new v u is is_open meets leads =
    let same : begin_row (publishing now false) change r ≡ begin_row (row_input now met) change r = begin_told (publishing now false) (row_input now met) change r (passing_now now met) in
    record {
      stride = stride_of now begins met change;
      is = record { is_open = is_open; passing = refl; change = is; answer = refl; arrival = refl };
      meets = meets;
      leads = leads ∙ three_parts (begin_row (publishing now false) change r).reader (begin_row (row_input now met) change r).reader
          (begin_row (publishing now false) change r).next ((begin_row (row_input now met) change r).next ++ []) (unwrap_or change last) (unwrap_or change last)
          (ap (λ (x : rows.Passed). x.reader) same) (ap (λ (x : rows.Passed). x.next) same ∙ append_rows (begin_row (row_input now met) change r).next) refl;
      told = begin_tells (row_input now met) change r;
      arrival = refl;
    }

-- ---- a walk

-- rows that told nothing
pub record Walked (now : ℕ) (begins : Wish) (old at : Position) (before after : LinkView) : Type 0 where
  pub strides : List Stride
  pub leads : at ≡ (walk strides old).position
  pub met : IsMet now Meets begins strides old before after
  pub told : (walk strides old).told ≡ []

pub walk_more : (strides : List Stride) (s : Stride) (at : Position) → (walk (strides ++ s ∷ []) at).position ≡ step s (walk strides at).position
walk_more [] s at = refl
walk_more (x ∷ strides) s at = walk_more strides s (step x at)

pub told_more : (strides : List Stride) (s : Stride) (at : Position) → (walk (strides ++ s ∷ []) at).told ≡ (walk strides at).told ++ told_list (passed_by s (walk strides at).position).told
told_more [] s at = append_nil (told_list (passed_by s at).told)
  where
    append_nil : (xs : List ReaderOutput) → xs ++ [] ≡ xs
    append_nil [] = refl
    append_nil (x ∷ xs) = ap (λ (ys : List ReaderOutput). x ∷ ys) (append_nil xs)
told_more (x ∷ strides) s at =
    ap (λ (ys : List ReaderOutput). told_list (passed_by x at).told ++ ys) (told_more strides s (step x at))
    ∙ sym (append_told (told_list (passed_by x at).told) (walk strides (step x at)).told (told_list (passed_by s (walk strides (step x at)).position).told))
  where
    append_told : (xs ys zs : List ReaderOutput) → (xs ++ ys) ++ zs ≡ xs ++ (ys ++ zs)
    append_told [] ys zs = refl
    append_told (x ∷ xs) ys zs = ap (λ (ws : List ReaderOutput). x ∷ ws) (append_told xs ys zs)

pub met_more : (now : ℕ) (begins : Wish) (strides : List Stride) (s : Stride) (met : Met) (at : Position) (v u w : LinkView)
    → IsMet now Meets begins strides at v u
    → IsStride now (walk strides at).position.connection (wish_next begins (walk strides at).position) met s → Meets (wish_next begins (walk strides at).position) met u w
    → IsMet now Meets begins (strides ++ s ∷ []) at v w
met_more now begins [] s met at v u w e is meets = (met, w, is, subst (λ (x : LinkView). Meets (wish_next begins at) met x w) e meets, refl)
met_more now begins (x ∷ strides) s met at v u w (met', between, is', meets', rest) is meets =
    (met', between, is', meets', met_more now begins strides s met (step x at) between u w rest is meets)

pub last_more : (strides : List Stride) (s : Stride) → last_arrival (strides ++ s ∷ []) ≡ s.arrival
last_more [] s = refl
last_more (x ∷ []) s = refl
last_more (x ∷ y ∷ strides) s = last_more (y ∷ strides) s

no_left : (t : ReaderOutput) (xs : List ReaderOutput) → told_list t ++ xs ≡ [] → t ≡ Nothing
no_left Nothing xs e = refl
no_left (Hands message) xs e = cc
no_left (Tells kind) xs e = cc

pub no_right : (xs ys : List ReaderOutput) → xs ++ ys ≡ [] → ys ≡ []
no_right [] ys e = e
no_right (x ∷ xs) ys e = cc

-- silent rows, and one more
stops_more : (strides : List Stride) (s : Stride) (at : Position) → (walk strides at).told ≡ [] → StopsAtFirst (strides ++ s ∷ []) at
stops_more [] s at e = tt
stops_more (x ∷ []) s at e = (no_left (passed_by x at).told [] e, tt)
stops_more (x ∷ y ∷ strides) s at e = (
  no_left (passed_by x at).told (walk (y ∷ strides) (step x at)).told e,
  stops_more (y ∷ strides) s (step x at) (no_right (told_list (passed_by x at).told) (walk (y ∷ strides) (step x at)).told e),
)

stops_silent : (strides : List Stride) (at : Position) → (walk strides at).told ≡ [] → StopsAtFirst strides at
stops_silent [] at e = tt
stops_silent (x ∷ []) at e = tt
stops_silent (x ∷ y ∷ strides) at e = (
  no_left (passed_by x at).told (walk (y ∷ strides) (step x at)).told e,
  stops_silent (y ∷ strides) (step x at) (no_right (told_list (passed_by x at).told) (walk (y ∷ strides) (step x at)).told e),
)

-- no row yet
abbrev pub walked_none : (now : ℕ) (begins : Wish) (old : Position) (v : LinkView) → Walked now begins old old v v
walked_none now begins old v = record { strides = []; leads = refl; met = refl; told = refl }

pub strode_at : (now : ℕ) (begins : Wish) (told : ReaderOutput) (met : Met) (at bt new : Position) (v u : LinkView) → at ≡ bt → (s : Strode now begins told met at new v u)
    → IsStride now bt.connection (wish_next begins bt) met s.stride × Meets (wish_next begins bt) met v u × (new ≡ step s.stride bt) × (told ≡ (passed_by s.stride bt).told)
strode_at now begins told met at bt new v u e s =
    subst (λ (p : Position). IsStride now p.connection (wish_next begins p) met s.stride × Meets (wish_next begins p) met v u × (new ≡ step s.stride p) × (told ≡ (passed_by s.stride p).told)) e
    (s.is, s.meets, s.leads, s.told)

-- one row more
abbrev pub walked_more : (now : ℕ) (begins : Wish) (met : Met) (old at new : Position) (v u w : LinkView)
    → Walked now begins old at v u → Strode now begins Nothing met at new u w → Walked now begins old new v w
walked_more now begins met old at new v u w walked s =
    let at_end = strode_at now begins Nothing met at (walk walked.strides old).position new u w walked.leads s in
    record {
      strides = walked.strides ++ s.stride ∷ [];
      leads = at_end.2 ∙ sym (walk_more walked.strides s.stride old);
      met = met_more now begins walked.strides s.stride met old v u w walked.met at_end.0 at_end.1;
      told = told_more walked.strides s.stride old ∙ ap (λ (xs : List ReaderOutput). xs ++ told_list (passed_by s.stride (walk walked.strides old).position).told) walked.told
          ∙ ap told_list (sym at_end.3);
    }

-- ---- calls

has_source : (kind : MessagesErrorKind) (text : Option (List ℕ)) (message : Option Message) (strides : List Stride) → IsText (Tells kind) text message
    → last_arrival strides ≡ message → HasSource (Fails kind (text_source text)) strides
has_source kind text message strides is last = ap text_source (is ∙ ap (text_of kind) (sym last))

call_last : (now : ℕ) (begins : Wish) (told : ReaderOutput) (answer : PollAnswer) (met : Met) (old at new : Position) (v u w : LinkView)
    → (walked : Walked now begins old at v u) (s : Strode now begins told met at new u w)
    → told_list told ≡ told_by answer → HasSource answer (walked.strides ++ s.stride ∷ [])
    → IsCall Meets now begins (walked.strides ++ s.stride ∷ []) false old new v w answer
call_last now begins told answer met old at new v u w walked s same source =
    let at_end = strode_at now begins told met at (walk walked.strides old).position new u w walked.leads s in
    let leads : new ≡ (walk (walked.strides ++ s.stride ∷ []) old).position = at_end.2 ∙ sym (walk_more walked.strides s.stride old) in
    record {
      leads = leads;
      between = w;
      met = met_more now begins walked.strides s.stride met old v u w walked.met at_end.0 at_end.1;
      closing = refl;
      told = told_more walked.strides s.stride old ∙ ap (λ (xs : List ReaderOutput). xs ++ told_list (passed_by s.stride (walk walked.strides old).position).told) walked.told
          ∙ ap told_list (sym at_end.3) ∙ same;
      stops = stops_more walked.strides s.stride old walked.told;
      source = source;
      bounded = call_bounded (walked.strides ++ s.stride ∷ []) false old new leads;
    }

-- a message is handed out
pub call_hands : (now : ℕ) (begins : Wish) (message : Message) (met : Met) (old at new : Position) (v u w : LinkView)
    → (walked : Walked now begins old at v u) (s : Strode now begins (Hands message) met at new u w)
    → IsCall Meets now begins (walked.strides ++ s.stride ∷ []) false old new v w (HandsOut message)
call_hands now begins message met old at new v u w walked s = call_last now begins (Hands message) (HandsOut message) met old at new v u w walked s refl tt

-- an error is told
pub call_tells : (now : ℕ) (begins : Wish) (kind : MessagesErrorKind) (text : Option (List ℕ)) (met : Met) (old at new : Position) (v u w : LinkView)
    → (walked : Walked now begins old at v u) (s : Strode now begins (Tells kind) met at new u w) → IsText (Tells kind) text (message_of met)
    → IsCall Meets now begins (walked.strides ++ s.stride ∷ []) false old new v w (Fails kind (text_source text))
call_tells now begins kind text met old at new v u w walked s is =
    call_last now begins (Tells kind) (Fails kind (text_source text)) met old at new v u w walked s refl
    (has_source kind text (message_of met) (walked.strides ++ s.stride ∷ []) is (last_more walked.strides s.stride ∙ s.arrival))

-- a call that stops where it stands
pub call_stops : (now : ℕ) (begins : Wish) (answer : PollAnswer) (old at : Position) (v u : LinkView) → (walked : Walked now begins old at v u)
    → [] ≡ told_by answer → HasSource answer walked.strides → IsCall Meets now begins walked.strides false old at v u answer
call_stops now begins answer old at v u walked none source = record {
  leads = walked.leads;
  between = u;
  met = walked.met;
  closing = refl;
  told = walked.told ∙ none;
  stops = stops_silent walked.strides old walked.told;
  source = source;
  bounded = call_bounded walked.strides false old at walked.leads;
}

closing_at : (begins : Wish) (at : Position) (later : List Row) (v u : LinkView) → at.todo ≡ CheckArrival ∷ later → Meets (wishes.Reads at.reader.source.inbox) meetings.Shut v u
    → IsClosing Meets (wish_next begins at) true v u
closing_at begins at later v u e m = by_rows at.reader at.todo e m
  where
    by_rows : (r : Reader) (todo : List Row) → todo ≡ CheckArrival ∷ later → Meets (wishes.Reads r.source.inbox) meetings.Shut v u → IsClosing Meets (first_wish begins todo r) true v u
    by_rows r todo e m = rw e m

-- a call that finds the inbox closed
pub call_closes : (now : ℕ) (begins : Wish) (old at new : Position) (v u w : LinkView) → (walked : Walked now begins old at v u) → ClosesAt at new u w
    → IsCall Meets now begins walked.strides true old new v w Ends
call_closes now begins old at new v u w walked closes =
    let leads : new ≡ closed_at true (walk walked.strides old).position = closes.leads ∙ ap (closed_at true) walked.leads in
    record {
      leads = leads;
      between = u;
      met = walked.met;
      closing = subst (λ (p : Position). IsClosing Meets (wish_next begins p) true u w) walked.leads (closing_at begins at closes.later u w closes.todo closes.meets);
      told = walked.told;
      stops = stops_silent walked.strides old walked.told;
      source = tt;
      bounded = call_bounded walked.strides true old new leads;
    }
