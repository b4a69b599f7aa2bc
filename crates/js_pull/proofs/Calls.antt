-- What the two calls of a stream answer.
use Rattle.std.proofs.Common.{◌≡◌, ℕ, Bool, true, false, List, [], ◌∷◌, ◌++◌, Option, None, refl, sym, ◌∙◌, ap, subst, append_assoc}
use Rattle.std.specs.Prelude.{◌↔◌, Some, is_some}
use Rattle.std.specs.List.{AllByRecursion}
use Rattle.js_base.specs.declared.message.Message.{Message}
use Rattle.js_base.specs.declared.message.State.{State}
use Rattle.js_link.specs.LinkView.{LinkView}
use Rattle.js_link.specs.Wish.{message_of}
use Rattle.js_link.specs.declared.wish.Wish.TheVariants.{Watches}
use Rattle.js_link.specs.declared.wish.Met.{Met}
use Rattle.js_link.specs.declared.wish.Met.TheVariants.{Unasked, Took, Stands, WatchOver}
use Rattle.js_link.specs.declared.wish.Wish.TheVariants as wishes
use Rattle.js_link.specs.declared.wish.Met.TheVariants as meetings
use Rattle.js_link.specs.Meets.{Meets}
use Rattle.js_pull.specs.declared.reader.Reader.{Reader}
use Rattle.js_pull.specs.declared.reader.Row.{Row}
use Rattle.js_pull.specs.declared.reader.MessagesErrorKind.{MessagesErrorKind}
use Rattle.js_pull.specs.declared.reader.ReaderOutput.TheVariants.{Nothing, Hands, Tells}
use Rattle.js_pull.specs.declared.remaining_rows.RemainingRows.{RemainingRows}
use Rattle.js_pull.specs.declared.rows.Due.{Due}
use Rattle.js_pull.specs.Poll.{Position, Stride, PollAnswer, HandsOut, Fails, Waits, Ends, Lacks, walk, step, IsWithin, IsOneEvent, IsQuietEvent, IsAdvance, IsPoll, IsOpen, text_source}
use Rattle.js_pull.specs.Stream.{PassesNext, ClosesAt, BeginsAt, FirstOf, begun, begun_with, is_took, left_rows}
use Rattle.js_pull.proofs.Walk.{place, Strode, Walked, no_right, walked_none, walked_more, passes_next, begun_strode, call_hands, call_tells, call_stops, call_closes}

-- nothing is left where there is no next row
pub none_left : (first : Option Due) (left : RemainingRows) → FirstOf first left → first ≡ None → left_rows left ≡ []
none_left first left is none = subst (λ (due : Option Due). FirstOf due left) none is

append_some : (xs : List Stride) (s : Stride) → xs ++ s ∷ [] ≡ [] → ⊥
append_some [] s e = cc
append_some (x ∷ xs) s e = cc

-- ---- advance

within_more : (strides : List Stride) (s : Stride) (at : Position) → IsWithin strides at → ((walk strides at).position.todo ≡ [] → ⊥) → IsWithin (strides ++ s ∷ []) at
within_more [] s at h busy = (busy, tt)
within_more (x ∷ strides) s at h busy = (h.0, within_more strides s (step x at) h.1 busy)

pub event_more : (change : Option State) (strides : List Stride) (s : Stride) (old at : Position) → at ≡ (walk strides old).position → IsOneEvent change strides old → (at.todo ≡ [] → ⊥)
    → IsOneEvent change (strides ++ s ∷ []) old
event_more change [] s old at leads h busy = ((λ e. absurd (busy (ap (λ (p : Position). p.todo) leads ∙ e))), tt)
event_more change (x ∷ strides) s old at leads h busy =
    (h.0, within_more strides s (step x old) h.1 (λ e. busy (ap (λ (p : Position). p.todo) leads ∙ e)))

-- within one event
pub record Advanced (now : ℕ) (change : Option State) (old at : Position) (before after : LinkView) : Type 0 where
  pub walked : Walked now wishes.Nothing old at before after
  pub event : IsOneEvent change walked.strides old
  pub begun : at.todo ≡ [] → walked.strides ≡ [] → ⊥

pub advanced_begun : (now : ℕ) (change : Option State) (old new : Position) (v : LinkView) → new ≡ begun now change old → Advanced now change old new v v
advanced_begun now change old new v leads = by_rows old.reader old.todo leads
  where
    by_rows : (r : Reader) (todo : List Row) → new ≡ begun_with now change r todo old.connection → Advanced now change (place r todo old.connection) new v v
    by_rows r [] leads = record {
      walked = walked_more now wishes.Nothing Unasked (place r [] old.connection) (place r [] old.connection) new v v v
          (walked_none now wishes.Nothing (place r [] old.connection) v)
          (begun_strode now wishes.Nothing Unasked change r old.connection new v v (λ e. absurd (never e)) tt refl leads);
      event = ((λ _. refl), tt);
      begun = λ _ e. one e;
    }
      where
        never : wishes.Nothing ≡ Watches → ⊥
        never e = cc

        one : {s : Stride} → s ∷ [] ≡ [] → ⊥
        one e = cc
    by_rows r (row ∷ rows) leads =
        subst (λ (p : Position). Advanced now change (place r (row ∷ rows) old.connection) p v v) (sym leads)
        (record { walked = walked_none now wishes.Nothing (place r (row ∷ rows) old.connection) v; event = tt; begun = λ e _. more row rows e })
      where
        more : (row : Row) (rows : List Row) → row ∷ rows ≡ [] → ⊥
        more row rows e = cc

pub advanced_more : (now : ℕ) (change : Option State) (text : Option (List ℕ)) (met : Met) (old at new : Position) (v u w : LinkView)
    → Advanced now change old at v u → PassesNext now Nothing text met at new u w → Advanced now change old new v w
advanced_more now change text met old at new v u w a p =
    let one = passes_next now wishes.Nothing Nothing text met at new u w p in
    record {
      walked = walked_more now wishes.Nothing met old at new v u w a.walked one.strode;
      event = event_more change a.walked.strides one.strode.stride old at a.walked.leads a.event one.busy;
      begun = λ _. append_some a.walked.strides one.strode.stride;
    }

abbrev pub Answered : ℕ → Option State → Position → Position → LinkView → LinkView → PollAnswer → Type 0
Answered now change old new v u answer = IsAdvance Meets now change old new v u answer

no_end : (a : PollAnswer) → (a ≡ Ends → ⊥) → (a ≡ Ends) ↔ (false ≡ true)
no_end a h = ((λ e. absurd (h e)), (λ e. absurd (never e)))
  where
    never : false ≡ true → ⊥
    never e = cc

pub advance_hands : (now : ℕ) (change : Option State) (message : Message) (met : Met) (old at new : Position) (v u w : LinkView)
    → Advanced now change old at v u → PassesNext now (Hands message) None met at new u w → Answered now change old new v w (HandsOut message)
advance_hands now change message met old at new v u w a p =
    let one = passes_next now wishes.Nothing (Hands message) None met at new u w p in
    record {
      strides = a.walked.strides ++ one.strode.stride ∷ [];
      closed = false;
      call = call_hands now wishes.Nothing message met old at new v u w a.walked one.strode;
      within = event_more change a.walked.strides one.strode.stride old at a.walked.leads a.event one.busy;
      ended = no_end (HandsOut message) (λ e. not_end e);
      done = λ e. absurd (not_waits e);
    }
  where
    not_end : HandsOut message ≡ Ends → ⊥
    not_end e = cc

    not_waits : HandsOut message ≡ Waits → ⊥
    not_waits e = cc

pub advance_tells : (now : ℕ) (change : Option State) (kind : MessagesErrorKind) (text : Option (List ℕ)) (answer : PollAnswer) (met : Met) (old at new : Position) (v u w : LinkView)
    → answer ≡ Fails kind (text_source text)
    → Advanced now change old at v u → PassesNext now (Tells kind) text met at new u w → Answered now change old new v w answer
advance_tells now change kind text answer met old at new v u w is a p =
    let one = passes_next now wishes.Nothing (Tells kind) text met at new u w p in
    subst (λ (x : PollAnswer). Answered now change old new v w x) (sym is) (record {
      strides = a.walked.strides ++ one.strode.stride ∷ [];
      closed = false;
      call = call_tells now wishes.Nothing kind text met old at new v u w a.walked one.strode p.text;
      within = event_more change a.walked.strides one.strode.stride old at a.walked.leads a.event one.busy;
      ended = no_end (Fails kind (text_source text)) (λ e. not_end e);
      done = λ e. absurd (not_waits e);
    })
  where
    not_end : Fails kind (text_source text) ≡ Ends → ⊥
    not_end e = cc

    not_waits : Fails kind (text_source text) ≡ Waits → ⊥
    not_waits e = cc

pub advance_done : (now : ℕ) (change : Option State) (old at : Position) (v u : LinkView) → Advanced now change old at v u → at.todo ≡ [] → Answered now change old at v u Waits
advance_done now change old at v u a rests = record {
  strides = a.walked.strides;
  closed = false;
  call = call_stops now wishes.Nothing Waits old at v u a.walked refl tt;
  within = a.event;
  ended = no_end Waits (λ e. not_end e);
  done = λ _. (a.begun rests, rests);
}
  where
    not_end : Waits ≡ Ends → ⊥
    not_end e = cc

pub advance_lacks : (now : ℕ) (change : Option State) (old at new : Position) (v u w : LinkView) → Advanced now change old at v u → (new ≡ at) × (w ≡ u) → Answered now change old new v w Lacks
advance_lacks now change old at new v u w a same =
    subst (λ (p : Position). Answered now change old p v w Lacks) (sym same.0) (subst (λ (x : LinkView). Answered now change old at v x Lacks) (sym same.1) (record {
      strides = a.walked.strides;
      closed = false;
      call = call_stops now wishes.Nothing Lacks old at v u a.walked refl tt;
      within = a.event;
      ended = no_end Lacks (λ e. not_end e);
      done = λ e. absurd (not_waits e);
    }))
  where
    not_end : Lacks ≡ Ends → ⊥
    not_end e = cc

    not_waits : Lacks ≡ Waits → ⊥
    not_waits e = cc

pub advance_closes : (now : ℕ) (change : Option State) (old at new : Position) (v u w : LinkView) → Advanced now change old at v u → ClosesAt at new u w → Answered now change old new v w Ends
advance_closes now change old at new v u w a closes = record {
  strides = a.walked.strides;
  closed = true;
  call = call_closes now wishes.Nothing old at new v u w a.walked closes;
  within = a.event;
  ended = ((λ _. refl), (λ _. refl));
  done = λ e. absurd (not_waits e);
}
  where
    not_waits : Ends ≡ Waits → ⊥
    not_waits e = cc

-- ---- poll_next

-- the last rows are those of an event that has taken no message
pub record Event (strides : List Stride) (old : Position) : Type 0 where
  pub first : List Stride
  pub last : List Stride
  pub parts : strides ≡ first ++ last
  pub some : last ≡ [] → ⊥
  pub rested : (walk first old).position.todo ≡ []
  pub empty : AllByRecursion (λ (stride : Stride). stride.arrival ≡ None) last

pub record Polled (now : ℕ) (quiet : Bool) (old at : Position) (before after : LinkView) : Type 0 where
  pub walked : Walked now Watches old at before after
  pub event : quiet ≡ true → Event walked.strides old

all_more : (xs : List Stride) (s : Stride) → AllByRecursion (λ (stride : Stride). stride.arrival ≡ None) xs → s.arrival ≡ None → AllByRecursion (λ (stride : Stride). stride.arrival ≡ None) (xs ++ s ∷ [])
all_more [] s h e = (e, tt)
all_more (x ∷ xs) s h e = (h.0, all_more xs s h.1 e)

event_goes_on : (strides : List Stride) (s : Stride) (old : Position) → Event strides old → s.arrival ≡ None → Event (strides ++ s ∷ []) old
event_goes_on strides s old e none = record {
  first = e.first;
  last = e.last ++ s ∷ [];
  parts = ap (λ (xs : List Stride). xs ++ s ∷ []) e.parts ∙ append_assoc e.first e.last (s ∷ []);
  some = append_some e.last s;
  rested = e.rested;
  empty = all_more e.last s e.empty none;
}

untaken : (met : Met) → is_took met ≡ false → message_of met ≡ None
untaken met e = by_message (message_of met) e
  where
    by_message : (o : Option Message) → is_some o ≡ false → o ≡ None
    by_message None e = refl
    by_message (Some message) e = cc

watch_untaken : (met : Met) (v u : LinkView) → Meets Watches met v u → message_of met ≡ None
watch_untaken (Took message) v u m = absurd m
watch_untaken met v u m = refl

watch_open : (met : Met) (v u : LinkView) → Meets Watches met v u → IsOpen met
watch_open meetings.Shut v u m = absurd m
watch_open met v u m = tt

false_true : false ≡ true → ⊥
false_true e = cc

pub polled_none : (now : ℕ) (old : Position) (v : LinkView) → Polled now false old old v v
polled_none now old v = record { walked = walked_none now Watches old v; event = λ e. absurd (false_true e) }

pub polled_begun : (now : ℕ) (quiet : Bool) (old at new : Position) (v u w : LinkView) → Polled now quiet old at v u → at.todo ≡ [] → BeginsAt now at new u w → Polled now true old new v w
polled_begun now quiet old at new v u w p rests begins =
    let strode = strode_at at.reader at.todo rests begins.leads in
    record {
      walked = walked_more now Watches begins.met old at new v u w p.walked strode;
      event = λ _. record {
        first = p.walked.strides;
        last = strode.stride ∷ [];
        parts = refl;
        some = append_some [] strode.stride;
        rested = ap (λ (x : Position). x.todo) (sym p.walked.leads) ∙ rests;
        empty = (strode.arrival ∙ watch_untaken begins.met u w begins.meets, tt);
      };
    }
  where
    strode_at : (r : Reader) (todo : List Row) → todo ≡ [] → new ≡ begun_with now begins.change r todo at.connection → Strode now Watches Nothing begins.met (place r todo at.connection) new u w
    strode_at r todo e leads =
        subst (λ (xs : List Row). Strode now Watches Nothing begins.met (place r xs at.connection) new u w) (sym e)
        (begun_strode now Watches begins.met begins.change r at.connection new u w (λ _. begins.is) (watch_open begins.met u w begins.meets) begins.meets
        (leads ∙ ap (λ (xs : List Row). begun_with now begins.change r xs at.connection) e))

pub polled_silent : (now : ℕ) (quiet : Bool) (text : Option (List ℕ)) (met : Met) (old at new : Position) (v u w : LinkView)
    → Polled now quiet old at v u → PassesNext now Nothing text met at new u w → is_took met ≡ false → Polled now quiet old new v w
polled_silent now quiet text met old at new v u w p passes none =
    let one = passes_next now Watches Nothing text met at new u w passes in
    record {
      walked = walked_more now Watches met old at new v u w p.walked one.strode;
      event = λ is. event_goes_on p.walked.strides one.strode.stride old (p.event is) (one.strode.arrival ∙ untaken met none);
    }

pub polled_took : (now : ℕ) (quiet : Bool) (text : Option (List ℕ)) (met : Met) (old at new : Position) (v u w : LinkView)
    → Polled now quiet old at v u → PassesNext now Nothing text met at new u w → Polled now false old new v w
polled_took now quiet text met old at new v u w p passes =
    let one = passes_next now Watches Nothing text met at new u w passes in
    record { walked = walked_more now Watches met old at new v u w p.walked one.strode; event = λ e. absurd (false_true e) }

abbrev pub Polls : ℕ → Position → Position → LinkView → LinkView → PollAnswer → Type 0
Polls now old new v u answer = IsPoll Meets now old new v u answer

pub poll_hands : (now : ℕ) (quiet : Bool) (message : Message) (met : Met) (old at new : Position) (v u w : LinkView)
    → Polled now quiet old at v u → PassesNext now (Hands message) None met at new u w → Polls now old new v w (HandsOut message)
poll_hands now quiet message met old at new v u w p passes =
    let one = passes_next now Watches (Hands message) None met at new u w passes in
    record {
      strides = p.walked.strides ++ one.strode.stride ∷ [];
      closed = false;
      call = call_hands now Watches message met old at new v u w p.walked one.strode;
      ended = λ e. absurd (not_end e);
      alive = λ e. absurd (not_waits e);
      waits = λ e. absurd (not_waits e);
    }
  where
    not_end : HandsOut message ≡ Ends → ⊥
    not_end e = cc

    not_waits : HandsOut message ≡ Waits → ⊥
    not_waits e = cc

pub poll_tells : (now : ℕ) (quiet : Bool) (kind : MessagesErrorKind) (text : Option (List ℕ)) (answer : PollAnswer) (met : Met) (old at new : Position) (v u w : LinkView)
    → answer ≡ Fails kind (text_source text)
    → Polled now quiet old at v u → PassesNext now (Tells kind) text met at new u w → Polls now old new v w answer
poll_tells now quiet kind text answer met old at new v u w is p passes =
    let one = passes_next now Watches (Tells kind) text met at new u w passes in
    subst (λ (x : PollAnswer). Polls now old new v w x) (sym is) (record {
      strides = p.walked.strides ++ one.strode.stride ∷ [];
      closed = false;
      call = call_tells now Watches kind text met old at new v u w p.walked one.strode passes.text;
      ended = λ e. absurd (not_end e);
      alive = λ e. absurd (not_waits e);
      waits = λ e. absurd (not_waits e);
    })
  where
    not_end : Fails kind (text_source text) ≡ Ends → ⊥
    not_end e = cc

    not_waits : Fails kind (text_source text) ≡ Waits → ⊥
    not_waits e = cc

ends_waits : Ends ≡ Waits → ⊥
ends_waits e = cc

waits_ends : Waits ≡ Ends → ⊥
waits_ends e = cc

lacks_ends : Lacks ≡ Ends → ⊥
lacks_ends e = cc

lacks_waits : Lacks ≡ Waits → ⊥
lacks_waits e = cc

pub poll_ends : (now : ℕ) (quiet : Bool) (old at : Position) (v u : LinkView) → Polled now quiet old at v u → at.reader.ended ≡ true → Polls now old at v u Ends
poll_ends now quiet old at v u p ended = record {
  strides = p.walked.strides;
  closed = false;
  call = call_stops now Watches Ends old at v u p.walked refl tt;
  ended = λ _. ended;
  alive = λ e. absurd (ends_waits e);
  waits = λ e. absurd (ends_waits e);
}

pub poll_closes : (now : ℕ) (quiet : Bool) (old at new : Position) (v u w : LinkView) → Polled now quiet old at v u → ClosesAt at new u w → Polls now old new v w Ends
poll_closes now quiet old at new v u w p closes = record {
  strides = p.walked.strides;
  closed = true;
  call = call_closes now Watches old at new v u w p.walked closes;
  ended = λ _. ap (λ (x : Position). x.reader.ended) closes.leads;
  alive = λ e. absurd (ends_waits e);
  waits = λ e. absurd (ends_waits e);
}

pub poll_lacks : (now : ℕ) (quiet : Bool) (old at new : Position) (v u w : LinkView) → Polled now quiet old at v u → (new ≡ at) × (w ≡ u) → Polls now old new v w Lacks
poll_lacks now quiet old at new v u w p same =
    subst (λ (x : Position). Polls now old x v w Lacks) (sym same.0) (subst (λ (x : LinkView). Polls now old at v x Lacks) (sym same.1) (record {
      strides = p.walked.strides;
      closed = false;
      call = call_stops now Watches Lacks old at v u p.walked refl tt;
      ended = λ e. absurd (lacks_ends e);
      alive = λ e. absurd (lacks_waits e);
      waits = λ e. absurd (lacks_waits e);
    }))

pub walk_append : (xs ys : List Stride) (at : Position) → (walk (xs ++ ys) at).position ≡ (walk ys (walk xs at).position).position
walk_append [] ys at = refl
walk_append (x ∷ xs) ys at = walk_append xs ys (step x at)

told_right : (xs ys : List Stride) (at : Position) → (walk (xs ++ ys) at).told ≡ [] → (walk ys (walk xs at).position).told ≡ []
told_right [] ys at e = e
told_right (x ∷ xs) ys at e = told_right xs ys (step x at) (no_right _ (walk (xs ++ ys) (step x at)).told e)

quiet_event : (strides : List Stride) (old at : Position) → Event strides old → at ≡ (walk strides old).position → (walk strides old).told ≡ [] → at.todo ≡ []
    → (first : List Stride) × (last : List Stride) × (strides ≡ first ++ last) × IsQuietEvent last (walk first old).position
quiet_event strides old at e leads told rests = (
  e.first,
  e.last,
  e.parts,
  (
    e.some,
    e.rested,
    ap (λ (x : Position). x.todo) (sym (leads ∙ ap (λ (xs : List Stride). (walk xs old).position) e.parts ∙ walk_append e.first e.last old)) ∙ rests,
    told_right e.first e.last old (ap (λ (xs : List Stride). (walk xs old).told) (sym e.parts) ∙ told),
    e.empty,
  ),
)

pub poll_waits : (now : ℕ) (quiet : Bool) (old at : Position) (v u : LinkView) → Polled now quiet old at v u → quiet ≡ true → at.todo ≡ [] → at.reader.ended ≡ false → Polls now old at v u Waits
poll_waits now quiet old at v u p is rests alive = record {
  strides = p.walked.strides;
  closed = false;
  call = call_stops now Watches Waits old at v u p.walked refl tt;
  ended = λ e. absurd (waits_ends e);
  alive = λ _. alive;
  waits = λ _. quiet_event p.walked.strides old at (p.event is) p.walked.leads p.walked.told rests;
}
