-- Row after row: what a poll has walked, and what it answers then.
use Rattle.std.proofs.Common.{◌≡◌, ℕ, Bool, true, false, List, [], ◌∷◌, ◌++◌, ◌⊎◌, inl, inr, Option, Some, None, refl, sym, ap, ◌∙◌, subst}
use Rattle.std.specs.Prelude.{◌≢◌, ◌↔◌, not, ◌&&◌, ◌||◌, is_some, option_map, Result, Err}
use Rattle.js_base.specs.declared.message.Message.{Message}
use Rattle.js_link.specs.LinkView.{LinkView}
use Rattle.js_link.specs.Meets.{Meets}
use Rattle.js_link.specs.Wish.{row_input, IsClosing, message_of, is_shut}
use Rattle.js_link.specs.declared.wish.Wish.{Wish}
use Rattle.js_link.specs.declared.wish.Wish.TheVariants.{Nothing, OpensInbox, Watches, Publishes, Requests, Drops, Reads, Awaits}
use Rattle.js_link.specs.declared.wish.Met.{Met}
use Rattle.js_link.specs.declared.wish.Met.TheVariants.{Took}
use Rattle.js_ordered_table.specs.declared.consumer.ReplayInput.{ReplayInput}
use Rattle.js_ordered_table.specs.declared.consumer.Phase.{Phase}
use Rattle.js_ordered_table.specs.declared.consumer.Phase.TheVariants.{Pulls, Pushes, Recreates, Idle, Ended, Exhausted}
use Rattle.js_ordered_table.specs.declared.row.Arrival.{Arrival}
use Rattle.js_ordered_table.specs.declared.row.Row.{Row}
use Rattle.js_ordered_table.specs.declared.row.Row.TheVariants.{Hear}
use Rattle.js_ordered_stream.specs.Rows.{seen_by}
use Rattle.js_ordered_table.specs.declared.run.ItemKind.{ItemKind}
use Rattle.js_ordered_table.specs.declared.run.ItemKind.TheVariants as item
use Rattle.js_ordered_table.specs.declared.run.Output.{Output}
use Rattle.js_ordered_table.specs.Fold.{is_over}
use Rattle.js_ordered_stream.specs.declared.error.OrderedErrorKind.{OrderedErrorKind}
use Rattle.js_ordered_stream.specs.declared.error.OrderedErrorKind.TheVariants as error
use Rattle.js_ordered_stream.specs.declared.ordered.RowOutcome.{RowOutcome}
use Rattle.js_ordered_stream.specs.declared.ordered.RowOutcome.TheVariants as turns
use Rattle.js_base.specs.declared.error.Error.{Error}
use Rattle.js_base.specs.declared.turn.Next.{Next}
use Rattle.js_base.specs.declared.turn.Next.TheVariants as next
use Rattle.js_base.specs.Error.{kind_of, source_of}
use Rattle.js_ordered_stream.specs.Ordered.{PassesNext, PollsWithSource, ComesTo, error_kind, handing, is_given, told_of, is_spent, source_by, step_met, stride_met, stirring}
use Rattle.js_ordered_table.specs.Poll.{Answer, Yields, Tells, HandsEnd, Waits, Ends, Lacks, IsPoll, IsMet, IsQuietRow, AreQuiet, IsQuietTurn, IsTaken, StopsAtFirst, last_arrival, looked_at, poll_wish, closed_at, handed_by}
use Rattle.js_ordered_table.specs.Walk.{Position, Stride, IsStride, step, walk, handed, first_row}
use Rattle.js_ordered_table.specs.Wishes.{arrival_of, matter_of}
use Rattle.js_ordered_table.proofs.Polls.{poll_gapless}
use Rattle.js_ordered_table.proofs.Walk.{handed_append, walk_append}

-- ---- lists of strides

no_left : (xs ys : List Output) → xs ++ ys ≡ [] → xs ≡ []
no_left [] ys e = refl
no_left (x ∷ xs) ys e = absurd (let h = e in cc)

no_right : (xs ys : List Output) → xs ++ ys ≡ [] → ys ≡ []
no_right [] ys e = e
no_right (x ∷ xs) ys e = absurd (let h = e in cc)

append_nil : (xs : List Output) → xs ++ [] ≡ xs
append_nil [] = refl
append_nil (x ∷ xs) = ap (λ (ys : List Output). x ∷ ys) (append_nil xs)

append_outputs : (xs ys zs : List Output) → (xs ++ ys) ++ zs ≡ xs ++ (ys ++ zs)
append_outputs [] ys zs = refl
append_outputs (x ∷ xs) ys zs = ap (λ (ws : List Output). x ∷ ws) (append_outputs xs ys zs)

append_strides : (xs ys zs : List Stride) → (xs ++ ys) ++ zs ≡ xs ++ (ys ++ zs)
append_strides [] ys zs = refl
append_strides (x ∷ xs) ys zs = ap (λ (ws : List Stride). x ∷ ws) (append_strides xs ys zs)

walk_more : (g : ReplayInput) (strides : List Stride) (s : Stride) (at : Position) → (walk g (strides ++ s ∷ []) at).position ≡ (step g s (walk g strides at).position).position
walk_more g [] s at = refl
walk_more g (x ∷ strides) s at = walk_more g strides s (step g x at).position

outputs_more : (g : ReplayInput) (strides : List Stride) (s : Stride) (at : Position) → (walk g (strides ++ s ∷ []) at).outputs ≡ (walk g strides at).outputs ++ (step g s (walk g strides at).position).outputs
outputs_more g [] s at = append_nil (step g s at).outputs
outputs_more g (x ∷ strides) s at =
    ap (λ (ys : List Output). (step g x at).outputs ++ ys) (outputs_more g strides s (step g x at).position)
    ∙ sym (append_outputs (step g x at).outputs (walk g strides (step g x at).position).outputs (step g s (walk g strides (step g x at).position).position).outputs)

handed_more : (g : ReplayInput) (strides : List Stride) (s : Stride) (at : Position) → handed (walk g strides at).outputs ≡ [] → handed (walk g (strides ++ s ∷ []) at).outputs ≡ handed (step g s (walk g strides at).position).outputs
handed_more g strides s at silent =
    ap handed (outputs_more g strides s at) ∙ handed_append (walk g strides at).outputs (step g s (walk g strides at).position).outputs
    ∙ ap (λ (xs : List Output). xs ++ handed (step g s (walk g strides at).position).outputs) silent

met_more : (g : ReplayInput) (now : ℕ) (strides : List Stride) (s : Stride) (met : Met) (at : Position) (v u w : LinkView) → IsMet g now Meets strides at v u
    → IsStride now (poll_wish g (walk g strides at).position) met s → is_shut met ≡ false → Meets (poll_wish g (walk g strides at).position) met u w
    → IsMet g now Meets (strides ++ s ∷ []) at v w
met_more g now [] s met at v u w e is is_open meets = (met, w, is, is_open, subst (λ (x : LinkView). Meets (poll_wish g at) met x w) e meets, refl)
met_more g now (x ∷ strides) s met at v u w h is is_open meets =
    (h.0, h.1, h.2, h.3, h.4, met_more g now strides s met (step g x at).position h.1 u w h.5 is is_open meets)

first_silent : (g : ReplayInput) (x : Stride) (strides : List Stride) (at : Position) → handed (walk g (x ∷ strides) at).outputs ≡ [] → handed (step g x at).outputs ≡ []
first_silent g x strides at e = no_left _ _ (sym (handed_append (step g x at).outputs (walk g strides (step g x at).position).outputs) ∙ e)

rest_silent : (g : ReplayInput) (x : Stride) (strides : List Stride) (at : Position) → handed (walk g (x ∷ strides) at).outputs ≡ [] → handed (walk g strides (step g x at).position).outputs ≡ []
rest_silent g x strides at e = no_right (handed (step g x at).outputs) _ (sym (handed_append (step g x at).outputs (walk g strides (step g x at).position).outputs) ∙ e)

-- silent rows, and one more
stops_more : (g : ReplayInput) (strides : List Stride) (s : Stride) (at : Position) → handed (walk g strides at).outputs ≡ [] → StopsAtFirst g (strides ++ s ∷ []) at
stops_more g [] s at e = ((λ some. absurd (some refl)), tt)
stops_more g (x ∷ strides) s at e = ((λ some. first_silent g x strides at e), stops_more g strides s (step g x at).position (rest_silent g x strides at e))

stops_silent : (g : ReplayInput) (strides : List Stride) (at : Position) → handed (walk g strides at).outputs ≡ [] → StopsAtFirst g strides at
stops_silent g [] at e = tt
stops_silent g (x ∷ strides) at e = ((λ some. first_silent g x strides at e), stops_silent g strides (step g x at).position (rest_silent g x strides at e))

quiet_more : (g : ReplayInput) (strides : List Stride) (s : Stride) (at : Position) → AreQuiet g strides at → IsQuietRow g s (walk g strides at).position → AreQuiet g (strides ++ s ∷ []) at
quiet_more g [] s at quiet row = (row, tt)
quiet_more g (x ∷ strides) s at quiet row = (quiet.0, quiet_more g strides s (step g x at).position quiet.1 row)

-- ---- what a poll has walked

-- the turn that goes on has been quiet so far
pub record Turning (g : ReplayInput) (strides : List Stride) (old : Position) : Type 0 where
  pub first : List Stride
  pub last : List Stride
  pub parts : strides ≡ first ++ last
  pub some : last ≡ [] → ⊥
  pub rested : (walk g first old).position.todo ≡ []
  pub quiet : AreQuiet g last (walk g first old).position

-- rows of which none has handed anything out
pub record Walked (g : ReplayInput) (now : ℕ) (quiet : Bool) (old at : Position) (before after : LinkView) : Type 0 where
  pub strides : List Stride
  pub leads : at ≡ (walk g strides old).position
  pub met : IsMet g now Meets strides old before after
  pub silent : handed (walk g strides old).outputs ≡ []
  pub turn : quiet ≡ true → Turning g strides old
  pub alive : is_over old.consumer.phase ≡ false
  pub spent : is_spent at.consumer.phase ≡ false

over_spent : (phase : Phase) → is_over phase ≡ false → is_spent phase ≡ false
over_spent Exhausted e = absurd (let h = e in cc)
over_spent (Pulls reader) e = refl
over_spent (Pushes inbox heartbeat_timer) e = refl
over_spent (Recreates r) e = refl
over_spent Idle e = refl
over_spent Ended e = refl

no : false ≡ true → ⊥
no e = cc

pub walked_none : (g : ReplayInput) (now : ℕ) (old : Position) (v : LinkView) → is_over old.consumer.phase ≡ false → Walked g now false old old v v
walked_none g now old v alive =
    record { strides = []; leads = refl; met = refl; silent = refl; turn = λ e. absurd (no e); alive = alive; spent = over_spent old.consumer.phase alive }

-- ---- one row more

none_arrives : (w : Wish) (met : Met) → is_some (message_of met) ≡ false → is_some (arrival_of w met) ≡ false
none_arrives (Reads inbox) (Took message) e = absurd (let h = e in cc)
none_arrives (Reads inbox) met e = refl
none_arrives w met e = refl

or_left : (a b : Bool) → (a || b) ≡ false → a ≡ false
or_left true b e = e
or_left false b e = refl

or_right : (a b : Bool) → (a || b) ≡ false → b ≡ false
or_right true b e = absurd (let h = e in cc)
or_right false b e = e

none_seen : (row : Row) (met : Met) → is_some (seen_by row met) ≡ false → is_some (message_of met) ≡ false
none_seen (Hear arrival) met e = absurd (let h = e in cc)
none_seen row met e = e

row_quiet : (g : ReplayInput) (now : ℕ) (met : Met) (at : Position) → stirring (first_row at.todo) met at.consumer.phase (step_met g now met at).position.consumer.phase ≡ false → IsQuietRow g (stride_met g now met at) at
row_quiet g now met at still = record {
  untaken = none_arrives (poll_wish g at) met (none_seen (first_row at.todo) met (or_left (is_some (seen_by (first_row at.todo) met)) _ still));
  unstarted = or_right (is_some (seen_by (first_row at.todo) met)) _ still;
}

-- what was quiet so far, is so with one quiet row more
turn_more : (g : ReplayInput) (quiet begins stirs : Bool) (strides : List Stride) (s : Stride) (old : Position) → (quiet ≡ true → Turning g strides old) → (begins ≡ true → (walk g strides old).position.todo ≡ [])
    → (stirs ≡ false → IsQuietRow g s (walk g strides old).position) → ((begins || quiet) && not stirs) ≡ true → Turning g (strides ++ s ∷ []) old
turn_more g quiet begins true strides s old turn is row e = absurd (never (begins || quiet) e)
  where
    never : (b : Bool) → (b && false) ≡ true → ⊥
    never true e = cc
    never false e = cc
turn_more g quiet true false strides s old turn is row e = record {
  first = strides;
  last = s ∷ [];
  parts = refl;
  some = λ e. never s e;
  rested = is refl;
  quiet = (row refl, tt);
}
  where
    never : (s : Stride) → s ∷ [] ≡ [] → ⊥
    never s e = cc
turn_more g true false false strides s old turn is row e =
    let t = turn refl in
    record {
      first = t.first;
      last = t.last ++ s ∷ [];
      parts = ap (λ (xs : List Stride). xs ++ s ∷ []) t.parts ∙ append_strides t.first t.last (s ∷ []);
      some = λ e. never t.last e;
      rested = t.rested;
      quiet = quiet_more g t.last s (walk g t.first old).position t.quiet
          (subst (λ (at : Position). IsQuietRow g s at) (ap (λ (xs : List Stride). (walk g xs old).position) t.parts ∙ walk_append g t.first t.last old) (row refl));
    }
  where
    never : (xs : List Stride) → xs ++ s ∷ [] ≡ [] → ⊥
    never [] e = cc
    never (x ∷ xs) e = cc
turn_more g false false false strides s old turn is row e = absurd (no e)

at_end : (g : ReplayInput) (now : ℕ) (met : Met) (at bt new : Position) (v u : LinkView) → at ≡ bt → PassesNext g now met at new v u → PassesNext g now met bt new v u
at_end g now met at bt new v u e p = subst (λ (x : Position). PassesNext g now met x new v u) e p

-- rows were passed in silence, and then this one
pub walked_more : (g : ReplayInput) (now : ℕ) (quiet begins stirs : Bool) (met : Met) (old at new : Position) (v u w : LinkView) → Walked g now quiet old at v u → (begins ≡ true → at.todo ≡ [])
    → PassesNext g now met at new u w → handed (step_met g now met at).outputs ≡ [] → stirs ≡ stirring (first_row at.todo) met at.consumer.phase new.consumer.phase → is_spent new.consumer.phase ≡ false
    → Walked g now ((begins || quiet) && not stirs) old new v w
walked_more g now quiet begins stirs met old at new v u w walked begins_is passes silent stirred spent =
    let bt : Position = (walk g walked.strides old).position in
    let p : PassesNext g now met bt new u w = at_end g now met at bt new u w walked.leads passes in
    let s : Stride = stride_met g now met bt in
    record {
      strides = walked.strides ++ s ∷ [];
      leads = p.leads ∙ sym (walk_more g walked.strides s old);
      met = met_more g now walked.strides s met old v u w walked.met (record { passing = refl; matter = refl }) p.is_open p.meets;
      silent = handed_more g walked.strides s old walked.silent ∙ subst (λ (x : Position). handed (step_met g now met x).outputs ≡ []) walked.leads silent;
      turn = turn_more g quiet begins stirs walked.strides s old walked.turn (λ e. ap (λ (x : Position). x.todo) (sym walked.leads) ∙ begins_is e)
          (λ still. row_quiet g now met bt
          (ap (λ (x : Position). stirring (first_row bt.todo) met bt.consumer.phase x.consumer.phase) (sym p.leads)
          ∙ ap (λ (x : Position). stirring (first_row x.todo) met x.consumer.phase new.consumer.phase) (sym walked.leads) ∙ sym stirred ∙ still));
      alive = walked.alive;
      spent = spent;
    }

-- ---- answers

abbrev Polls : ReplayInput → ℕ → Position → Position → LinkView → LinkView → Answer → Type 0
Polls g now old new before after answer = IsPoll g Meets now old new before after answer

spent_is : (phase : Phase) → phase ≡ Exhausted → is_spent phase ≡ true
spent_is phase e = ap is_spent e

is_exhausted : (phase : Phase) → is_spent phase ≡ true → phase ≡ Exhausted
is_exhausted Exhausted e = refl
is_exhausted (Pulls reader) e = absurd (let h = e in cc)
is_exhausted (Pushes inbox heartbeat_timer) e = absurd (let h = e in cc)
is_exhausted (Recreates r) e = absurd (let h = e in cc)
is_exhausted Idle e = absurd (let h = e in cc)
is_exhausted Ended e = absurd (let h = e in cc)

unspent : (phase : Phase) → is_spent phase ≡ false → phase ≢ Exhausted
unspent phase spent = λ e. no (sym spent ∙ spent_is phase e)

-- nor had it ended
unended : (answer : Answer) (phase : Phase) → (answer ≡ Ends → ⊥) → is_over phase ≡ false → answer ≡ Ends ↔ ((false ≡ true) ⊎ (is_over phase ≡ true))
unended answer phase other alive = ((λ e. absurd (other e)), (λ either. absurd (never (is_over phase) alive either)))
  where
    never : (b : Bool) → b ≡ false → (false ≡ true) ⊎ (b ≡ true) → ⊥
    never b is (inl e) = cc
    never b is (inr e) = cc

yields_ends : (x : Message) → Yields x ≡ Ends → ⊥
yields_ends x e = cc

yields_end : (x : Message) → Yields x ≡ HandsEnd → ⊥
yields_end x e = cc

yields_waits : (x : Message) → Yields x ≡ Waits → ⊥
yields_waits x e = cc

yields_lacks : (x : Message) → Yields x ≡ Lacks → ⊥
yields_lacks x e = cc

tells_ends : (k : ItemKind) → Tells k ≡ Ends → ⊥
tells_ends k e = cc

tells_end : (k : ItemKind) → Tells k ≡ HandsEnd → ⊥
tells_end k e = cc

tells_waits : (k : ItemKind) → Tells k ≡ Waits → ⊥
tells_waits k e = cc

tells_lacks : (k : ItemKind) → Tells k ≡ Lacks → ⊥
tells_lacks k e = cc

end_ends : HandsEnd ≡ Ends → ⊥
end_ends e = cc

end_waits : HandsEnd ≡ Waits → ⊥
end_waits e = cc

end_lacks : HandsEnd ≡ Lacks → ⊥
end_lacks e = cc

ends_end : Ends ≡ HandsEnd → ⊥
ends_end e = cc

ends_waits : Ends ≡ Waits → ⊥
ends_waits e = cc

ends_lacks : Ends ≡ Lacks → ⊥
ends_lacks e = cc

waits_end : Waits ≡ HandsEnd → ⊥
waits_end e = cc

waits_ends : Waits ≡ Ends → ⊥
waits_ends e = cc

waits_lacks : Waits ≡ Lacks → ⊥
waits_lacks e = cc

lacks_end : Lacks ≡ HandsEnd → ⊥
lacks_end e = cc

lacks_ends : Lacks ≡ Ends → ⊥
lacks_ends e = cc

lacks_waits : Lacks ≡ Waits → ⊥
lacks_waits e = cc

quiet_turn : (g : ReplayInput) (strides : List Stride) (old at : Position) → Turning g strides old → at ≡ (walk g strides old).position → at.todo ≡ []
    → (first : List Stride) × (last : List Stride) × (strides ≡ first ++ last) × IsQuietTurn g last (walk g first old).position
quiet_turn g strides old at t leads rests = (
  t.first,
  t.last,
  t.parts,
  (
    t.rested,
    t.some,
    ap (λ (x : Position). x.todo) (sym (leads ∙ ap (λ (xs : List Stride). (walk g xs old).position) t.parts ∙ walk_append g t.first t.last old)) ∙ rests,
    t.quiet,
  ),
)

-- it waits
pub poll_waits : (g : ReplayInput) (now : ℕ) (quiet : Bool) (old at : Position) (v u : LinkView) → Walked g now quiet old at v u → quiet ≡ true → at.todo ≡ [] → Polls g now old at v u Waits
poll_waits g now quiet old at v u walked is none = record {
  strides = walked.strides;
  closed = false;
  leads = walked.leads;
  between = u;
  met = walked.met;
  closing = refl;
  out = walked.silent;
  stops = stops_silent g walked.strides old walked.silent;
  taken = tt;
  exhausted = λ e. absurd (waits_end e);
  ended = unended Waits old.consumer.phase waits_ends walked.alive;
  alive = λ _. unspent at.consumer.phase walked.spent;
  unspent = λ e. absurd (waits_lacks e);
  waits = λ _. quiet_turn g walked.strides old at (walked.turn is) walked.leads none;
  gapless = λ s whole kept honest. poll_gapless g walked.strides false old at Waits walked.leads walked.silent s whole kept honest;
}

-- it lacks memory
pub poll_lacks : (g : ReplayInput) (now : ℕ) (quiet : Bool) (old at new : Position) (v u w : LinkView) → Walked g now quiet old at v u → new ≡ at → w ≡ u → Polls g now old new v w Lacks
poll_lacks g now quiet old at new v u w walked same view = record {
  strides = walked.strides;
  closed = false;
  leads = same ∙ walked.leads;
  between = u;
  met = walked.met;
  closing = view;
  out = walked.silent;
  stops = stops_silent g walked.strides old walked.silent;
  taken = tt;
  exhausted = λ e. absurd (lacks_end e);
  ended = unended Lacks old.consumer.phase lacks_ends walked.alive;
  alive = λ e. absurd (lacks_waits e);
  unspent = λ _. unspent new.consumer.phase (ap (λ (x : Position). is_spent x.consumer.phase) same ∙ walked.spent);
  waits = λ e. absurd (lacks_waits e);
  gapless = λ s whole kept honest. poll_gapless g walked.strides false old new Lacks (same ∙ walked.leads) walked.silent s whole kept honest;
}

-- its inbox is closed
pub poll_closes : (g : ReplayInput) (now : ℕ) (quiet : Bool) (old at new : Position) (v u w : LinkView) → Walked g now quiet old at v u → new ≡ closed_at true at → IsClosing Meets (poll_wish g at) true u w → Polls g now old new v w Ends
poll_closes g now quiet old at new v u w walked leads closing =
    let to : new ≡ closed_at true (walk g walked.strides old).position = leads ∙ ap (λ (x : Position). closed_at true x) walked.leads in
    record {
      strides = walked.strides;
      closed = true;
      leads = to;
      between = u;
      met = walked.met;
      closing = subst (λ (x : Position). IsClosing Meets (poll_wish g x) true u w) walked.leads closing;
      out = walked.silent;
      stops = stops_silent g walked.strides old walked.silent;
      taken = tt;
      exhausted = λ e. absurd (ends_end e);
      ended = ((λ _. inl refl), (λ _. refl));
      alive = λ e. absurd (ends_waits e);
      unspent = λ e. absurd (ends_lacks e);
      waits = λ e. absurd (ends_waits e);
      gapless = λ s whole kept honest. poll_gapless g walked.strides true old new Ends to walked.silent s whole kept honest;
    }

-- it had ended before
pub poll_over : (g : ReplayInput) (now : ℕ) (old : Position) (v : LinkView) → is_over old.consumer.phase ≡ true → Polls g now old old v v Ends
poll_over g now old v over = record {
  strides = [];
  closed = false;
  leads = refl;
  between = v;
  met = refl;
  closing = refl;
  out = refl;
  stops = tt;
  taken = tt;
  exhausted = λ e. absurd (ends_end e);
  ended = ((λ _. inr over), (λ _. refl));
  alive = λ e. absurd (ends_waits e);
  unspent = λ e. absurd (ends_lacks e);
  waits = λ e. absurd (ends_waits e);
  gapless = λ s whole kept honest. poll_gapless g [] false old old Ends refl refl s whole kept honest;
}

-- the message that a row looked at
abbrev message_at : ReplayInput → ℕ → Met → Position → Option Message
message_at g now met at = looked_at (first_row at.todo) (stride_met g now met at)

last_more : (g : ReplayInput) (strides : List Stride) (s : Stride) (at : Position) → last_arrival g (strides ++ s ∷ []) at ≡ looked_at (first_row (walk g strides at).position.todo) s
last_more g [] s at = refl
last_more g (x ∷ []) s at = refl
last_more g (x ∷ y ∷ strides) s at = last_more g (y ∷ strides) s (step g x at).position

took_same : (wish : Wish) (met : Met) (v u : LinkView) → Meets wish met v u → option_map (λ (arrival : Arrival). arrival.message) (arrival_of wish met) ≡ message_of met
took_same (Reads inbox) (Took message) v u m = refl
took_same Nothing (Took message) v u m = absurd m
took_same OpensInbox (Took message) v u m = absurd m
took_same Watches (Took message) v u m = absurd m
took_same (Publishes subject reply payload) (Took message) v u m = absurd m
took_same (Requests subject payload) (Took message) v u m = absurd m
took_same (Drops inbox) (Took message) v u m = absurd m
took_same (Awaits request) (Took message) v u m = absurd m
took_same wish met v u m = refl

looked_same : (row : Row) (now : ℕ) (wish : Wish) (met : Met) (v u : LinkView) → Meets wish met v u → looked_at row (record { passing = row_input now met; matter = matter_of wish met }) ≡ seen_by row met
looked_same (Hear arrival) now wish met v u m = refl
looked_same row now wish met v u m = took_same wish met v u m

-- the last row of a poll
pub record Last (g : ReplayInput) (now : ℕ) (old new : Position) (before after : LinkView) (outputs : List Output) (message : Option Message) : Type 0 where
  pub strides : List Stride
  pub leads : new ≡ (walk g strides old).position
  pub met : IsMet g now Meets strides old before after
  pub out : handed (walk g strides old).outputs ≡ outputs
  pub arrival : last_arrival g strides old ≡ message
  pub stops : StopsAtFirst g strides old

last_row : (g : ReplayInput) (now : ℕ) (quiet : Bool) (met : Met) (old at new : Position) (v u w : LinkView) (outputs : List Output) → Walked g now quiet old at v u → PassesNext g now met at new u w
    → handed (step_met g now met at).outputs ≡ outputs → Last g now old new v w outputs (message_at g now met at)
last_row g now quiet met old at new v u w outputs walked passes hands =
    let bt : Position = (walk g walked.strides old).position in
    let p : PassesNext g now met bt new u w = at_end g now met at bt new u w walked.leads passes in
    let s : Stride = stride_met g now met bt in
    record {
      strides = walked.strides ++ s ∷ [];
      leads = p.leads ∙ sym (walk_more g walked.strides s old);
      met = met_more g now walked.strides s met old v u w walked.met (record { passing = refl; matter = refl }) p.is_open p.meets;
      out = handed_more g walked.strides s old walked.silent ∙ subst (λ (x : Position). handed (step_met g now met x).outputs ≡ outputs) walked.leads hands;
      arrival = last_more g walked.strides s old ∙ ap (λ (x : Position). message_at g now met x) (sym walked.leads);
      stops = stops_more g walked.strides s old walked.silent;
    }

-- a poll that answers so, the last row of which looked at this message
abbrev PollsAt : ReplayInput → ℕ → Position → Position → LinkView → LinkView → Answer → Option Message → Type 0
PollsAt g now old new before after answer message = (poll : Polls g now old new before after answer) × (last_arrival g poll.strides old ≡ message)

-- it hands something out
poll_hands : (g : ReplayInput) (now : ℕ) (quiet : Bool) (met : Met) (old at new : Position) (v u w : LinkView) (answer : Answer) → Walked g now quiet old at v u → PassesNext g now met at new u w
    → handed (step_met g now met at).outputs ≡ handed_by answer → (answer ≡ Ends → ⊥) → (answer ≡ Waits → ⊥) → (answer ≡ HandsEnd → ⊥) → (answer ≡ Lacks → ⊥)
    → ((strides : List Stride) → last_arrival g strides old ≡ message_at g now met at → IsTaken g answer strides old) → PollsAt g now old new v w answer (message_at g now met at)
poll_hands g now quiet met old at new v u w answer walked passes hands no_end no_wait no_spent no_lack taken =
    let last : Last g now old new v w (handed_by answer) (message_at g now met at) = last_row g now quiet met old at new v u w (handed_by answer) walked passes hands in (
      record {
        strides = last.strides;
        closed = false;
        leads = last.leads;
        between = w;
        met = last.met;
        closing = refl;
        out = last.out;
        taken = taken last.strides last.arrival;
        stops = last.stops;
        exhausted = λ e. absurd (no_spent e);
        ended = unended answer old.consumer.phase no_end walked.alive;
        alive = λ e. absurd (no_wait e);
        unspent = λ e. absurd (no_lack e);
        waits = λ e. absurd (no_wait e);
        gapless = λ s whole kept honest. poll_gapless g last.strides false old new answer last.leads last.out s whole kept honest;
      },
      last.arrival,
    )

pub poll_yields : (g : ReplayInput) (now : ℕ) (quiet : Bool) (met : Met) (old at new : Position) (v u w : LinkView) (message : Message) → Walked g now quiet old at v u → PassesNext g now met at new u w
    → handed (step_met g now met at).outputs ≡ handed_by (Yields message) → seen_by (first_row at.todo) met ≡ Some message → Polls g now old new v w (Yields message)
poll_yields g now quiet met old at new v u w message walked passes hands took =
    (poll_hands g now quiet met old at new v u w (Yields message) walked passes hands (λ e. yields_ends message e) (λ e. yields_waits message e) (λ e. yields_end message e) (λ e. yields_lacks message e)
    (λ strides last. last ∙ looked_same (first_row at.todo) now (poll_wish g at) met u w passes.meets ∙ took)).0

poll_tells : (g : ReplayInput) (now : ℕ) (quiet : Bool) (met : Met) (old at new : Position) (v u w : LinkView) (kind : ItemKind) → Walked g now quiet old at v u → PassesNext g now met at new u w
    → handed (step_met g now met at).outputs ≡ handed_by (Tells kind) → PollsAt g now old new v w (Tells kind) (message_at g now met at)
poll_tells g now quiet met old at new v u w kind walked passes hands =
    poll_hands g now quiet met old at new v u w (Tells kind) walked passes hands (λ e. tells_ends kind e) (λ e. tells_waits kind e) (λ e. tells_end kind e) (λ e. tells_lacks kind e) (λ strides last. tt)

error_tells : (kind : ItemKind) → told_of (error_kind kind) ≡ Tells kind
error_tells item.MissingHeartbeat = refl
error_tells item.RequestLimitExceeded = refl
error_tells item.PushBasedConsumer = refl
error_tells item.Pull = refl
error_tells item.Recreate = refl
error_tells item.Other = refl
error_tells item.StreamNotFound = refl

-- it is of a kind that is given
pub error_given : (kind : ItemKind) → is_given (error_kind kind) ≡ true
error_given item.MissingHeartbeat = refl
error_given item.RequestLimitExceeded = refl
error_given item.PushBasedConsumer = refl
error_given item.Pull = refl
error_given item.Recreate = refl
error_given item.Other = refl
error_given item.StreamNotFound = refl

-- an error of the table
poll_errs : (g : ReplayInput) (now : ℕ) (quiet : Bool) (met : Met) (old at new : Position) (v u w : LinkView) (kind : ItemKind) (kept : Option Message) (e : Error OrderedErrorKind) → kind_of e ≡ error_kind kind
    → source_of e ≡ source_by (error_kind kind) kept → kept ≡ seen_by (first_row at.todo) met → Walked g now quiet old at v u → PassesNext g now met at new u w
    → handed (step_met g now met at).outputs ≡ handed_by (Tells kind) → PollsWithSource g now old new v w (next.Item (Err e))
poll_errs g now quiet met old at new v u w kind kept e is comes lies walked passes hands =
    let told : PollsAt g now old new v w (told_of (kind_of e)) (message_at g now met at) =
    subst (λ (a : Answer). PollsAt g now old new v w a (message_at g now met at)) (sym (ap told_of is ∙ error_tells kind)) (poll_tells g now quiet met old at new v u w kind walked passes hands) in
    let looked : kept ≡ last_arrival g told.0.strides old =
    lies ∙ sym (looked_same (first_row at.todo) now (poll_wish g at) met u w passes.meets) ∙ sym told.1 in
    (told.0, comes ∙ ap (λ (k : OrderedErrorKind). source_by k kept) (sym is) ∙ ap (λ (o : Option Message). source_by (kind_of e) o) looked)

-- there is no sequence to go on from
pub poll_exhausts : (g : ReplayInput) (now : ℕ) (quiet : Bool) (met : Met) (old at new : Position) (v u w : LinkView) → Walked g now quiet old at v u → PassesNext g now met at new u w
    → handed (step_met g now met at).outputs ≡ [] → is_spent new.consumer.phase ≡ true → Polls g now old new v w HandsEnd
poll_exhausts g now quiet met old at new v u w walked passes hands spent =
    let last : Last g now old new v w [] (message_at g now met at) = last_row g now quiet met old at new v u w [] walked passes hands in
    record {
      strides = last.strides;
      closed = false;
      leads = last.leads;
      between = w;
      met = last.met;
      closing = refl;
      out = last.out;
      taken = tt;
      stops = last.stops;
      exhausted = λ _. (unspent old.consumer.phase (over_spent old.consumer.phase walked.alive), is_exhausted new.consumer.phase spent);
      ended = unended HandsEnd old.consumer.phase end_ends walked.alive;
      alive = λ e. absurd (end_waits e);
      unspent = λ e. absurd (end_lacks e);
      waits = λ e. absurd (end_waits e);
      gapless = λ s whole kept honest. poll_gapless g last.strides false old new HandsEnd last.leads last.out s whole kept honest;
    }

-- ---- what the next row came to, by what its code says

known : (t : RowOutcome) (kept : Option Message) (g h : ReplayInput) (now : ℕ) (old new : Position) (v u : LinkView) → h ≡ g → ComesTo t kept h now old new v u → ComesTo t kept g now old new v u
known t kept g h now old new v u same turned = subst (λ (x : ReplayInput). ComesTo t kept x now old new v u) same turned

pub on_silent : (g h : ReplayInput) (now : ℕ) (quiet begins stirs : Bool) (old at new : Position) (v u w : LinkView) → h ≡ g → Walked g now quiet old at v u → (begins ≡ true → at.todo ≡ [])
    → ComesTo (turns.Silent stirs) None h now at new u w → Walked g now ((begins || quiet) && not stirs) old new v w
on_silent g h now quiet begins stirs old at new v u w same walked rests turned =
    let t : ComesTo (turns.Silent stirs) None g now at new u w = known (turns.Silent stirs) None g h now at new u w same turned in
    walked_more g now quiet begins stirs t.0 old at new v u w walked rests t.1 t.2 t.3 t.4

-- the message that was kept is handed out, which changes nothing else
pub on_hands : (g h : ReplayInput) (now : ℕ) (quiet : Bool) (kept : Option Message) (result : Next (Result Message (Error OrderedErrorKind))) (old at new end : Position) (v u w : LinkView) → h ≡ g → Walked g now quiet old at v u
    → ComesTo turns.Hands kept h now at new u w → end ≡ new → result ≡ handing kept → PollsWithSource g now old end v w result
on_hands g h now quiet kept result old at new end v u w same walked turned stays is =
    let t : ComesTo turns.Hands kept g now at new u w = known turns.Hands kept g h now at new u w same turned in
    subst (λ (r : Next (Result Message (Error OrderedErrorKind))). PollsWithSource g now old end v w r) (sym (is ∙ ap handing t.1)) (
      subst (λ (x : Position). Polls g now old x v w (Yields t.0)) (sym stays) (poll_yields g now quiet t.2 old at new v u w t.0 walked t.3 t.4 t.5),
      tt,
    )

pub on_tells : (g h : ReplayInput) (now : ℕ) (quiet : Bool) (kind : ItemKind) (kept : Option Message) (e : Error OrderedErrorKind) (old at new end : Position) (v u w : LinkView) → h ≡ g → Walked g now quiet old at v u
    → kind_of e ≡ error_kind kind → source_of e ≡ source_by (error_kind kind) kept → ComesTo (turns.Tells kind) kept h now at new u w → end ≡ new → PollsWithSource g now old end v w (next.Item (Err e))
on_tells g h now quiet kind kept e old at new end v u w same walked is comes turned stays =
    let t : ComesTo (turns.Tells kind) kept g now at new u w = known (turns.Tells kind) kept g h now at new u w same turned in
    subst (λ (x : Position). PollsWithSource g now old x v w (next.Item (Err e))) (sym stays) (poll_errs g now quiet t.0 old at new v u w kind kept e is comes t.3 walked t.1 t.2)

pub on_exhausted : (g h : ReplayInput) (now : ℕ) (quiet : Bool) (e : Error OrderedErrorKind) (old at new : Position) (v u w : LinkView) → h ≡ g → Walked g now quiet old at v u
    → kind_of e ≡ error.SequenceEnd → source_of e ≡ None → ComesTo turns.Exhausted None h now at new u w → PollsWithSource g now old new v w (next.Item (Err e))
on_exhausted g h now quiet e old at new v u w same walked is comes turned =
    let t : ComesTo turns.Exhausted None g now at new u w = known turns.Exhausted None g h now at new u w same turned in
    let poll : Polls g now old new v w (told_of (kind_of e)) =
    subst (λ (k : OrderedErrorKind). Polls g now old new v w (told_of k)) (sym is) (poll_exhausts g now quiet t.0 old at new v u w walked t.1 t.2 t.3) in
    (poll, comes ∙ ap (λ (k : OrderedErrorKind). source_by k (last_arrival g poll.strides old)) (sym is))

pub on_closed : (g h : ReplayInput) (now : ℕ) (quiet : Bool) (old at new : Position) (v u w : LinkView) → h ≡ g → Walked g now quiet old at v u
    → ComesTo turns.Closed None h now at new u w → Polls g now old new v w Ends
on_closed g h now quiet old at new v u w same walked turned =
    let t : ComesTo turns.Closed None g now at new u w = known turns.Closed None g h now at new u w same turned in
    poll_closes g now quiet old at new v u w walked t.0 t.1

pub on_lacks : (g h : ReplayInput) (now : ℕ) (quiet : Bool) (old at new : Position) (v u w : LinkView) → h ≡ g → Walked g now quiet old at v u
    → ComesTo turns.OutOfMemory None h now at new u w → Polls g now old new v w Lacks
on_lacks g h now quiet old at new v u w same walked turned =
    let t : ComesTo turns.OutOfMemory None g now at new u w = known turns.OutOfMemory None g h now at new u w same turned in
    poll_lacks g now quiet old at new v u w walked t.0 t.1

-- it waits where nothing is left of a turn that was quiet
pub on_waits : (g : ReplayInput) (now : ℕ) (quiet begins may_wait : Bool) (old at : Position) (v u : LinkView) → Walked g now quiet old at v u → (begins ≡ true → at.todo ≡ [])
    → may_wait ≡ (begins && quiet) → may_wait ≡ true → Polls g now old at v u Waits
on_waits g now true true may_wait old at v u walked rests is e = poll_waits g now true old at v u walked refl (rests refl)
on_waits g now false true may_wait old at v u walked rests is e = absurd (no (sym is ∙ e))
on_waits g now quiet false may_wait old at v u walked rests is e = absurd (no (sym is ∙ e))
