-- Rows that a worked link is able to meet are a poll.
use Rattle.std.proofs.Common.{◌≡◌, ℕ, zero, suc, ◌+◌, Bool, true, false, List, [], ◌∷◌, ◌++◌, ◌⊎◌, inl, inr, Option, Some, refl, sym, ap, ◌∙◌, subst, arith}
use Rattle.std.specs.Prelude.{◌≢◌, ◌&&◌, ⊤}
use Rattle.js_base.specs.declared.message.Message.{Message}
use Rattle.js_link.specs.Meets.{Meets}
use Rattle.js_link.specs.Offer.{given}
use Rattle.js_message.specs.AckSubject.{Place, readable_as}
use Rattle.js_ordered_stream.specs.WorkedLife.{Standing, row_passed, rows_passed, stride_at, strides_of}
use Rattle.js_ordered_stream.specs.WorkedLink.{is_able, offer_of, view_after}
use Rattle.js_ordered_table.specs.Fold.{is_over}
use Rattle.js_ordered_table.specs.Gapless.{IsDelivery, IsHonestArrival, Server, entry_of}
use Rattle.js_ordered_table.specs.Poll.{Answer, HandsEnd, Waits, Ends, IsMet, IsPoll, IsQuietTurn, IsTaken, StopsAtFirst, handed_by, poll_wish}
use Rattle.js_ordered_table.specs.Walk.{Position, Stride, handed, step, walk}
use Rattle.js_ordered_table.specs.declared.consumer.Phase.{Phase}
use Rattle.js_ordered_table.specs.declared.consumer.Phase.TheVariants.{Exhausted}
use Rattle.js_ordered_table.specs.declared.consumer.ReplayInput.{ReplayInput}
use Rattle.js_ordered_table.specs.declared.run.Output.{Output}
use Rattle.js_ordered_table.specs.declared.setup.OrderedSetup.{OrderedSetup}
use Rattle.js_ordered_stream.proofs.WorkedLink.{both_left, both_right, given_open, meets_able}
use Rattle.js_ordered_table.proofs.Polls.{poll_gapless}

-- ---- what is computed of the rows of a poll

-- the link is able to do what each row asks
abbrev pub are_able : ReplayInput → (ℕ → Option Message) → ℕ → ℕ → Standing → Bool
are_able g script now zero x = true
are_able g script now (suc n) x = is_able x.view (poll_wish g x.position) && are_able g script now n (row_passed g script now x)

abbrev pub is_nothing : List Output → Bool
is_nothing [] = true
is_nothing (output ∷ outputs) = false

-- no row but the last one hands something out
abbrev pub are_silent : ReplayInput → (ℕ → Option Message) → ℕ → ℕ → Standing → Bool
are_silent g script now zero x = true
are_silent g script now (suc zero) x = true
are_silent g script now (suc (suc n)) x = is_nothing (handed (step g (stride_at g now x) x.position).outputs) && are_silent g script now (suc n) (row_passed g script now x)

-- an answer that tells no end
abbrev pub goes_on : Answer → Bool
goes_on HandsEnd = false
goes_on Ends = false
goes_on answer = true

abbrev pub is_exhausted : Phase → Bool
is_exhausted Exhausted = true
is_exhausted phase = false

-- ---- and what follows

pub walk_rows : (g : ReplayInput) (script : ℕ → Option Message) (now n : ℕ) (x : Standing) → (walk g (strides_of g script now n x) x.position).position ≡ (rows_passed g script now n x).position
walk_rows g script now zero x = refl
walk_rows g script now (suc n) x = walk_rows g script now n (row_passed g script now x)

pub met_rows : (g : ReplayInput) (script : ℕ → Option Message) (now n : ℕ) (x : Standing) → are_able g script now n x ≡ true
    → IsMet g now Meets (strides_of g script now n x) x.position x.view (rows_passed g script now n x).view
met_rows g script now zero x able = refl
met_rows g script now (suc n) x able =
    let here : Bool = is_able x.view (poll_wish g x.position) in
    let there : Bool = are_able g script now n (row_passed g script now x) in (
      given (offer_of x.view) (poll_wish g x.position),
      view_after script (poll_wish g x.position) x.view,
      record { passing = refl; matter = refl },
      given_open x.view (poll_wish g x.position),
      meets_able script x.view (poll_wish g x.position) (both_left here there able),
      met_rows g script now n (row_passed g script now x) (both_right here there able),
    )

nothing_handed : (outputs : List Output) → is_nothing outputs ≡ true → outputs ≡ []
nothing_handed [] is = refl
nothing_handed (output ∷ outputs) is = absurd (let h = is in cc)

pub stops_rows : (g : ReplayInput) (script : ℕ → Option Message) (now n : ℕ) (x : Standing) → are_silent g script now n x ≡ true → StopsAtFirst g (strides_of g script now n x) x.position
stops_rows g script now zero x silent = tt
stops_rows g script now (suc zero) x silent = ((λ some. absurd (some refl)), tt)
stops_rows g script now (suc (suc n)) x silent =
    let outputs : List Output = handed (step g (stride_at g now x) x.position).outputs in
    let there : Bool = are_silent g script now (suc n) (row_passed g script now x) in
    ((λ some. nothing_handed outputs (both_left (is_nothing outputs) there silent)), stops_rows g script now (suc n) (row_passed g script now x) (both_right (is_nothing outputs) there silent))

-- rows in two parts
split_rows : (g : ReplayInput) (script : ℕ → Option Message) (now first last : ℕ) (x : Standing)
    → strides_of g script now (first + last) x ≡ strides_of g script now first x ++ strides_of g script now last (rows_passed g script now first x)
split_rows g script now zero last x =
    let same : last ≡ zero + last = omega arith in
    subst (λ (n : ℕ). strides_of g script now n x ≡ strides_of g script now last x) same refl
split_rows g script now (suc first) last x =
    let more : suc (first + last) ≡ suc first + last = omega arith in
    subst (λ (n : ℕ). strides_of g script now n x ≡ strides_of g script now (suc first) x ++ strides_of g script now last (rows_passed g script now (suc first) x)) more
    (ap (λ (strides : List Stride). stride_at g now x ∷ strides) (split_rows g script now first last (row_passed g script now x)))

-- the last rows are a quiet turn
pub record WaitsFor (g : ReplayInput) (script : ℕ → Option Message) (now n : ℕ) (x : Standing) : Type 0 where
  pub first : ℕ
  pub last : ℕ
  pub all : first + last ≡ n
  pub quiet : IsQuietTurn g (strides_of g script now last (rows_passed g script now first x)) (rows_passed g script now first x).position

pub waits_rows : (g : ReplayInput) (script : ℕ → Option Message) (now n : ℕ) (x : Standing) → WaitsFor g script now n x
    → (first : List Stride) × (last : List Stride) × (strides_of g script now n x ≡ first ++ last) × IsQuietTurn g last (walk g first x.position).position
waits_rows g script now n x waits = (
  strides_of g script now waits.first x,
  strides_of g script now waits.last (rows_passed g script now waits.first x),
  ap (λ (m : ℕ). strides_of g script now m x) (sym waits.all) ∙ split_rows g script now waits.first waits.last x,
  subst (λ (at : Position). IsQuietTurn g (strides_of g script now waits.last (rows_passed g script now waits.first x)) at) (sym (walk_rows g script now waits.first x)) waits.quiet,
)

pub never : (b : Bool) → b ≡ false → b ≡ true → ⊥
never true is other = let h = is in cc
never false is other = let h = other in cc

pub not_end : (answer : Answer) → goes_on answer ≡ true → answer ≡ Ends → ⊥
not_end answer on is = never (goes_on answer) (ap goes_on is) on

pub not_handed : (answer : Answer) → goes_on answer ≡ true → answer ≡ HandsEnd → ⊥
not_handed answer on is = never (goes_on answer) (ap goes_on is) on

-- what is computed of a poll
pub record IsComputed (g : ReplayInput) (script : ℕ → Option Message) (now n : ℕ) (x : Standing) (answer : Answer) : Type 0 where
  pub able : are_able g script now n x ≡ true
  pub silent : are_silent g script now n x ≡ true
  pub out : handed (walk g (strides_of g script now n x) x.position).outputs ≡ handed_by answer
  pub taken : IsTaken g answer (strides_of g script now n x) x.position
  pub on : goes_on answer ≡ true
  pub began : is_over x.position.consumer.phase ≡ false
  pub alive : is_exhausted (rows_passed g script now n x).position.consumer.phase ≡ false
  pub waits : answer ≡ Waits → WaitsFor g script now n x

-- so it is one
abbrev pub computed_poll : (g : ReplayInput) (script : ℕ → Option Message) (now n : ℕ) (x : Standing) (answer : Answer) → IsComputed g script now n x answer
    → IsPoll g Meets now x.position (rows_passed g script now n x).position x.view (rows_passed g script now n x).view answer
computed_poll g script now n x answer is = record {
  strides = strides_of g script now n x;
  closed = false;
  leads = leads;
  between = (rows_passed g script now n x).view;
  met = met_rows g script now n x is.able;
  closing = refl;
  out = is.out;
  taken = is.taken;
  stops = stops_rows g script now n x is.silent;
  exhausted = λ e. absurd (not_handed answer is.on e);
  ended = ((λ e. absurd (not_end answer is.on e)), (λ either. absurd (open_still either)));
  alive = λ e. alive;
  waits = λ e. waits_rows g script now n x (is.waits e);
  unspent = λ e. alive;
  gapless = poll_gapless g (strides_of g script now n x) false x.position (rows_passed g script now n x).position answer leads is.out;
}
  where
    leads : (rows_passed g script now n x).position ≡ (walk g (strides_of g script now n x) x.position).position
    leads = sym (walk_rows g script now n x)

    alive : (rows_passed g script now n x).position.consumer.phase ≢ Exhausted
    alive e = never (is_exhausted (rows_passed g script now n x).position.consumer.phase) is.alive (ap is_exhausted e)

    open_still : (false ≡ true) ⊎ (is_over x.position.consumer.phase ≡ true) → ⊥
    open_still (inl closed) = never false refl closed
    open_still (inr over) = never (is_over x.position.consumer.phase) is.began over

-- ---- what is sent is a delivery

some_same : {A : Type 0} (P : A → Type 0) (x y : A) → Some x ≡ Some y → P x → P y
some_same P x y same px = subst P (injected x y same) px
  where
    injected : {A : Type 0} (x y : A) → Some x ≡ Some y → x ≡ y
    injected x y same = cc

-- a message whose reply reads to a place is a delivery
pub delivers : (s : Server) (setup : OrderedSetup) (inbox : ℕ) (message : Message) (place : Place) → readable_as message.reply ≡ Some place
    → IsDelivery s inbox place.number (entry_of place message) → IsHonestArrival setup s (record { inbox = inbox; message = message })
delivers s setup inbox message place reads delivery other is reads_other =
    some_same (λ (place : Place). IsDelivery s inbox place.number (entry_of place message)) place other (sym reads ∙ reads_other) delivery

-- a row that takes nothing and opens nothing
abbrev pub past : {A : Type 0} → A → ⊤ × ⊤ × A
past rest = (tt, tt, rest)
