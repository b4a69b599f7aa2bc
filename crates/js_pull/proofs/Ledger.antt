-- How much a stream has pending, along any walk.
use Rattle.std.proofs.Common.{◌≡◌, ℕ, zero, suc, ◌+◌, ◌*◌, ◌/◌, ◌<◌, ◌≤◌, ◌⊎◌, min, Bool, true, false, List, [], ◌∷◌, ◌++◌, Option, Some, None, refl, sym, ◌∙◌, ap, subst, inl, inr, arith}
use Rattle.std.proofs.Math.Nat.{mul-suc, suc-mul}
use Rattle.std.specs.Prelude.{unwrap_or, ◌&&◌, not, nat_lt}
use Rattle.std.specs.List.{AllByRecursion}
use Rattle.js_base.specs.declared.message.Message.{Message}
use Rattle.js_base.specs.Clock.{is_due, is_any_due}
use Rattle.js_base.specs.declared.clock.Timer.{Timer}
use Rattle.js_base.specs.declared.message.State.{State}
use Rattle.js_base.specs.declared.message.State.TheVariants.{Pending, Connected, Disconnected}
use Rattle.js_link.specs.RowInput.{RowInput}
use Rattle.js_pull.specs.declared.kind.Kind.{Kind}
use Rattle.js_pull.specs.declared.kind.Kind.TheVariants.{Delivered, IdleHeartbeat, Deleted, PushBased, Limit, Gone, Bad, Ledger}
use Rattle.js_pull.specs.Kind.{pull_kind}
use Rattle.js_pull.specs.declared.reader.PullSource.{PullSource}
use Rattle.js_pull.specs.declared.reader.Reader.{Reader}
use Rattle.js_pull.specs.Reader.{new_reader}
use Rattle.js_pull.specs.Reader as rows
use Rattle.js_pull.specs.declared.replies.InfoReply.{InfoReply}
use Rattle.js_pull.specs.declared.replies.InfoReply.TheVariants as reply
use Rattle.js_pull.proofs.Cases.{if_each, if_known, half_pending}
use Rattle.js_pull.specs.Poll.{Position, Stride, first_row, later_rows, passed_by, step, walk, closed_at, IsBounded, IsBoundedAt, IsLowRequest, IsReady}
use Rattle.js_pull.specs.declared.reader.InfoRequest.{InfoRequest}
use Rattle.js_pull.specs.declared.reader.InfoRequest.TheVariants.{NoInfoRequest, Asked, Resting}
use Rattle.js_pull.specs.declared.reader.Reason.{Reason}
use Rattle.js_pull.specs.declared.reader.Reason.TheVariants.{Low, Expired, Informed}
use Rattle.js_pull.specs.declared.reader.Row.{Row}
use Rattle.js_pull.specs.declared.reader.Row.TheVariants.{Begin, Ask, Threshold, Arm, Inquire, FailInfoRequest, CheckInfoRequest, Answered, CheckExpiry, CheckArrival, CheckSilence}

-- no request of the threshold is among the rows
abbrev NoneLow : List Row → Type 0
NoneLow rows = AllByRecursion (λ row. IsLowRequest row → ⊥) rows

-- what follows a row: nothing of the threshold, or its request alone, while little is pending
abbrev Follows : rows.Passed → Type 0
Follows passed = IsReady passed.reader passed.next

record Keeps (passed : rows.Passed) : Type 0 where
  reader : IsBounded passed.reader
  next : Follows passed

-- ---- the bound in numbers

one_more : (p batch unreset_requests : ℕ) → p ≤ batch + batch / 2 + unreset_requests * batch → p + batch ≤ batch + batch / 2 + suc unreset_requests * batch
one_more p batch unreset_requests h = omega (arith, h, suc-mul unreset_requests batch)

stopped : (p batch unreset_requests most : ℕ) → p ≤ batch + batch / 2 + unreset_requests * batch → min (p + batch) most ≤ batch + batch / 2 + most * batch
stopped p zero unreset_requests most h = omega (arith, h)
stopped p (suc b) unreset_requests most h = omega (arith, mul-suc most b)

more : (p batch unreset_requests most : ℕ) → p ≤ batch + batch / 2 + unreset_requests * batch → min (p + batch) most ≤ batch + batch / 2 + min (unreset_requests + 1) most * batch
more p batch unreset_requests most h = by_cap (two most unreset_requests)
  where
    two : (a b : ℕ) → (a ≤ b) ⊎ (b < a)
    two a b = grind arith

    at_most : (a b : ℕ) → a ≤ b → min (b + 1) a ≡ a
    at_most a b e = omega arith

    under : (a b : ℕ) → b < a → min (b + 1) a ≡ suc b
    under a b e = omega arith

    by_cap : (most ≤ unreset_requests) ⊎ (unreset_requests < most) → min (p + batch) most ≤ batch + batch / 2 + min (unreset_requests + 1) most * batch
    by_cap (inl capped) = subst (λ (n : ℕ). min (p + batch) most ≤ batch + batch / 2 + n * batch) (sym (at_most most unreset_requests capped)) (stopped p batch unreset_requests most h)
    by_cap (inr below) = subst (λ (n : ℕ). min (p + batch) most ≤ batch + batch / 2 + n * batch) (sym (under most unreset_requests below)) (omega (arith, one_more p batch unreset_requests h))

-- ---- a request

asked_bounded : (reason : Reason) (r : Reader) → IsBounded r → (reason ≡ Low → r.pending ≤ r.source.config.batch / 2) → IsBounded (rows.asked reason r)
asked_bounded Low r k low = let h = low refl in record { bytes = k.bytes; pending = omega (arith, h) }
asked_bounded Expired r k low = record { bytes = k.bytes; pending = omega arith }
asked_bounded (Informed true) r k low = record { bytes = k.bytes; pending = omega arith }
asked_bounded (Informed false) r k low = record { bytes = k.bytes; pending = more r.pending r.source.config.batch r.unreset_requests rows.u64_max k.pending }

ask_keeps : (p : RowInput) (reason : Reason) (r : Reader) → IsBounded r → (reason ≡ Low → r.pending ≤ r.source.config.batch / 2) → Keeps (rows.ask p reason r)
ask_keeps p reason r k low = if_each Keeps p.up _ _
    (λ _. record { reader = asked_bounded reason (rows.with_expiry p.now r) (record { bytes = k.bytes; pending = k.pending }) low; next = tt })
    (λ _. record { reader = record { bytes = k.bytes; pending = k.pending }; next = tt })

-- ---- the threshold

threshold_keeps : (r : Reader) → IsBounded r → Keeps (rows.threshold r)
threshold_keeps r k = if_known Keeps (rows.is_low r && not r.waiting) _ _
    (λ low. record {
      reader = record { bytes = k.bytes; pending = k.pending };
      next = if_each (IsReady (record r { waiting = true })) (rows.is_asking r.inquiry) _ _ (λ _. tt) (λ _. ((λ _. half_pending r k.bytes low), tt));
    })
    (λ _. record { reader = k; next = tt })

-- ---- all else leaves what is pending, or lowers it

-- a reader that has no more pending
no_more : (r s : Reader) → IsBounded r → s.source ≡ r.source → s.unreset_requests ≡ r.unreset_requests → s.pending ≤ r.pending → IsBounded s
no_more r s k source unreset_requests less = record {
  bytes = ap (λ (x : PullSource). x.config.max_bytes) source ∙ k.bytes;
  pending =
      let bound = k.pending in
      rw source (rw unreset_requests (omega (arith, bound, less)));
}

hear_keeps : (message : Message) (kind : Kind) (r : Reader) → IsBounded r → Keeps (rows.hear message kind r)
hear_keeps message Delivered r k = record { reader = no_more r (rows.lowered 1 message.length r) k refl refl (omega arith); next = ((λ low. absurd low), tt) }
hear_keeps message IdleHeartbeat r k = record { reader = k; next = ((λ low. absurd low), tt) }
hear_keeps message Deleted r k = record { reader = record { bytes = k.bytes; pending = k.pending }; next = tt }
hear_keeps message PushBased r k = record { reader = record { bytes = k.bytes; pending = k.pending }; next = tt }
hear_keeps message Limit r k = record { reader = record { bytes = k.bytes; pending = k.pending }; next = tt }
hear_keeps message Gone r k = record { reader = k; next = ((λ low. absurd low), tt) }
hear_keeps message Bad r k = record { reader = k; next = ((λ low. absurd low), tt) }
hear_keeps message (Ledger messages bytes) r k =
    record { reader = no_more r (rows.lowered (unwrap_or messages r.source.config.batch) (unwrap_or bytes r.source.config.max_bytes) r) k refl refl (omega arith); next = ((λ low. absurd low), tt) }

arrival_keeps : (p : RowInput) (arrival : Option Message) (r : Reader) → IsBounded r → Keeps (rows.check_arrival p arrival r)
arrival_keeps p None r k = record { reader = k; next = ((λ low. absurd low), tt) }
arrival_keeps p (Some message) r k = hear_keeps message (pull_kind message) (rows.with_pin message (rows.with_silence p.now r)) (record { bytes = k.bytes; pending = k.pending })

change_keeps : (p : RowInput) (change : Option State) (r : Reader) → IsBounded r → Keeps (rows.begin_change p change r)
change_keeps p None r k = record { reader = k; next = ((λ low. absurd low), ((λ low. low), tt)) }
change_keeps p (Some Connected) r k = record { reader = k; next = ((λ low. absurd low), ((λ low. low), tt)) }
change_keeps p (Some Pending) r k = record { reader = record { bytes = k.bytes; pending = k.pending }; next = ((λ low. absurd low), tt) }
change_keeps p (Some Disconnected) r k = record { reader = record { bytes = k.bytes; pending = k.pending }; next = ((λ low. absurd low), tt) }

begin_keeps : (p : RowInput) (change : Option State) (r : Reader) → IsBounded r → Keeps (rows.begin_row p change r)
begin_keeps p change r k = if_each Keeps r.ended _ _ (λ _. record { reader = k; next = tt })
    (λ _. if_each Keeps (rows.is_asking r.inquiry) _ _ (λ _. record { reader = k; next = ((λ low. absurd low), ((λ low. low), tt)) }) (λ _. change_keeps p change r k))

answered_keeps : (failures : ℕ) (says : InfoReply) (r : Reader) → IsBounded r → Keeps (rows.answered failures says r)
answered_keeps failures (reply.Info info) r k = record { reader = record { bytes = k.bytes; pending = k.pending }; next = ((λ low. absurd low), tt) }
answered_keeps failures (reply.Error code) r k = if_each Keeps (r.source.resilience.recreates_when_gone && rows.is_gone code) _ _
    (λ _. record { reader = record { bytes = k.bytes; pending = k.pending }; next = tt })
    (λ _. record { reader = k; next = ((λ low. absurd low), tt) })
answered_keeps failures reply.Nothing r k = record { reader = k; next = ((λ low. absurd low), tt) }

asked_keeps : (p : RowInput) (timeout : Option Timer) (failures : ℕ) (reply : Option (Option Message)) (r : Reader) → IsBounded r → Keeps (rows.check_asked p timeout failures reply r)
asked_keeps p timeout failures (Some reply) r k = record { reader = k; next = ((λ low. absurd low), tt) }
asked_keeps p timeout failures None r k = record { reader = k; next = if_each (IsReady r) (is_any_due timeout p.now) _ _ (λ _. ((λ low. absurd low), tt)) (λ _. tt) }

inquiry_keeps : (p : RowInput) (answer : Option rows.Answer) (inquiry : InfoRequest) (r : Reader) → IsBounded r → Keeps (rows.check_inquiry p answer inquiry r)
inquiry_keeps p answer NoInfoRequest r k = record { reader = k; next = tt }
inquiry_keeps p answer (Asked request timeout failures) r k = asked_keeps p timeout failures (rows.reply_to request answer) r k
inquiry_keeps p answer (Resting wait failures) r k = record { reader = k; next = if_each (IsReady r) (is_due wait p.now) _ _ (λ _. ((λ low. absurd low), tt)) (λ _. tt) }

reason_low : (reason : Reason) → reason ≡ Low → IsLowRequest (Ask reason)
reason_low reason is = subst (λ (reason : Reason). IsLowRequest (Ask reason)) (sym is) tt

row_keeps : (p : RowInput) (answer : Option rows.Answer) (arrival : Option Message) (row : Row) (r : Reader) → IsBounded r
    → (IsLowRequest row → r.pending ≤ r.source.config.batch / 2) → Keeps (rows.row p answer arrival row r)
row_keeps p answer arrival (Begin change) r k low = begin_keeps p change r k
row_keeps p answer arrival (Ask reason) r k low = ask_keeps p reason r k (λ is. low (reason_low reason is))
row_keeps p answer arrival Threshold r k low = threshold_keeps r k
row_keeps p answer arrival Arm r k low = record { reader = record { bytes = k.bytes; pending = k.pending }; next = tt }
row_keeps p answer arrival (Inquire failures) r k low = if_each Keeps p.up _ _
    (λ _. record { reader = record { bytes = k.bytes; pending = k.pending }; next = tt }) (λ _. record { reader = k; next = ((λ low. absurd low), tt) })
row_keeps p answer arrival (FailInfoRequest failures) r k low = if_each Keeps (nat_lt (failures + 1) 6) _ _
    (λ _. record { reader = record { bytes = k.bytes; pending = k.pending }; next = tt })
    (λ _. record { reader = record { bytes = k.bytes; pending = k.pending }; next = ((λ low. absurd low), tt) })
row_keeps p answer arrival CheckInfoRequest r k low = inquiry_keeps p answer r.inquiry r k
row_keeps p answer arrival (Answered message failures) r k low = answered_keeps failures (rows.info_reply message) r k
row_keeps p answer arrival CheckExpiry r k low = record { reader = k; next = if_each (IsReady r) (is_any_due r.expiry p.now) _ _ (λ _. ((λ low. absurd low), tt)) (λ _. tt) }
row_keeps p answer arrival CheckArrival r k low = arrival_keeps p arrival r k
row_keeps p answer arrival CheckSilence r k low = if_each Keeps (is_any_due r.heartbeat_timer p.now) _ _
    (λ _. record {
      reader = record { bytes = k.bytes; pending = k.pending };
      next = if_each (IsReady (rows.with_silence p.now r)) (r.source.resilience.asks_at_first_heartbeat && not (rows.is_asking r.inquiry)) _ _ (λ _. ((λ low. absurd low), tt)) (λ _. tt);
    })
    (λ _. record { reader = k; next = tt })

-- ---- a walk

all_append : (xs ys : List Row) → NoneLow xs → NoneLow ys → NoneLow (xs ++ ys)
all_append [] ys pxs pys = pys
all_append (x ∷ xs) ys pxs pys = (pxs.0, all_append xs ys pxs.1 pys)

ready_append : (r : Reader) (next later : List Row) → IsReady r next → NoneLow later → IsReady r (next ++ later)
ready_append r [] [] ready none = tt
ready_append r [] (row ∷ rows) ready none = ((λ low. absurd (none.0 low)), none.1)
ready_append r (row ∷ rows) later ready none = (ready.0, all_append rows later ready.1 none)

first_ready : (change : Option State) (r : Reader) (todo : List Row) → IsReady r todo → IsLowRequest (first_row change todo) → r.pending ≤ r.source.config.batch / 2
first_ready change r [] ready low = absurd low
first_ready change r (row ∷ rows) ready low = ready.0 low

later_none : (r : Reader) (todo : List Row) → IsReady r todo → NoneLow (later_rows todo)
later_none r [] ready = tt
later_none r (row ∷ rows) ready = ready.1

step_bounded : (stride : Stride) (at : Position) → IsBoundedAt at → IsBoundedAt (step stride at)
step_bounded stride at k =
    let one : Keeps (passed_by stride at) = row_keeps stride.passing stride.answer stride.arrival (first_row stride.change at.todo) at.reader k.reader (first_ready stride.change at.reader at.todo k.todo) in
    record {
      reader = one.reader;
      todo = ready_append (passed_by stride at).reader (passed_by stride at).next (later_rows at.todo) one.next (later_none at.reader at.todo k.todo);
    }

-- after every poll, and within it, what is pending is bounded
pub walk_bounded : (strides : List Stride) (at : Position) → IsBoundedAt at → IsBoundedAt (walk strides at).position
walk_bounded [] at k = k
walk_bounded (stride ∷ strides) at k = walk_bounded strides (step stride at) (step_bounded stride at k)

-- a new reader is bounded
pub new_bounded : (source : PullSource) (connection : State) → source.config.max_bytes ≡ 0 → IsBoundedAt (record { reader = new_reader source; todo = rows.opening; connection = connection })
new_bounded source connection none = record {
  reader = record { bytes = none; pending = omega arith };
  todo = ((λ low. absurd low), ((λ low. low), tt));
}

closed_bounded : (closed : Bool) (at : Position) → IsBoundedAt at → IsBoundedAt (closed_at closed at)
closed_bounded true at k = record { reader = record { bytes = k.reader.bytes; pending = k.reader.pending }; todo = tt }
closed_bounded false at k = k

-- what a call's contract says of the bound follows from the rows that it passed
pub call_bounded : (strides : List Stride) (closed : Bool) (old new : Position) → new ≡ closed_at closed (walk strides old).position → IsBoundedAt old → IsBoundedAt new
call_bounded strides closed old new leads k = subst IsBoundedAt (sym leads) (closed_bounded closed (walk strides old).position (walk_bounded strides old k))
