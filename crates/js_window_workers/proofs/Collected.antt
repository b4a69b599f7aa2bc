-- One worker more, whose pass was joined.
use Rattle.std.proofs.Common.{◌≡◌, ℕ, suc, ◌+◌, ◌*◌, ◌<◌, ◌≤◌, Bool, true, false, nat_lt, get_or, refl, subst, ltb-true, ltb-false, List, [], ◌∷◌, ◌++◌, length, All, AllPairs, sum_by, sym, ap, ◌∙◌, arith, add-zero, append_assoc, append-nil, length-append}
use Rattle.std.proofs.Math.Nat.{suc-mul}
use Rattle.std.proofs.lemmas.List.{get_or_push, get_or_append_left}
use Rattle.std.proofs.lemmas.List.Elements.{All-head, All-tail, All-same, All-push, All-weaker}
use Rattle.std.proofs.lemmas.List.Quantifiers.{all_pairs_push}
use Rattle.std.proofs.lemmas.List.Sums.{sum_by-append, sum_by-cons}
use mathlib.Core.List.{IsPrefix}
use Rattle.js_window.specs.declared.history.Entry.{Entry}
use Rattle.js_window.specs.History.{IsLegal}
use Rattle.js_window.proofs.Prefixes.{prefix-trans}
use Rattle.js_window_workers.specs.declared.worker.Ended.{Ended}
use Rattle.js_window_workers.specs.declared.worker.Job.{Job}
use Rattle.js_window.specs.Caller.{WindowId, Caller, Splits}
use Rattle.js_window_workers.specs.Worker.{AreNumbered, HaveOwnPasses, IsReady}

module _ {X : Type 0} where
  pub sum_by-push : (f : X → ℕ) (xs : List X) (x : X) → sum_by f (xs ++ x ∷ []) ≡ sum_by f xs + f x
  sum_by-push f xs x = sum_by-append f xs (x ∷ []) ∙ ap (λ n. sum_by f xs + n) (sum_by-cons f x [] ∙ add-zero (f x))

  pub length-push-times : (xs : List X) (x : X) (n : ℕ) → length (xs ++ x ∷ []) * n ≡ length xs * n + n
  length-push-times xs x n =
      let more : length (xs ++ x ∷ []) ≡ suc (length xs) = omega (arith, length-append xs (x ∷ [])) in
      ap (λ k. k * n) more ∙ suc-mul (length xs) n

  -- what stands in the middle is one of all
  pub All-middle : (P : X → Type 0) (xs : List X) (x : X) (ys all : List X) → xs ++ x ∷ ys ≡ all → All P all → P x
  All-middle P xs x ys all same each = go xs (All-same P (xs ++ x ∷ ys) all same each)
    where
      go : (before : List X) → All P (before ++ x ∷ ys) → P x
      go [] h = All-head P x ys h
      go (b ∷ before) h = go before (All-tail P b (before ++ x ∷ ys) h)

  -- where none is left, those so far are all
  pub All-whole : (P : X → Type 0) (xs ys all : List X) → xs ++ ys ≡ all → length ys ≡ 0 → All P xs → All P all
  All-whole P xs [] all same none each = All-same P all xs (sym same ∙ append-nil xs) each
  All-whole P xs (y ∷ ys) all same none each = absurd (omega arith)

  pub next_rest : (xs rest : List X) (x : X) (later all : List X) → xs ++ rest ≡ all → rest ≡ x ∷ later → (xs ++ x ∷ []) ++ later ≡ all
  next_rest xs rest x later all same goes = append_assoc xs (x ∷ []) later ∙ ap (λ l. xs ++ l) (sym goes) ∙ same

-- whoever had seen the history of one had seen that of all after it
pub joined_more : (workers : List Ended) (worker : Ended) (before after : List Entry) → IsPrefix before after → IsPrefix worker.pass.seen after → All (λ (e : Ended). IsPrefix e.pass.seen before) workers
    → All (λ (e : Ended). IsPrefix e.pass.seen after) (workers ++ worker ∷ [])
joined_more workers worker before after grows own each =
    All-push (λ (e : Ended). IsPrefix e.pass.seen after) workers worker
    (All-weaker (λ (e : Ended). IsPrefix e.pass.seen before) (λ (e : Ended). IsPrefix e.pass.seen after) (λ e p. prefix-trans e.pass.seen before after p grows) workers each) own

-- one worker more, with the next number
pub numbered_more : (jobs after : List Job) (job : Job) → after ≡ jobs ++ job ∷ [] → AreNumbered jobs → job.worker ≡ length jobs → AreNumbered after
numbered_more jobs after job pushed each next = subst AreNumbered (sym pushed) all
  where
    all : AreNumbered (jobs ++ job ∷ [])
    all i d lt = go (nat_lt i (length jobs)) refl
      where
        go : (b : Bool) → nat_lt i (length jobs) ≡ b → (get_or (jobs ++ job ∷ []) i d).worker ≡ i
        go true e = let before : i < length jobs = ltb-true i (length jobs) e in ap (λ (j : Job). j.worker) (get_or_append_left jobs (job ∷ []) d i before) ∙ each i d before
        go false e =
            let at : length jobs ≡ i = let le : length jobs ≤ i = ltb-false i (length jobs) e in omega (arith, lt, length-append jobs (job ∷ [])) in
            ap (λ (j : Job). j.worker) (get_or_push jobs job d i at) ∙ next ∙ at

-- a worker with a new pass is ready
pub ready_new : (window : WindowId) (p q : Caller) (number : ℕ) → Splits p q → p.window ≡ window → IsReady window (record { pass = q; worker = number })
ready_new window p q number new own = record {
  own = new.window ∙ own;
  legal = subst (λ (w : WindowId). IsLegal w.capacity q.seen) (new.window ∙ own) new.legal;
  none_made = new.mine;
  fresh = new.fresh;
}

-- whether a worker is ready is a question of its pass
pub ready_by : (window : WindowId) (pass : Caller) (m n : ℕ) → IsReady window (record { pass = pass; worker = m }) → IsReady window (record { pass = pass; worker = n })
ready_by window pass m n r = record { own = r.own; legal = r.legal; none_made = r.none_made; fresh = r.fresh }

-- no pass is there yet
pub apart_none : (jobs : List Job) → jobs ≡ [] → HaveOwnPasses jobs
apart_none jobs none = subst HaveOwnPasses (sym none) (λ i j d lt within. absurd (omega arith))

-- one pass more, whose number is above those before it
pub apart_more : (jobs after : List Job) (job : Job) → after ≡ jobs ++ job ∷ [] → HaveOwnPasses jobs → All (λ (j : Job). j.pass.number < job.pass.number) jobs → HaveOwnPasses after
apart_more jobs after job pushed apart below =
    subst HaveOwnPasses (sym pushed) (all_pairs_push (λ (a b : Job). a.pass.number < b.pass.number) jobs job apart below)

-- the numbers of all are below the next one
pub below_more : (jobs : List Job) (job : Job) (next : ℕ) → job.pass.number < next → All (λ (j : Job). j.pass.number < job.pass.number) jobs → All (λ (j : Job). j.pass.number < next) (jobs ++ job ∷ [])
below_more jobs job next later below =
    All-push (λ (j : Job). j.pass.number < next) jobs job
    (All-weaker (λ (j : Job). j.pass.number < job.pass.number) (λ (j : Job). j.pass.number < next) (λ j lt. omega (arith, lt, later)) jobs below) later

-- workers whose passes are those of the jobs have different numbers as these have
pub worked_apart : (jobs : List Job) (workers : List Ended) → length workers ≡ length jobs → HaveOwnPasses jobs
    → ((i : ℕ) (d : Ended) → i < length jobs → (job : Job) × ((e : Job) → get_or jobs i e ≡ job) × ((get_or workers i d).pass.number ≡ job.pass.number))
    → AllPairs (λ (a b : Ended). a.pass.number < b.pass.number) workers
worked_apart jobs workers long apart same i j d lt within =
    let there : j < length jobs = omega (arith, within, long) in
    let a = same i d (omega (arith, lt, there)) in
    let b = same j d there in
    let less : (get_or jobs i a.0).pass.number < (get_or jobs j a.0).pass.number = apart i j a.0 lt there in
    let of_jobs : a.0.pass.number < b.0.pass.number = subst (λ (z : Job × Job). z.0.pass.number < z.1.pass.number) (λ k. (a.1 a.0 k, b.1 a.0 k)) less in
    subst (λ (z : ℕ × ℕ). z.0 < z.1) (λ k. (sym a.2 k, sym b.2 k)) of_jobs
