use Rattle.std.proofs.Common.{◌≡◌, ℕ, refl, sym, ◌∙◌, ap, subst}
use Rattle.js_link.specs.Calls.{TakesOf}
use Rattle.js_link.specs.LinkView.{LinkView}
use Rattle.js_link.specs.Meets.{Meets}
use Rattle.js_link.specs.declared.wish.Wish.TheVariants.{Reads}
use Rattle.js_link.specs.declared.wish.Met.TheVariants.{Unasked}
use Rattle.js_link.specs.declared.link.Taken.{Taken}
use Rattle.js_link.specs.declared.link.Taken.TheVariants as taken
use Rattle.js_readers.specs.PushRows.{armed, arrival_row, next_row, pass, silent_row, wish}
use Rattle.js_readers.specs.PushMessages.{Passes, met_of}
use Rattle.js_readers.specs.declared.push.messages.Messages.{Messages}
use Rattle.js_readers.specs.declared.push.row.Row.{Row}
use Rattle.js_readers.specs.declared.push.row.Row.TheVariants.{Arm, CheckArrival, Ended}
use Rattle.js_readers.specs.declared.push.row.RowOutcome.{RowOutcome}
use Rattle.js_readers.specs.declared.push.row.RowOutcome.TheVariants.{Ends}
use Rattle.js_readers.specs.declared.push.row.RowOutcome.TheVariants as tells
use Rattle.js_readers.proofs.push.messages.Messages.pass.Goals as goal

arms : (now : ℕ) (old middle new : Messages) (v : LinkView) → old.next ≡ Arm → middle ≡ armed now old → new ≡ next_row CheckArrival middle → Passes now tells.Nothing old new v v
arms now old middle new v row begun follows = record {
  met = Unasked;
  meets = subst (λ (x : Row). Meets (wish x old.inbox) Unasked v v) (sym row) refl;
  passed = subst (λ (x : Row). pass now Unasked x old ≡ record { told = tells.Nothing; messages = new }) (sym row)
      (ap (λ (r : Messages). silent_row r) (sym (follows ∙ ap (λ (r : Messages). next_row CheckArrival r) begun)));
}

taken_meets : (t : Taken) (inbox : ℕ) (v u : LinkView) → TakesOf inbox t v u → Meets (Reads inbox) (met_of t) v u
taken_meets (taken.Message m) inbox v u takes = takes
taken_meets taken.Empty inbox v u takes = takes
taken_meets taken.Closed inbox v u takes = takes

arrives : (now : ℕ) (told : RowOutcome) (t : Taken) (old new : Messages) (v u : LinkView) → old.next ≡ CheckArrival → TakesOf old.inbox t v u
    → arrival_row now (met_of t) old ≡ record { told = told; messages = new } → Passes now told old new v u
arrives now told t old new v u row takes makes = record {
  met = met_of t;
  meets = subst (λ (x : Row). Meets (wish x old.inbox) (met_of t) v u) (sym row) (taken_meets t old.inbox v u takes);
  passed = subst (λ (x : Row). pass now (met_of t) x old ≡ record { told = told; messages = new }) (sym row) makes;
}

ends : (now : ℕ) (old : Messages) (v : LinkView) → old.next ≡ Ended → Passes now Ends old old v v
ends now old v row = record {
  met = Unasked;
  meets = subst (λ (x : Row). Meets (wish x old.inbox) Unasked v v) (sym row) refl;
  passed = subst (λ (x : Row). pass now Unasked x old ≡ record { told = Ends; messages = old }) (sym row) refl;
}

pub returns-in-Arm : goal.returns-in-Arm
returns-in-Arm g c = arms _ _ _ _ _ c.in-Arm.is c.arm.ensures c.follow.ensures

pub returns-in-CheckArrival : goal.returns-in-CheckArrival
returns-in-CheckArrival g c = arrives _ _ _ _ _ _ _ c.in-CheckArrival.is c.take-taken.ensures c.check_arrival.ensures

pub returns-in-Ended : goal.returns-in-Ended
returns-in-Ended g c = ends c.args.now c.args.self.now _ c.in-Ended.is
