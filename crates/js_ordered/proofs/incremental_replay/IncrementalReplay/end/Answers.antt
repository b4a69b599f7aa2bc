use Rattle.std.proofs.Common.{sym}
use Rattle.js_ordered.proofs.EventByEvent.{ends_input, ends_early, ends_exhausted, ends_run}
use Rattle.js_ordered.proofs.incremental_replay.IncrementalReplay.end.Goals as goal

pub returns-in-Some-clause-ended : goal.returns-in-Some-clause-ended
returns-in-Some-clause-ended c = λ g start es come. ends_input g start es c.args.self.now c.in-Some.refusal come (sym c.in-Some.ensures)

pub returns-in-Some-early-clause-ended : goal.returns-in-Some-early-clause-ended
returns-in-Some-early-clause-ended c = λ g start es come. ends_early g start es c.args.self.now c.in-Some-early.place come (sym c.in_default.ensures) c.in-Some-early.is

pub returns-in-Some-exhausted-clause-ended : goal.returns-in-Some-exhausted-clause-ended
returns-in-Some-exhausted-clause-ended c = λ g start es come. ends_exhausted g start es c.args.self.now c.in-Some-exhausted.place come (sym c.in_default.ensures) c.in_default-early.is c.in-Some-exhausted.is

pub returns-clause-ended : goal.returns-clause-ended
returns-clause-ended c = λ g start es come. ends_run g start es c.args.self.now c.is_over.result come (sym c.in_default.ensures) c.in_default-early.is c.in_default-exhausted.is c.is_over.ensures
