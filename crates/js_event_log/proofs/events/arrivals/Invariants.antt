use Rattle.std.proofs.Common.{◌≡◌, ◌+◌, ◌^◌, ◌<◌, ◌++◌, take, drop}
use Rattle.std.specs.List.{AllByRecursion}
use Rattle.js_base.specs.declared.message.Entry.{Entry}
use Rattle.js_event_log.specs.Events.{relayed}
use Rattle.js_event_log.proofs.events.arrivals.Given as goal

abbrev pub invariant-loop-entry : goal.invariant-loop-entry
invariant-loop-entry l = record {
  number : l.number ≡ l.entry-index;
  events : relayed l.stream l.name 1 l.entries ≡ l.events.items ++ relayed l.stream l.name (l.number + 1) (drop l.entry-index l.entries);
  fit : AllByRecursion (λ (e : Entry). e.sequence < 2 ^ 64) (take l.entry-index l.entries);
}
