-- What a user can watch of a queue: a function of its state.
use Rattle.std.specs.Prelude.{◌≡◌, ℕ, List, [], ◌∷◌, ◌++◌, length, Option, Some, None, codes, refl}
use Rattle.std.specs.Fmt.{decimal, digits}
use Rattle.js_context.specs.Context.{ContextView}
use Rattle.js_context_queue.specs.Queue.{QueueView}
use Rattle.js_context_queue.specs.declared.queue.health.QueueHealth.{QueueHealth}
use Rattle.js_context_queue.specs.declared.unsent.Unsent.{Unsent}

-- since when the first message waits to be sent: since it was pushed
abbrev pub first_since : List Unsent → Option ℕ
first_since [] = None
first_since (first ∷ more) = Some first.since

-- what a user can watch of it
abbrev pub health_of : QueueView → QueueHealth
health_of q = record {
  pushed = q.next;
  unsent = length q.unsent;
  in_flight = length q.in_flight;
  waiting_since = first_since q.unsent;
}

-- what is said of a message that waits to be sent
abbrev pub waiting_text : Option ℕ → List ℕ
waiting_text None = []
waiting_text (Some since) = codes ", the first since " ++ (decimal since ++ codes " ns")

-- what is said of how many it holds
abbrev pub counts_text : ℕ → ℕ → ℕ → List ℕ
counts_text pushed in_flight unsent = codes "pushed: " ++ (decimal pushed ++ (codes "; in flight: " ++ (decimal in_flight ++ (codes "; unsent: " ++ decimal unsent))))

-- one line
abbrev pub health_text : QueueHealth → List ℕ
health_text h = counts_text h.pushed h.in_flight h.unsent ++ waiting_text h.waiting_since

-- worked: five were pushed, two of them wait to be sent, the first of these since moment 7, and none is in flight: three have their outcome
worked_health : (context : ContextView) (first second : Unsent)
    → health_of (record { context = context; unsent = record first { since = 7 } ∷ second ∷ []; in_flight = []; next = 5; send_timeout = 9 })
    ≡ record { pushed = 5; unsent = 2; in_flight = 0; waiting_since = Some 7 }
worked_health context first second = refl

-- how that is printed
worked_text : health_text (record { pushed = 5; unsent = 2; in_flight = 0; waiting_since = Some 7 }) ≡ codes "pushed: 5; in flight: 0; unsent: 2, the first since 7 ns"
unfolding digits
worked_text = refl
