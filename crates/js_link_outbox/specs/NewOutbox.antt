-- A link that was just made.
use Rattle.std.specs.Prelude.{ℕ, ◌≡◌, ◌++◌, false, Some, None, List, [], ◌∷◌, codes}
use Rattle.js_base.specs.declared.message.State.TheVariants.{Pending}
use Rattle.js_link.specs.declared.link.Watch.TheVariants as watch
use Rattle.js_link.specs.LinkView.{LinkView, Ended}
use Rattle.js_link_outbox.specs.declared.outgoing.Outgoing.TheVariants.{Subscribe}
use Rattle.js_link_outbox.specs.declared.outbox.OutboxLink.{OutboxLink}
use Rattle.js_link_outbox.specs.Outbox.{all_sent_by, answers_subject, fresh_subject, inbox_subject, outbox_view, outgoing}

-- what its own subjects begin with
abbrev pub front_of : List ℕ → List ℕ → List ℕ
front_of inbox_prefix token = inbox_prefix ++ (codes "." ++ (token ++ codes "."))

-- what it means: no inbox and no request, any body and ten seconds
abbrev pub opened_view : List ℕ → LinkView
opened_view front = record {
  faults = 0;
  up = None;
  numbers = Some (record { inbox = 1; request = 1; fresh = 0; inbox_subject = inbox_subject front; fresh_subject = fresh_subject front });
  is_open = λ _. false;
  count = λ _. 0;
  status = λ _. Ended;
  watch = watch.State Pending;
  max_payload = 18446744073709551615;
  request_timeout = Some 10_000_000_000;
  buffer = λ _. Some [];
  reply = λ _. None;
  sent = Some (all_sent_by (Subscribe 0 (answers_subject front) None ∷ []));
}

-- it has the subscription of all answers to send, and nothing else
pub record IsOpened (front : List ℕ) (o : OutboxLink) : Type 0 where
  pub same_front : o.front ≡ front
  pub items : outgoing o ≡ Subscribe 0 (answers_subject front) None ∷ []
  pub view : outbox_view o ≡ opened_view front
