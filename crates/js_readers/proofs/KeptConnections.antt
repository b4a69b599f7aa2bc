-- What a poll does to its link keeps the connection: what was sent stays sent, and faults only rise.
use Rattle.std.proofs.Common.{◌≡◌, ◌≢◌, ℕ, ◌≤◌, Bool, true, false, List, [], ◌∷◌, ◌++◌, Option, Some, None, Result, Ok, Err, refl, sym, ◌∙◌, ap, subst, append_assoc, arith, ⊎_elim}
use Rattle.std.proofs.lemmas.List.{append-nil}
use Rattle.js_base.specs.declared.message.Message.{Message}
use Rattle.js_base.specs.declared.turn.Next.{Next}
use Rattle.js_base.specs.declared.turn.Next.TheVariants as next
use Rattle.js_base.specs.declared.error.Error.{Error}
use Rattle.js_link.specs.LinkView.{LinkView, after}
use Rattle.js_link.specs.Calls.{Closes, FailsToSend, OpensOwn, Publishes, Takes, TakesOf}
use Rattle.js_link.specs.Meets.{Meets}
use Rattle.js_link.specs.Wish.{IsClosing}
use Rattle.js_link.specs.declared.link.Taken.{Taken}
use Rattle.js_link.specs.declared.link.Taken.TheVariants as taken
use Rattle.js_link.specs.declared.sent.Sent.{Sent}
use Rattle.js_link.specs.declared.wish.Wish.{Wish}
use Rattle.js_link.specs.declared.wish.Wish.TheVariants.{Nothing, Publishes as Sends, Requests, OpensInbox, Drops, Reads, Awaits, Watches}
use Rattle.js_link.specs.declared.wish.Met.{Met}
use Rattle.js_link.specs.declared.wish.Met.TheVariants.{Unasked, GoneOut, Refused, Dropped, Requested, Opened, Empty, Shut, Took, Waiting, Gone, Got, Stands, WatchOver}
use Rattle.js_ordered_table.specs.declared.consumer.ReplayInput.{ReplayInput}
use Rattle.js_ordered_table.specs.Poll as ordered
use Rattle.js_ordered_table.specs.Walk as walks
use Rattle.js_pull.specs.HeldMessage.{seen, seen_open}
use Rattle.js_pull.specs.Poll as pull
use Rattle.js_readers.specs.Subscription.{KeepsConnection}

-- ---- lists of what was sent

nothing_more : (sent : Option (List Sent)) → sent ≡ after sent []
nothing_more None = refl
nothing_more (Some sent) = ap Some (sym (append-nil sent))

more_after : (sent : Option (List Sent)) (first then : List Sent) → after (after sent first) then ≡ after sent (first ++ then)
more_after None first then = refl
more_after (Some sent) first then = ap Some (append_assoc sent first then)

-- ---- one after the other

pub keeps_same : (v u : LinkView) → u ≡ v → KeepsConnection v u
keeps_same v u same = subst (λ (w : LinkView). KeepsConnection v w) (sym same) (record {
  more = [];
  sent = nothing_more v.sent;
  faults = omega arith;
  up = refl;
  watch = refl;
  max_payload = refl;
  request_timeout = refl;
})

pub keeps_both : (v w u : LinkView) → KeepsConnection v w → KeepsConnection w u → KeepsConnection v u
keeps_both v w u first then = record {
  more = first.more ++ then.more;
  sent = then.sent ∙ ap (λ (s : Option (List Sent)). after s then.more) first.sent ∙ more_after v.sent first.more then.more;
  faults = omega (arith, first.faults, then.faults);
  up = then.up ∙ first.up;
  watch = then.watch ∙ first.watch;
  max_payload = then.max_payload ∙ first.max_payload;
  request_timeout = then.request_timeout ∙ first.request_timeout;
}

-- ---- one call of the link

-- where all but what was sent, the inboxes and the requests is the same
keeps_by : (v u : LinkView) (more : List Sent) → u.sent ≡ after v.sent more → v.faults ≤ u.faults → u.up ≡ v.up → u.watch ≡ v.watch → u.max_payload ≡ v.max_payload
    → u.request_timeout ≡ v.request_timeout → KeepsConnection v u
keeps_by v u more sent faults up watch max_payload request_timeout = record {
  more = more;
  sent = sent;
  faults = faults;
  up = up;
  watch = watch;
  max_payload = max_payload;
  request_timeout = request_timeout;
}

same_faults : (v u : LinkView) → u.faults ≡ v.faults → v.faults ≤ u.faults
same_faults v u e = omega arith

pub keeps_fails : (v u : LinkView) → FailsToSend v u → KeepsConnection v u
keeps_fails v u f =
    keeps_by v u [] (ap (λ (w : LinkView). w.sent) f.fails.same ∙ nothing_more v.sent) f.fails.rises (ap (λ (w : LinkView). w.up) f.fails.same)
    (ap (λ (w : LinkView). w.watch) f.fails.same) (ap (λ (w : LinkView). w.max_payload) f.fails.same) (ap (λ (w : LinkView). w.request_timeout) f.fails.same)

meets_keeps : (wish : Wish) (met : Met) (v u : LinkView) → Meets wish met v u → KeepsConnection v u
meets_keeps Nothing Unasked v u m = keeps_same v u m
meets_keeps (Sends subject reply payload) GoneOut v u m =
    keeps_by v u _ (ap (λ (w : LinkView). w.sent) m.same) (same_faults v u (ap (λ (w : LinkView). w.faults) m.same)) (ap (λ (w : LinkView). w.up) m.same)
    (ap (λ (w : LinkView). w.watch) m.same) (ap (λ (w : LinkView). w.max_payload) m.same) (ap (λ (w : LinkView). w.request_timeout) m.same)
meets_keeps (Sends subject reply payload) Refused v u m = keeps_fails v u m
meets_keeps (Requests subject payload) (Requested number) v u m =
    keeps_by v u _ (ap (λ (w : LinkView). w.sent) m.same) (same_faults v u (ap (λ (w : LinkView). w.faults) m.same)) (ap (λ (w : LinkView). w.up) m.same)
    (ap (λ (w : LinkView). w.watch) m.same) (ap (λ (w : LinkView). w.max_payload) m.same) (ap (λ (w : LinkView). w.request_timeout) m.same)
meets_keeps (Requests subject payload) Refused v u m = keeps_fails v u m
meets_keeps OpensInbox (Opened inbox subject) v u m =
    keeps_by v u _ (ap (λ (w : LinkView). w.sent) m.opens.same) (same_faults v u (ap (λ (w : LinkView). w.faults) m.opens.same)) (ap (λ (w : LinkView). w.up) m.opens.same)
    (ap (λ (w : LinkView). w.watch) m.opens.same) (ap (λ (w : LinkView). w.max_payload) m.opens.same) (ap (λ (w : LinkView). w.request_timeout) m.opens.same)
meets_keeps OpensInbox Refused v u m = keeps_fails v u m
meets_keeps (Drops inbox) Dropped v u m =
    keeps_by v u [] (ap (λ (w : LinkView). w.sent) m.same ∙ nothing_more v.sent) (same_faults v u (ap (λ (w : LinkView). w.faults) m.same)) (ap (λ (w : LinkView). w.up) m.same)
    (ap (λ (w : LinkView). w.watch) m.same) (ap (λ (w : LinkView). w.max_payload) m.same) (ap (λ (w : LinkView). w.request_timeout) m.same)
meets_keeps (Reads inbox) (Took message) v u m =
    keeps_by v u [] (ap (λ (w : LinkView). w.sent) m.same ∙ nothing_more v.sent) (same_faults v u (ap (λ (w : LinkView). w.faults) m.same)) (ap (λ (w : LinkView). w.up) m.same)
    (ap (λ (w : LinkView). w.watch) m.same) (ap (λ (w : LinkView). w.max_payload) m.same) (ap (λ (w : LinkView). w.request_timeout) m.same)
meets_keeps (Reads inbox) Empty v u m = keeps_same v u m.0
meets_keeps (Reads inbox) Shut v u m = keeps_same v u m.0
meets_keeps (Awaits request) (Got reply) v u m =
    keeps_by v u [] (ap (λ (w : LinkView). w.sent) m.same ∙ nothing_more v.sent) (same_faults v u (ap (λ (w : LinkView). w.faults) m.same)) (ap (λ (w : LinkView). w.up) m.same)
    (ap (λ (w : LinkView). w.watch) m.same) (ap (λ (w : LinkView). w.max_payload) m.same) (ap (λ (w : LinkView). w.request_timeout) m.same)
meets_keeps (Awaits request) Gone v u m = keeps_same v u m.0
meets_keeps (Awaits request) Waiting v u m = keeps_same v u m.0
meets_keeps Watches (Stands state) v u m = keeps_same v u m.0
meets_keeps Watches WatchOver v u m = keeps_same v u m.0
meets_keeps wish met v u m = absurd m

pub keeps_meeting : (wish : Wish) (met : Met) (v u : LinkView) → Meets wish met v u → KeepsConnection v u
keeps_meeting wish met v u m = meets_keeps wish met v u m

pub keeps_closes : (inbox : ℕ) (v u : LinkView) → Closes inbox v u → KeepsConnection v u
keeps_closes inbox v u closes = meets_keeps (Drops inbox) Dropped v u closes

pub keeps_opens : (inbox : ℕ) (subject : List ℕ) (v u : LinkView) → OpensOwn inbox subject v u → KeepsConnection v u
keeps_opens inbox subject v u opens = meets_keeps OpensInbox (Opened inbox subject) v u opens

pub keeps_publishes : (subject : List ℕ) (reply : Option (List ℕ)) (payload : List ℕ) (v u : LinkView) → Publishes subject reply None payload v u → KeepsConnection v u
keeps_publishes subject reply payload v u sends = meets_keeps (Sends subject reply payload) GoneOut v u sends

pub keeps_takes : (inbox : ℕ) (message : Message) (v u : LinkView) → Takes inbox message v u → KeepsConnection v u
keeps_takes inbox message v u takes = meets_keeps (Reads inbox) (Took message) v u takes

pub keeps_look : (inbox : ℕ) (found : Taken) (v u : LinkView) → TakesOf inbox found v u → KeepsConnection v u
keeps_look inbox (taken.Message message) v u takes = keeps_takes inbox message v u takes
keeps_look inbox taken.Empty v u takes = keeps_same v u takes.0
keeps_look inbox taken.Closed v u takes = keeps_same v u takes.0

closing_keeps : (wish : Wish) (closed : Bool) (v u : LinkView) → IsClosing Meets wish closed v u → KeepsConnection v u
closing_keeps wish false v u same = keeps_same v u same
closing_keeps (Reads inbox) true v u shut = keeps_same v u shut.0
closing_keeps wish true v u never = absurd never

-- ---- a poll of a pull stream

pull_walk_keeps : (now : ℕ) (begins : Wish) (strides : List pull.Stride) (at : pull.Position) (v u : LinkView) → pull.IsMet now Meets begins strides at v u → KeepsConnection v u
pull_walk_keeps now begins [] at v u same = keeps_same v u same
pull_walk_keeps now begins (stride ∷ strides) at v u (met, between, is, meets, rest) =
    keeps_both v between u (meets_keeps (pull.wish_next begins at) met v between meets) (pull_walk_keeps now begins strides (pull.step stride at) between u rest)

pull_poll_keeps : (now : ℕ) (old new : pull.Position) (v u : LinkView) (answer : pull.PollAnswer) → pull.IsPoll Meets now old new v u answer → KeepsConnection v u
pull_poll_keeps now old new v u answer poll =
    keeps_both v poll.call.between u (pull_walk_keeps now Watches poll.strides old v poll.call.between poll.call.met)
    (closing_keeps (pull.wish_next Watches (pull.walk poll.strides old).position) poll.closed poll.call.between u poll.call.closing)

-- one who holds a message sees the same connection
seen_before : (held : Option Message) (inbox : ℕ) (v u : LinkView) → KeepsConnection (seen held inbox v) u → KeepsConnection v u
seen_before None inbox v u keeps = keeps
seen_before (Some message) inbox v u keeps = by_open (v.is_open inbox) keeps
  where
    by_open : (b : Bool) → KeepsConnection (seen_open b message inbox v) u → KeepsConnection v u
    by_open true keeps = record {
      more = keeps.more;
      sent = keeps.sent;
      faults = keeps.faults;
      up = keeps.up;
      watch = keeps.watch;
      max_payload = keeps.max_payload;
      request_timeout = keeps.request_timeout;
    }
    by_open false keeps = keeps

seen_after : (held : Option Message) (inbox : ℕ) (v u : LinkView) → KeepsConnection v (seen held inbox u) → KeepsConnection v u
seen_after None inbox v u keeps = keeps
seen_after (Some message) inbox v u keeps = by_open (u.is_open inbox) keeps
  where
    by_open : (b : Bool) → KeepsConnection v (seen_open b message inbox u) → KeepsConnection v u
    by_open true keeps = record {
      more = keeps.more;
      sent = keeps.sent;
      faults = keeps.faults;
      up = keeps.up;
      watch = keeps.watch;
      max_payload = keeps.max_payload;
      request_timeout = keeps.request_timeout;
    }
    by_open false keeps = keeps

pub keeps_stream_poll : (now : ℕ) (old new : pull.Position) (held kept : Option Message) (inbox later : ℕ) (v u : LinkView) (answer : pull.PollAnswer)
    → pull.IsPoll Meets now old new (seen held inbox v) (seen kept later u) answer → KeepsConnection v u
keeps_stream_poll now old new held kept inbox later v u answer poll =
    seen_before held inbox v u (seen_after kept later (seen held inbox v) u (pull_poll_keeps now old new (seen held inbox v) (seen kept later u) answer poll))

-- ---- a poll of an ordered consumer

ordered_walk_keeps : (g : ReplayInput) (now : ℕ) (strides : List walks.Stride) (at : walks.Position) (v u : LinkView) → ordered.IsMet g now Meets strides at v u → KeepsConnection v u
ordered_walk_keeps g now [] at v u same = keeps_same v u same
ordered_walk_keeps g now (stride ∷ strides) at v u (met, between, is, is_open, meets, rest) =
    keeps_both v between u (meets_keeps (ordered.poll_wish g at) met v between meets) (ordered_walk_keeps g now strides (walks.step g stride at).position between u rest)

pub keeps_ordered_poll : (g : ReplayInput) (now : ℕ) (old new : walks.Position) (v u : LinkView) (answer : ordered.Answer) → ordered.IsPoll g Meets now old new v u answer → KeepsConnection v u
keeps_ordered_poll g now old new v u answer poll =
    keeps_both v poll.between u (ordered_walk_keeps g now poll.strides old v poll.between poll.met)
    (closing_keeps (ordered.poll_wish g (walks.walk g poll.strides old).position) poll.closed poll.between u poll.closing)
