-- What polls send is what their outputs ask for.
use Rattle.std.proofs.Common.{◌≡◌, ◌⊎◌, ℕ, ◌+◌, ◌∙◌, Bool, true, false, List, [], ◌∷◌, ◌++◌, length, length-append, Option, Some, None, refl, sym, ap, subst, inl, inr, append_assoc, append-nil}
use Rattle.std.specs.Prelude.{Result, Ok, Err}
use Rattle.std.proofs.lemmas.List.Elements.{filter-append}
use Rattle.js_base.specs.declared.error.Error.{Error}
use Rattle.js_base.specs.declared.message.Message.{Message}
use Rattle.js_base.specs.declared.turn.Next.{Next}
use Rattle.js_base.specs.declared.turn.Next.TheVariants as next
use Rattle.js_link.specs.LinkView.{LinkView, after}
use Rattle.js_link.specs.declared.sent.InboxId.{InboxId}
use Rattle.js_link.specs.declared.sent.RequestId.{RequestId}
use Rattle.js_link.specs.declared.sent.Sent.{Sent}
use Rattle.js_link.specs.declared.sent.Sent.TheVariants as sends
use Rattle.js_ordered_recorder.specs.Acts.{Act, Does, DoesAll, Gives, Passes, Stops, Takes, Works, World, Writes, outgoing, outputs_of, phase_of}
use Rattle.js_ordered_recorder.specs.Life.{AreSentAs}
use Rattle.js_ordered_recorder.specs.LinkInput.{AnswersAs, ArrivesAs, GivesAnswer, GivesArrival, awaited_at, awaited_in, listened_at, read_in}
use Rattle.js_ordered_recorder.specs.Recorder.{Answers, Goes, HandsOver}
use Rattle.js_ordered_recorder.specs.Sends.{AsksAs, ClosesAt, GoesTo, OpensAs, Outgoing, PublishesAs}
use Rattle.js_ordered_recorder.specs.declared.link_event.Taken.{Taken}
use Rattle.js_ordered_recorder.specs.declared.link_event.Taken.TheVariants as taken
use Rattle.js_ordered_recorder.specs.declared.link_input.Awaited.{Awaited}
use Rattle.js_ordered_recorder.specs.declared.link_input.Awaited.TheVariants as awaited
use Rattle.js_ordered_recorder.specs.declared.link_input.Listened.{Listened}
use Rattle.js_ordered_recorder.specs.declared.recorder.Recorder.{Recorder}
use Rattle.js_ordered_stream.specs.declared.error.OrderedErrorKind.{OrderedErrorKind}
use Rattle.js_ordered_table.specs.Walk.{is_sent, sent as asked_in}
use Rattle.js_ordered_table.specs.declared.event.Event.{Event}
use Rattle.js_ordered_table.specs.declared.run.Output.{Output}
use Rattle.js_ordered_table.specs.declared.run.Output.TheVariants as out

-- ---- what was sent, and more

after_twice : (s : Option (List Sent)) (a b : List Sent) → after (after s a) b ≡ after s (a ++ b)
after_twice None a b = refl
after_twice (Some s) a b = ap (λ (x : List Sent). Some x) (append_assoc s a b)

after_none : (s : Option (List Sent)) → after s [] ≡ s
after_none None = refl
after_none (Some s) = ap (λ (x : List Sent). Some x) (append-nil s)

are_append : (xs ys : List Output) (a b : List Sent) → AreSentAs xs a → AreSentAs ys b → AreSentAs (xs ++ ys) (a ++ b)
are_append [] ys a b first more = let P : List Sent → Type 0 = λ l. AreSentAs ys (l ++ b) in subst P (sym first) more
are_append (o ∷ xs) ys a b (inl (one, rest, is, goes, first)) more = inl (one, rest ++ b, ap (λ (l : List Sent). l ++ b) is, goes, are_append xs ys rest b first more)
are_append (o ∷ xs) ys a b (inr first) more = inr (are_append xs ys a b first more)

-- what outputs ask for is sent on the way from one link to another
pub record Delivers (outputs : List Output) (v w : LinkView) : Type 0 where
  pub all : List Sent
  pub are : AreSentAs (asked_in outputs) all
  pub told : w.sent ≡ after v.sent all
  pub up : w.up ≡ v.up
  pub whole : v.up ≡ Some true → length all ≡ length (asked_in outputs)

delivers_on : (xs ys : List Output) (u v w : LinkView) → Delivers xs u v → Delivers ys v w → Delivers (xs ++ ys) u w
delivers_on xs ys u v w first more =
    let parts : asked_in (xs ++ ys) ≡ asked_in xs ++ asked_in ys = filter-append is_sent xs ys in
    let P : List Output → Type 0 = λ l. AreSentAs l (first.all ++ more.all) in
    record {
      all = first.all ++ more.all;
      are = subst P (sym parts) (are_append (asked_in xs) (asked_in ys) first.all more.all first.are more.are);
      told = more.told ∙ ap (λ (s : Option (List Sent)). after s more.all) first.told ∙ after_twice u.sent first.all more.all;
      up = more.up ∙ first.up;
      whole = λ is.
          length-append first.all more.all
          ∙ ap (λ (n : ℕ). n + length more.all) (first.whole is)
          ∙ ap (λ (n : ℕ). length (asked_in xs) + n) (more.whole (first.up ∙ is))
          ∙ sym (length-append (asked_in xs) (asked_in ys))
          ∙ ap (λ (l : List Output). length l) (sym parts);
    }

-- what was sent stays
abbrev StaysSent : LinkView → LinkView → Type 0
StaysSent v w = (w.sent ≡ v.sent) × (w.up ≡ v.up)

same_stays : (v w : LinkView) → w ≡ v → StaysSent v w
same_stays v w same = (ap (λ (x : LinkView). x.sent) same, ap (λ (x : LinkView). x.up) same)

stays_on : (outputs : List Output) (v w : LinkView) → asked_in outputs ≡ [] → StaysSent v w → Delivers outputs v w
stays_on outputs v w none stays =
    let P : List Output → Type 0 = λ l. AreSentAs l [] in
    record {
      all = [];
      are = subst P (sym none) refl;
      told = stays.0 ∙ sym (after_none v.sent);
      up = stays.1;
      whole = λ is. ap (λ (l : List Output). length l) (sym none);
    }

-- ---- an output

asks_as : (number : ℕ) (subject payload : List ℕ) (request : Option RequestId) (v w : LinkView) → AsksAs request subject payload v w → Delivers (out.Request number subject payload ∷ []) v w
asks_as number subject payload (Some request) v w goes = record {
  all = sends.Request request.0 subject None payload ∷ [];
  are = inl (sends.Request request.0 subject None payload, [], refl, (request.0, refl), refl);
  told = ap (λ (x : LinkView). x.sent) goes.same;
  up = ap (λ (x : LinkView). x.up) goes.same;
  whole = λ is. refl;
}
asks_as number subject payload None v w goes = record {
  all = [];
  are = inr refl;
  told = ap (λ (x : LinkView). x.sent) goes.fails.same ∙ sym (after_none v.sent);
  up = ap (λ (x : LinkView). x.up) goes.fails.same;
  whole = λ is. absurd (goes.not_up is);
}

publishes_as : (subject : List ℕ) (reply : Option (List ℕ)) (payload : List ℕ) (went : Bool) (v w : LinkView) → PublishesAs went subject reply payload v w → Delivers (out.Publish subject reply payload ∷ []) v w
publishes_as subject reply payload true v w goes = record {
  all = sends.Publish subject reply None payload ∷ [];
  are = inl (sends.Publish subject reply None payload, [], refl, refl, refl);
  told = ap (λ (x : LinkView). x.sent) goes.same;
  up = ap (λ (x : LinkView). x.up) goes.same;
  whole = λ is. refl;
}
publishes_as subject reply payload false v w goes = record {
  all = [];
  are = inr refl;
  told = ap (λ (x : LinkView). x.sent) goes.fails.same ∙ sym (after_none v.sent);
  up = ap (λ (x : LinkView). x.up) goes.fails.same;
  whole = λ is. absurd (goes.not_up is);
}

opens_as : (inbox : ℕ) (subject : List ℕ) (opened : Option InboxId) (v w : LinkView) → OpensAs opened subject v w → Delivers (out.Subscribe inbox subject ∷ []) v w
opens_as inbox subject (Some own) v w goes = record {
  all = sends.Subscribe own.0 subject None ∷ [];
  are = inl (sends.Subscribe own.0 subject None, [], refl, (own.0, refl), refl);
  told = ap (λ (x : LinkView). x.sent) goes.same;
  up = ap (λ (x : LinkView). x.up) goes.same;
  whole = λ is. refl;
}
opens_as inbox subject None v w goes = record {
  all = [];
  are = inr refl;
  told = ap (λ (x : LinkView). x.sent) goes.fails.same ∙ sym (after_none v.sent);
  up = ap (λ (x : LinkView). x.up) goes.fails.same;
  whole = λ is. absurd (goes.not_up is);
}

closes_stays : (inbox : Option InboxId) (v w : LinkView) → ClosesAt inbox v w → StaysSent v w
closes_stays (Some inbox) v w closes = (ap (λ (x : LinkView). x.sent) closes.same, ap (λ (x : LinkView). x.up) closes.same)
closes_stays None v w same = same_stays v w same

goes_deliver : (o : Output) (a b : Outgoing) → GoesTo o a b → Delivers (o ∷ []) a.link b.link
goes_deliver (out.Request number subject payload) a b goes = asks_as number subject payload goes.0.request a.link b.link goes.0.goes
goes_deliver (out.Publish subject reply payload) a b goes = publishes_as subject reply payload goes.0.sent a.link b.link goes.0.goes
goes_deliver (out.Subscribe inbox subject) a b goes =
    let opens : Delivers (out.Subscribe inbox subject ∷ []) a.link goes.0.between = opens_as inbox subject goes.0.opened a.link goes.0.between goes.0.opens in
    delivers_on (out.Subscribe inbox subject ∷ []) [] a.link goes.0.between b.link opens
    (stays_on [] goes.0.between b.link refl (closes_stays a.sends.inbox goes.0.between b.link goes.0.closes))
goes_deliver (out.Yield stream_sequence consumer_sequence subject payload) a b goes =
    stays_on (out.Yield stream_sequence consumer_sequence subject payload ∷ []) a.link b.link refl (same_stays a.link b.link goes.1)
goes_deliver (out.Item kind) a b goes = stays_on (out.Item kind ∷ []) a.link b.link refl (same_stays a.link b.link (ap (λ (x : Outgoing). x.link) goes))
goes_deliver (out.Recreate recreation_count start) a b goes =
    stays_on (out.Recreate recreation_count start ∷ []) a.link b.link refl (same_stays a.link b.link (ap (λ (x : Outgoing). x.link) goes))

-- ---- what is taken

answer_stays : (number : ℕ) (message : Message) (waits : Awaited) (v w : LinkView) → GivesAnswer number message waits v w → StaysSent v w
answer_stays number message awaited.Nothing v w gives = absurd gives
answer_stays number message (awaited.Unsent other) v w gives = absurd gives
answer_stays number message (awaited.Sent other request) v w gives = (ap (λ (x : LinkView). x.sent) gives.1.same, ap (λ (x : LinkView). x.up) gives.1.same)

answers_stay : (waits : Awaited) (one : Taken) (v w : LinkView) → AnswersAs waits (Some one) v w → StaysSent v w
answers_stay waits (taken.Gone number) v w gives = same_stays v w gives.0
answers_stay waits (taken.Answer number message) v w gives = answer_stays number message waits v w gives
answers_stay waits (taken.Link up) v w gives = absurd gives
answers_stay waits (taken.Connection state) v w gives = absurd gives
answers_stay waits taken.WatcherEnded v w gives = absurd gives
answers_stay waits (taken.Arrival inbox message) v w gives = absurd gives
answers_stay waits taken.Tick v w gives = absurd gives

arrival_stays : (number : ℕ) (message : Message) (read : Option Listened) (v w : LinkView) → GivesArrival number message read v w → StaysSent v w
arrival_stays number message None v w gives = absurd gives
arrival_stays number message (Some read) v w gives = (ap (λ (x : LinkView). x.sent) gives.1.same, ap (λ (x : LinkView). x.up) gives.1.same)

arrives_stay : (read : Option Listened) (one : Taken) (v w : LinkView) → ArrivesAs read (Some one) v w → StaysSent v w
arrives_stay read (taken.Arrival number message) v w gives = arrival_stays number message read v w gives
arrives_stay read (taken.Gone number) v w gives = absurd gives
arrives_stay read (taken.Answer number message) v w gives = absurd gives
arrives_stay read (taken.Link up) v w gives = absurd gives
arrives_stay read (taken.Connection state) v w gives = absurd gives
arrives_stay read taken.WatcherEnded v w gives = absurd gives
arrives_stay read taken.Tick v w gives = absurd gives

gives_stay : (now : ℕ) (one : Taken) (r : Recorder) (v w : LinkView) → Gives now one r v w → StaysSent v w
gives_stay now one r v w (inl said) = same_stays v w said.0
gives_stay now one r v w (inr (inl changed)) = same_stays v w changed.0
gives_stay now one r v w (inr (inr (inl answer))) = answers_stay (awaited_at (awaited_in (phase_of r)) r.sends.asked) one v w answer
gives_stay now one r v w (inr (inr (inr (inl arrival)))) = arrives_stay (listened_at (read_in (phase_of r)) r.sends) one v w arrival
gives_stay now one r v w (inr (inr (inr (inr tick)))) = same_stays v w tick.0

-- ---- acts in order

acts_deliver : (now : ℕ) (acts : List Act) (a b : World) → DoesAll now acts a b → Delivers (outputs_of acts) a.link b.link
acts_deliver now [] a b does = stays_on [] a.link b.link refl (same_stays a.link b.link (ap (λ (x : World). x.link) does))
acts_deliver now (Takes one ∷ acts) a b does =
    delivers_on [] (outputs_of acts) a.link does.0.link b.link (stays_on [] a.link does.0.link refl (gives_stay now one a.recorder a.link does.0.link does.1.given)) (acts_deliver now acts does.0 b does.2)
acts_deliver now (Writes e ∷ acts) a b does =
    delivers_on [] (outputs_of acts) a.link does.0.link b.link (stays_on [] a.link does.0.link refl (same_stays a.link does.0.link does.1.link)) (acts_deliver now acts does.0 b does.2)
acts_deliver now (Passes ∷ acts) a b does =
    delivers_on [] (outputs_of acts) a.link does.0.link b.link (stays_on [] a.link does.0.link refl (same_stays a.link does.0.link does.1.link)) (acts_deliver now acts does.0 b does.2)
acts_deliver now (Stops ∷ acts) a b does =
    delivers_on [] (outputs_of acts) a.link does.0.link b.link (stays_on [] a.link does.0.link refl (same_stays a.link does.0.link does.1.link)) (acts_deliver now acts does.0 b does.2)
acts_deliver now (Works o ∷ acts) a b does =
    delivers_on (o ∷ []) (outputs_of acts) a.link does.0.link b.link (goes_deliver o (outgoing a) (outgoing does.0) does.1.goes) (acts_deliver now acts does.0 b does.2)

going_delivers : (now : ℕ) (a b : World) (es : List Event) (worked : List Output) → Goes now a es worked b → Delivers worked a.link b.link
going_delivers now a b es worked goes = let P : List Output → Type 0 = λ os. Delivers os a.link b.link in subst P goes.outputs (acts_deliver now goes.acts a b goes.does)

hands_deliver : (now : ℕ) (o : Output) (a b : World) (es : List Event) (worked : List Output) → HandsOver now o a es worked b → Delivers worked a.link b.link
hands_deliver now o a b es worked hands =
    let P : List Output → Type 0 = λ os. Delivers os a.link b.link in
    subst P (sym hands.outputs)
    (delivers_on hands.before (o ∷ []) a.link hands.between.link b.link (going_delivers now a hands.between es hands.before hands.goes) (goes_deliver o (outgoing hands.between) (outgoing b) hands.last.goes))

-- ---- a poll

pub answers_deliver : (now : ℕ) (answer : Next (Result Message (Error OrderedErrorKind))) (a b : World) (es : List Event) (worked : List Output) → Answers now answer a es worked b → Delivers worked a.link b.link
answers_deliver now next.Pending a b es worked answers = going_delivers now a b es worked answers.0
answers_deliver now next.End a b es worked answers = going_delivers now a b es worked answers.0
answers_deliver now next.OutOfMemory a b es worked answers = going_delivers now a b es worked answers
answers_deliver now (next.Item (Ok message)) a b es worked answers =
    let P : LinkView → Type 0 = λ v. Delivers worked a.link v in
    let y = answers.yields in
    subst P (sym (ap (λ (x : World). x.link) answers.kept)) (hands_deliver now (out.Yield y.stream_sequence y.consumer_sequence y.subject y.payload) a answers.between es worked y.hands)
answers_deliver now (next.Item (Err e)) a b es worked answers =
    let P : LinkView → Type 0 = λ v. Delivers worked a.link v in
    subst P (sym (ap (λ (x : World). x.link) answers.kept)) (hands_deliver now (out.Item answers.kind) a answers.between es worked answers.hands)
