-- The arrivals of a relayed mirror, one after another: they hand out its entries.
use Rattle.std.proofs.Common.{◌≡◌, ℕ, ◌+◌, ◌^◌, ◌<◌, ◌≤◌, Bool, true, false, eqb, List, [], ◌∷◌, ◌++◌, length, map, None, refl, ap, ◌∙◌, subst, arith}
use Rattle.std.specs.Prelude.{nat_lt, if◌then◌else◌, Some, Option, option_map}
use Rattle.std.specs.List.{AllByRecursion}
use Rattle.std.proofs.lemmas.Bool.Decides.{nat_tests, Decides-eqb}
use Rattle.js_base.specs.declared.message.Entry as base
use Rattle.js_codes.specs.Name.{is_name}
use Rattle.js_json.specs.declared.consumer.info.Info.{Info}
use Rattle.js_json.specs.declared.pull.OrderedConfig.{OrderedConfig}
use Rattle.js_message.specs.AckSubject.{Place}
use Rattle.js_pull.specs.declared.reader.PullSource.{PullSource}
use Rattle.js_ordered_table.specs.declared.setup.Settings.{Settings}
use Rattle.js_ordered_table.specs.declared.consumer.ReplayInput.{ReplayInput}
use Rattle.js_ordered_table.specs.declared.event.Event as events
use Rattle.js_ordered_table.specs.declared.run.Output.{Output}
use Rattle.js_ordered_table.specs.declared.replay_state.ReplayState.{ReplayState}
use Rattle.js_ordered_table.specs.Fold.{Ran, stays, and_then, event, run_events, opening, fold, step_of}
use Rattle.js_ordered_table.specs.Refusal.{bad_field, first_early, first_exhausted, is_exhausted, refuse, refuse_input, first_of}
use Rattle.js_ordered_table.specs.declared.run.Field.{Field}
use Rattle.js_ordered_table.specs.declared.run.ReplayError.TheVariants as error
use Rattle.js_ordered_table.specs.Gapless.{Entry, joined, all_outputs}
use Rattle.js_event_log.specs.Events.{reply, arrival, relayed, AllFit}
use Rattle.js_event_log.specs.RelayReader.{handed}
use Rattle.js_event_log.proofs.Gives.{Gives, gives_append}
use Rattle.js_event_log.proofs.Replies.{reply_reads}
use Rattle.js_event_log.proofs.Steps as at
use Rattle.js_ordered_table.proofs.PullStates.{IsOn, Progress}
use Rattle.js_event_log.proofs.Steps.{Leads, leads_then, leads_weaker}

-- ---- lists of events

-- what they lead to
abbrev pub plays : ReplayInput → List events.Event → ReplayState → Ran
plays g [] w = stays w
plays g (e ∷ es) w = let ran = event g e w in and_then ran.outputs (plays g es ran.state)

abbrev pub outputs_of : List Ran → List Output
outputs_of rans = joined (map step_of rans)

plays_outputs : (g : ReplayInput) (es : List events.Event) (w : ReplayState) → (plays g es w).outputs ≡ outputs_of (run_events g es w)
unfolding run_events
plays_outputs g [] w = refl
plays_outputs g (e ∷ es) w =
    let ran : Ran = event g e w in
    ap (λ (outputs : List Output). ran.outputs ++ outputs) (plays_outputs g es ran.state)

-- each sequence has 64 bits
abbrev Fit : List base.Entry → Type 0
Fit entries = AllByRecursion (λ (e : base.Entry). e.sequence < 2 ^ 64) entries

-- the first inbox is read up to a number
pub record IsReading (number : ℕ) (w : ReplayState) : Type 0 where
  pub source : PullSource
  pub c : Progress
  pub requests_sent : ℕ
  pub inboxes_opened : ℕ
  pub on : IsOn source c requests_sent inboxes_opened w
  pub inbox_is : source.inbox ≡ 0
  pub num_is : c.core.consumer_sequence ≡ number

equal : (a b : ℕ) → a ≡ b → eqb a b ≡ true
equal a b e = (Decides-eqb a b).1 e

goes_on : (w : ReplayState) (number : ℕ) → IsReading number w → is_exhausted w.consumer.phase ≡ false
goes_on w number r = ap (λ (w : ReplayState). is_exhausted w.consumer.phase) r.on.1

module _ (settings : Settings) (config : OrderedConfig) (first : Info) (stream name : List ℕ) (is_stream : is_name stream ≡ true) (is : is_name name ≡ true) where
  abbrev replay_input : ReplayInput
  replay_input = at.replay_input settings config first

  one : (e : base.Entry) (number : ℕ) (left : List Entry) (w : ReplayState) → e.sequence < 2 ^ 64 → number + 1 < 2 ^ 64 → IsReading number w
      → Leads (handed e ∷ left) (IsReading (number + 1)) left (event replay_input (arrival stream name (number + 1) e) w)
  one e number left w s n r =
      let place : Place = record { sequence = e.sequence; number = number + 1 } in
      at.heard settings config first (number + 1) (handed e ∷ left) r.source r.c r.requests_sent r.inboxes_opened 0 e.subject (reply stream name e.sequence (number + 1)) e.payload left (IsReading (number + 1))
      (λ l. leads_weaker (handed e ∷ left) left (IsOn r.source (at.accepted settings config first place r.c) (r.requests_sent + 0) (r.inboxes_opened + 0)) (IsReading (number + 1)) _
      (λ w on. record {
        source = r.source;
        c = at.accepted settings config first place r.c;
        requests_sent = r.requests_sent + 0;
        inboxes_opened = r.inboxes_opened + 0;
        on = on;
        inbox_is = r.inbox_is;
        num_is = refl;
      })
      (at.yields settings config first (number + 1) left r.source r.c (r.requests_sent + 0) (r.inboxes_opened + 0) 0 e.subject (reply stream name e.sequence (number + 1)) e.payload place 6 l
      (equal r.source.inbox 0 r.inbox_is) (reply_reads stream name e.sequence (number + 1) is_stream is s n) (equal (number + 1) (r.c.core.consumer_sequence + 1) (let k = r.num_is in omega arith))))
      w r.on

  all : (es : List base.Entry) (number : ℕ) (w : ReplayState) → Fit es → number + length es < 2 ^ 64 → IsReading number w
      → Leads (map handed es) (IsReading (number + length es)) [] (plays replay_input (relayed stream name (number + 1) es) w)
  all [] number w fit n r = record { state = subst (λ (k : ℕ). IsReading k w) (omega arith) r; outputs = refl }
  all (e ∷ es) number w fit n r =
      leads_then (map handed (e ∷ es)) (map handed es) [] (IsReading (number + 1)) (IsReading (number + length (e ∷ es)))
      (event replay_input (arrival stream name (number + 1) e) w) (λ (w : ReplayState). plays replay_input (relayed stream name (number + 1 + 1) es) w)
      (one e number (map handed es) w fit.0 (omega (arith, n)) r)
      (λ w r. subst (λ (k : ℕ). Leads (map handed es) (IsReading k) [] (plays replay_input (relayed stream name (number + 1 + 1) es) w)) (omega arith) (all es (number + 1) w fit.1 (omega (arith, n)) r))

  never_exhausted : (es : List base.Entry) (number place : ℕ) (w : ReplayState) → Fit es → number + length es < 2 ^ 64 → IsReading number w
      → first_exhausted place (run_events replay_input (relayed stream name (number + 1) es) w) ≡ None
  unfolding run_events
  never_exhausted [] number place w fit n r = refl
  never_exhausted (e ∷ es) number place w fit n r =
      let ran : Ran = event replay_input (arrival stream name (number + 1) e) w in
      let next : IsReading (number + 1) ran.state = (one e number [] w fit.0 (omega (arith, n)) r).state in
      ap (λ (b : Bool). if b then Some place else first_exhausted (place + 1) (run_events replay_input (relayed stream name (number + 1 + 1) es) ran.state)) (goes_on ran.state (number + 1) next)
      ∙ never_exhausted es (number + 1) (place + 1) ran.state fit.1 (omega (arith, n)) next

  -- ---- from the opening on

  begins : IsReading 0 (opening replay_input 0).state
  begins = record { source = _; c = _; requests_sent = 0; inboxes_opened = 1; on = (at.opened settings config first 0 []).state; inbox_is = refl; num_is = refl }

  pub gives : (es : List base.Entry) → AllFit es → Gives (map handed es) (all_outputs (fold replay_input 0 (relayed stream name 1 es))) []
  unfolding fold
  gives es fit =
      let w : ReplayState = (opening replay_input 0).state in
      gives_append (map handed es) (opening replay_input 0).outputs (outputs_of (run_events replay_input (relayed stream name 1 es) w)) (map handed es) []
      (at.opened settings config first 0 (map handed es)).outputs
      (subst (λ (outputs : List Output). Gives (map handed es) outputs []) (plays_outputs replay_input (relayed stream name 1 es) w) (all es 0 w fit.sequences (let n = fit.number in omega (arith, n)) begins).outputs)

  not_early : (es : List base.Entry) (number place before : ℕ) → before ≤ number → first_early place before (relayed stream name number es) ≡ None
  not_early [] number place before l = refl
  not_early (e ∷ es) number place before l =
      let later : nat_lt number before ≡ false = grind (arith, nat_tests) in
      ap (λ (b : Bool). if b then Some place else first_early (place + 1) number (relayed stream name (number + 1) es)) later ∙ not_early es (number + 1) (place + 1) number (omega arith)

  pub accepted : (es : List base.Entry) → AllFit es → bad_field replay_input ≡ None → refuse replay_input 0 (relayed stream name 1 es) ≡ None
  unfolding refuse refuse_input
  accepted es fit good =
      let w : ReplayState = (opening replay_input 0).state in
      let all : List events.Event = relayed stream name 1 es in
      let early : first_early 0 0 all ≡ None = not_early es 1 0 0 (omega arith) in
      let late : first_exhausted 0 (run_events replay_input all w) ≡ None = never_exhausted es 0 0 w fit.sequences (let n = fit.number in omega (arith, n)) begins in
      ap (λ (b : Option Field). first_of (first_of (option_map error.BadSettings b) (option_map error.BadEvent (first_early 0 0 all))) (option_map error.SequenceEnd (first_exhausted 0 (run_events replay_input all w)))) good
      ∙ ap (λ (e : Option ℕ). first_of (option_map error.BadEvent e) (option_map error.SequenceEnd (first_exhausted 0 (run_events replay_input all w)))) early
      ∙ ap (λ (x : Option ℕ). option_map error.SequenceEnd x) late
