-- The episodes, one after another: what they put out goes on.
use Rattle.std.proofs.Common.{◌≡◌, ℕ, zero, suc, ◌+◌, ◌*◌, ◌^◌, ◌<◌, ◌≤◌, Bool, false, [], ◌∷◌, length, codes, decimal, refl, sym, ap, ◌∙◌, subst, arith, add-one}
use Rattle.std.specs.Prelude.{◌==◌}
use Rattle.std.proofs.lemmas.Bool.Decides.{nat_tests, Decides-eqb}
use Rattle.js_json.specs.declared.consumer.info.Info.{Info}
use Rattle.js_json.specs.declared.pull.OrderedConfig.{OrderedConfig}
use Rattle.js_message.specs.AckSubject.{Place}
use Rattle.js_pull.specs.Reader.{u64_max}
use Rattle.js_pull.specs.declared.reader.PullSource.{PullSource}
use Rattle.js_ordered_table.specs.declared.setup.Settings.{Settings}
use Rattle.js_ordered_table.specs.declared.consumer.ReplayInput.{ReplayInput}
use Rattle.js_ordered_table.specs.declared.replay_state.ReplayState.{ReplayState}
use Rattle.js_ordered_table.specs.declared.consumer.Stage.TheVariants.{Deleting, Creating}
use Rattle.js_ordered_table.specs.Fold.{Ran, event}
use Rattle.js_tool_generate.specs.Episode.{delivered, before, reply, info_text, name_of, delivery, deliveries, answer, recovery, happens, episodes}
use Rattle.js_tool_generate.specs.Transcript as transcript
use Rattle.js_tool_generate.proofs.Numbers.{few, before_bound}
use Rattle.js_tool_generate.proofs.Replies.{reply_reads}
use Rattle.js_tool_generate.proofs.Infos.{info_reads, name_plain, name_utf8}
use Rattle.js_tool_generate.proofs.Follows.{Follows, follows_append}
use Rattle.js_tool_generate.proofs.Events as at
use Rattle.js_ordered_table.proofs.PullStates.{IsOn, Progress}
use Rattle.js_tool_generate.proofs.Events.{IsRecreating, IsOpened, Leads, leads_then, leads_alone, leads_weaker}
use Rattle.js_tool_generate.proofs.Runs.{plays, plays_append}

-- ---- the numbers

not_equal : (a b : ℕ) → (a ≡ b → ⊥) → (a == b) ≡ false
not_equal a b h = grind (arith, nat_tests)

-- ---- the state between events

-- an inbox is read up to a number
pub record IsReading (inbox number before : ℕ) (w : ReplayState) : Type 0 where
  pub source : PullSource
  pub c : Progress
  pub requests_sent : ℕ
  pub inboxes_opened : ℕ
  pub on : IsOn source c requests_sent inboxes_opened w
  pub inbox_is : source.inbox ≡ inbox
  pub num_is : c.core.consumer_sequence ≡ number
  pub last_is : c.core.stream_sequence ≡ before + number
  pub asked_is : requests_sent ≡ 2 * inbox
  pub made_is : inboxes_opened ≡ inbox + 1

module _ (settings : Settings) (config : OrderedConfig) (first : Info) (starts : ℕ → ℕ) (off : settings.resilience.asks_at_first_heartbeat ≡ false) where
  abbrev replay_input : ReplayInput
  replay_input = at.replay_input settings config first starts

  -- ---- messages in order

  module _ (inbox before number : ℕ) where
    abbrev place : Place
    place = record { sequence = before + (number + 1); number = number + 1 }

    in_order : (now from : ℕ) (w : ReplayState) → before + (number + 1) < 2 ^ 64 → number + 1 < 2 ^ 64 → IsReading inbox number before w
        → Leads starts (before + number) from (IsReading inbox (number + 1) before) (before + (number + 1)) from
        (event replay_input (record { at = now; what = delivery inbox before (number + 1) }) w)
    in_order now from w s n r =
        at.heard settings config first starts now (before + number) from r.source r.c r.requests_sent r.inboxes_opened inbox (reply (before + (number + 1)) (number + 1)) (decimal (before + (number + 1)))
        (before + (number + 1)) from (IsReading inbox (number + 1) before)
        (λ l. leads_weaker starts (before + number) from (before + (number + 1)) from
        (IsOn r.source (at.accepted settings config first starts place r.c) (r.requests_sent + 0) (r.inboxes_opened + 0)) (IsReading inbox (number + 1) before) _
        (λ w on. record {
          source = r.source;
          c = at.accepted settings config first starts place r.c;
          requests_sent = r.requests_sent + 0;
          inboxes_opened = r.inboxes_opened + 0;
          on = on;
          inbox_is = r.inbox_is;
          num_is = refl;
          last_is = refl;
          asked_is = let a = r.asked_is in omega arith;
          made_is = let m = r.made_is in omega arith;
        })
        (at.yields settings config first starts now (before + number) from r.source r.c (r.requests_sent + 0) (r.inboxes_opened + 0) inbox (reply (before + (number + 1)) (number + 1)) (decimal (before + (number + 1))) place 6 l
        ((Decides-eqb r.source.inbox inbox).1 r.inbox_is) (reply_reads (before + (number + 1)) (number + 1) s n)
        ((Decides-eqb (number + 1) (r.c.core.consumer_sequence + 1)).1 (let e = r.num_is in omega arith)) (omega arith)))
        w r.on

  all_in_order : (left place inbox number before from : ℕ) (w : ReplayState) → before + (number + left) < 2 ^ 64 → number + left < 2 ^ 64 → IsReading inbox number before w
      → Leads starts (before + number) from (IsReading inbox (number + left) before) (before + (number + left)) from
      (plays replay_input place (deliveries inbox before (number + 1) left) w)
  all_in_order zero place inbox number before from w s n r = record {
    state = subst (λ (k : ℕ). IsReading inbox k before w) (omega arith) r;
    outputs = (omega arith, refl);
  }
  all_in_order (suc left) place inbox number before from w s n r =
      leads_then starts (before + number) from (before + (number + 1)) from (before + (number + suc left)) from
      (IsReading inbox (number + 1) before) (IsReading inbox (number + suc left) before)
      (event replay_input (record { at = place * 1_000_000; what = delivery inbox before (number + 1) }) w)
      (λ (w : ReplayState). plays replay_input (place + 1) (deliveries inbox before (number + 1 + 1) left) w)
      (in_order inbox before number (place * 1_000_000) from w (omega arith) (omega arith) r)
      (λ w r.
      subst (λ (k : ℕ). Leads starts (before + (number + 1)) from (IsReading inbox k before) (before + k) from (plays replay_input (place + 1) (deliveries inbox before (number + 1 + 1) left) w))
      (omega arith) (all_in_order left (place + 1) inbox (number + 1) before from w (omega arith) (omega arith) r))

  -- ---- the gap, and the recreation

  module _ (inbox before number : ℕ) (starts_there : starts (inbox + 1) ≡ before + number + 1) (some : 1 ≤ number) (small : before + number + 2 < 2 ^ 62) (few_inboxes : inbox + 2 < 2 ^ 62) where
    abbrev gap_place : Place
    gap_place = record { sequence = before + (number + 2); number = number + 2 }

    gap : (now from : ℕ) (w : ReplayState) → IsReading inbox number before w
        → Leads starts (before + number) from (IsRecreating Deleting (2 * inbox + 1) (before + number) (inbox + 1)) (before + number) (before + number + 1)
        (event replay_input (record { at = now; what = delivery inbox before (number + 2) }) w)
    gap now from w r =
        at.heard settings config first starts now (before + number) from r.source r.c r.requests_sent r.inboxes_opened inbox (reply (before + (number + 2)) (number + 2)) (decimal (before + (number + 2)))
        (before + number) (before + number + 1) (IsRecreating Deleting (2 * inbox + 1) (before + number) (inbox + 1))
        (λ l. leads_weaker starts (before + number) from (before + number) (before + number + 1)
        (IsRecreating Deleting (r.requests_sent + 0 + 1) (before + number) (r.inboxes_opened + 0)) (IsRecreating Deleting (2 * inbox + 1) (before + number) (inbox + 1)) _
        (λ w d. subst (λ (a : ℕ). IsRecreating Deleting a (before + number) (inbox + 1) w) (let a = r.asked_is in omega arith)
        (subst (λ (m : ℕ). IsRecreating Deleting (r.requests_sent + 0 + 1) (before + number) m w) (let m = r.made_is in omega arith) d))
        (at.restarts settings config first starts now (before + number) from r.source r.c (r.requests_sent + 0) (r.inboxes_opened + 0) inbox (reply (before + (number + 2)) (number + 2)) (decimal (before + (number + 2))) gap_place 6 l
        ((Decides-eqb r.source.inbox inbox).1 r.inbox_is) (reply_reads (before + (number + 2)) (number + 2) (omega arith) (omega arith))
        (not_equal (number + 2) (r.c.core.consumer_sequence + 1) (λ e. let n = r.num_is in absurd (omega arith)))
        (not_equal r.c.core.stream_sequence u64_max (λ e. let n = r.last_is in absurd (omega arith)))
        (not_equal r.c.core.stream_sequence 0 (λ e. let n = r.last_is in absurd (omega arith)))
        r.last_is))
        w r.on

    late : (now from : ℕ) (w : ReplayState) → IsOpened (2 * inbox + 2) (before + number) (inbox + 1) w
        → Leads starts (before + number) from (IsReading (inbox + 1) 0 (before + number)) (before + number) from
        (event replay_input (record { at = now; what = delivery inbox before (number + 1) }) w)
    late now from w o =
        at.heard settings config first starts now (before + number) from o.source o.c o.requests_sent o.made_now inbox (reply (before + (number + 1)) (number + 1)) (decimal (before + (number + 1)))
        (before + number) from (IsReading (inbox + 1) 0 (before + number))
        (λ l. leads_weaker starts (before + number) from (before + number) from
        (λ w. (missed : Bool) × IsOn o.source (record o.c { missed = missed }) (o.requests_sent + 0) (o.made_now + 0) w) (IsReading (inbox + 1) 0 (before + number)) _
        (λ w on. record {
          source = o.source;
          c = record o.c { missed = on.0 };
          requests_sent = o.requests_sent + 0;
          inboxes_opened = o.made_now + 0;
          on = on.1;
          inbox_is = o.inbox_is;
          num_is = o.num_is;
          last_is = o.last_is ∙ omega arith;
          asked_is = let a = o.asked_is in omega arith;
          made_is = let m = o.made_is in omega arith;
        })
        (at.passes_over settings config first starts now (before + number) from o.source o.c (o.requests_sent + 0) (o.made_now + 0) inbox (reply (before + (number + 1)) (number + 1)) (decimal (before + (number + 1))) gap_place 7 l
        (not_equal o.source.inbox inbox (λ e. let i = o.inbox_is in absurd (omega arith))) o.missed_is o.off_is))
        w o.on

    recovers : (place from : ℕ) (w : ReplayState) → IsReading inbox number before w
        → Leads starts (before + number) from (IsReading (inbox + 1) 0 (before + number)) (before + number) (before + number + 1) (plays replay_input place (recovery inbox before number) w)
    recovers place from w r =
        let last : ℕ = before + number in
        let next : ℕ = before + number + 1 in
        leads_then starts last from last next last next (IsRecreating Deleting (2 * inbox + 1) last (inbox + 1)) (IsReading (inbox + 1) 0 last) _
        (λ (w : ReplayState). plays replay_input (place + 1) (answer (2 * inbox + 1) (codes "{\"success\":true}") ∷ answer (2 * inbox + 2) (info_text (name_of (inbox + 1))) ∷ delivery inbox before (number + 1) ∷ []) w)
        (gap (place * 1_000_000) from w r)
        (λ w d. leads_then starts last next last next last next (IsRecreating Creating (2 * inbox + 1 + 1) last (inbox + 1)) (IsReading (inbox + 1) 0 last) _
        (λ (w : ReplayState). plays replay_input (place + 1 + 1) (answer (2 * inbox + 2) (info_text (name_of (inbox + 1))) ∷ delivery inbox before (number + 1) ∷ []) w)
        (at.deletes settings config first starts ((place + 1) * 1_000_000) last next (2 * inbox + 1) (codes "{\"success\":true}") (2 * inbox + 1) (inbox + 1) w d refl)
        (λ w d. leads_then starts last next last next last next (IsOpened (2 * inbox + 1 + 1) last (inbox + 1)) (IsReading (inbox + 1) 0 last) _
        (λ (w : ReplayState). plays replay_input (place + 1 + 1 + 1) (delivery inbox before (number + 1) ∷ []) w)
        (at.creates settings config first starts ((place + 1 + 1) * 1_000_000) last next (2 * inbox + 2) (info_text (name_of (inbox + 1))) (2 * inbox + 1 + 1) (inbox + 1) (transcript.info (name_of (inbox + 1))) w d
        (omega arith) starts_there (info_reads (name_of (inbox + 1)) (name_plain (inbox + 1) (omega arith)) (name_utf8 (inbox + 1) (omega arith))) off)
        (λ w o. leads_alone starts last next last next (IsReading (inbox + 1) 0 last) _
        (late ((place + 1 + 1 + 1) * 1_000_000) next w (subst (λ (r : ℕ). IsOpened r last (inbox + 1) w) (omega arith) o)))))

  -- ---- episodes

  module _ (seed : ℕ) (starts_are : (inbox : ℕ) → starts inbox ≡ before seed inbox + 1) where
    episode_plays : (episode place from : ℕ) (w : ReplayState) → episode < 1_000_000 → IsReading episode 0 (before seed episode) w
        → Leads starts (before seed episode) from (IsReading (episode + 1) 0 (before seed (suc episode))) (before seed (suc episode)) (before seed (suc episode) + 1) (plays replay_input place (happens seed episode) w)
    episode_plays episode place from w small r =
        let s : ℕ = before seed episode in
        let m : ℕ = delivered seed episode in
        let s_small : s ≤ 8 * episode = before_bound seed episode in
        let m_few : (1 ≤ m) × (m ≤ 8) = few seed episode in
        let there : starts (episode + 1) ≡ s + m + 1 = starts_are (episode + 1) ∙ ap (λ (n : ℕ). before seed n + 1) (add-one episode) in
        let place_then : ℕ = place + length (deliveries episode s 1 m) in
        let same_last : s + 0 ≡ s = omega arith in
        let same_number : 0 + m ≡ m = omega arith in
        subst (λ (ran : Ran). Leads starts s from (IsReading (episode + 1) 0 (s + m)) (s + m) (s + m + 1) ran)
        (sym (plays_append replay_input place place_then (deliveries episode s 1 m) (recovery episode s m) w refl))
        (leads_then starts s from (s + m) from (s + m) (s + m + 1) (IsReading episode m s) (IsReading (episode + 1) 0 (s + m))
        (plays replay_input place (deliveries episode s 1 m) w) (λ (w : ReplayState). plays replay_input place_then (recovery episode s m) w)
        (subst (λ (l : ℕ). Leads starts l from (IsReading episode m s) (s + m) from (plays replay_input place (deliveries episode s 1 m) w)) same_last
        (subst (λ (k : ℕ). Leads starts (s + 0) from (IsReading episode k s) (s + k) from (plays replay_input place (deliveries episode s 1 m) w)) same_number
        (all_in_order m place episode 0 s from w (omega (arith, s_small, m_few.1)) (omega (arith, m_few.1)) r)))
        (recovers episode s m there m_few.0 (omega (arith, s_small, m_few.1)) (omega arith) place_then from))

    pub episodes_play : (left episode place from : ℕ) (w : ReplayState) → episode + left ≤ 1_000_000 → IsReading episode 0 (before seed episode) w
        → (from_now : ℕ) × Follows starts (before seed episode) from (plays replay_input place (episodes seed episode left) w).outputs (before seed (episode + left)) from_now
    episodes_play zero episode place from w small r = (from, (ap (before seed) (omega arith), refl))
    episodes_play (suc left) episode place from w small r =
        let place_then : ℕ = place + length (happens seed episode) in
        let one = episode_plays episode place from w (omega arith) r in
        let next : ℕ = before seed (suc episode) in
        let same : suc episode ≡ episode + 1 = sym (add-one episode) in
        let ran : Ran = plays replay_input place (happens seed episode) w in
        let more = episodes_play left (episode + 1) place_then (next + 1) ran.state (omega arith) (subst (λ (n : ℕ). IsReading (episode + 1) 0 (before seed n) ran.state) same one.state) in
        let end : episode + 1 + left ≡ episode + suc left = omega arith in (
          more.0,
          subst (λ (whole : Ran). Follows starts (before seed episode) from whole.outputs (before seed (episode + suc left)) more.0)
              (sym (plays_append replay_input place place_then (happens seed episode) (episodes seed (episode + 1) left) w refl))
              (follows_append starts (before seed episode) from ran.outputs _ next (next + 1) (before seed (episode + suc left)) more.0 one.outputs
              (subst (λ (n : ℕ). Follows starts (before seed n) (next + 1) (plays replay_input place_then (episodes seed (episode + 1) left) ran.state).outputs (before seed (episode + suc left)) more.0) (sym same)
              (subst (λ (n : ℕ). Follows starts (before seed (episode + 1)) (next + 1) (plays replay_input place_then (episodes seed (episode + 1) left) ran.state).outputs (before seed n) more.0) end more.1))),
        )
