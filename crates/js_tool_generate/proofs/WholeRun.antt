-- The run of a generated transcript: its input is valid, its server honest, and it yields as many as its last sequence.
use Rattle.std.proofs.Common.{◌≡◌, ℕ, zero, suc, ◌+◌, ◌*◌, ◌^◌, ◌<◌, ◌≤◌, false, List, [], ◌∷◌, ◌++◌, take, drop, None, Result, Ok, Err, IfOk, codes, refl, sym, ap, ◌∙◌, subst, arith, append_assoc}
use Rattle.std.specs.Prelude.{nat_lt}
use Rattle.std.proofs.lemmas.List.{take-append-drop}
use Rattle.std.proofs.lemmas.Bool.Decides.{nat_tests}
use Rattle.js_json.specs.PullConfig.{new_ordered_pull_config}
use Rattle.js_ordered_table.specs.declared.consumer.ReplayInput.{ReplayInput}
use Rattle.js_ordered_table.specs.declared.event.Event as events
use Rattle.js_ordered_table.specs.declared.event.EventKind.{EventKind}
use Rattle.js_ordered_table.specs.declared.run.Output.{Output}
use Rattle.js_ordered_table.specs.declared.run.Run.{Run}
use Rattle.js_ordered_table.specs.declared.replay_state.ReplayState.{ReplayState}
use Rattle.js_ordered_table.specs.Fold.{opening, run_events, fold}
use Rattle.js_ordered_table.specs.Refusal.{first_early}
use Rattle.js_ordered_table.specs.Gapless.{IsHonest, all_outputs}
use Rattle.js_ordered_table.specs.Replay.{IsValid, IsReplay}
use Rattle.js_tool_generate.specs.Episode.{before, episodes}
use Rattle.js_tool_generate.specs.Transcript.{settings, info, replay_input, at_places, generated}
use Rattle.js_tool_generate.specs.Server.{server, IsServed}
use Rattle.js_tool_generate.specs.declared.summary.Summary.{Summary}
use Rattle.js_tool_generate.specs.Summary.{summary, YieldsItsLast}
use Rattle.js_tool_generate.proofs.Numbers.{before_bound}
use Rattle.js_tool_generate.proofs.Follows.{Follows, follows_append, follows_front, follows_starts, follows_count}
use Rattle.js_tool_generate.proofs.Events as at
use Rattle.js_tool_generate.proofs.Runs.{plays_outputs, outputs_of, run_front}
use Rattle.js_tool_generate.proofs.Play.{IsReading, episodes_play}
use Rattle.js_tool_generate.proofs.HonestServer.{lists_whole, arrivals_honest, arrivals_below}

abbrev starts : ℕ → ℕ → ℕ
starts seed inbox = before seed inbox + 1

-- what the whole of the episodes puts out goes on
all_follow : (seed count : ℕ) → count ≤ 200_000
    → (from : ℕ) × Follows (starts seed) 0 0 ((opening replay_input 0).outputs ++ outputs_of (run_events replay_input (at_places 1 (episodes seed 0 count)) (opening replay_input 0).state)) (before seed (0 + count)) from
all_follow seed count small =
    let o = at.opened settings new_ordered_pull_config (info (codes "gen")) (starts seed) 0 in
    let w : ReplayState = (opening replay_input 0).state in
    let r : IsReading 0 0 0 w = record { source = _; c = _; requests_sent = 0; inboxes_opened = 1; on = o.state; inbox_is = refl; num_is = refl; last_is = refl; asked_is = refl; made_is = refl } in
    let played = episodes_play settings new_ordered_pull_config (info (codes "gen")) (starts seed) refl seed (λ inbox. refl) count 0 1 0 w (omega arith) r in (
      played.0,
      follows_append (starts seed) 0 0 (opening replay_input 0).outputs _ 0 0 (before seed (0 + count)) played.0 o.outputs
          (subst (λ (outputs : List Output). Follows (starts seed) 0 0 outputs (before seed (0 + count)) played.0) (plays_outputs replay_input 1 (episodes seed 0 count) w) played.1),
    )

-- and so does what its first events put out
run_follows : (seed count : ℕ) → count ≤ 200_000
    → (last : ℕ) × (from : ℕ) × Follows (starts seed) 0 0 (all_outputs (fold replay_input 0 (generated seed count))) last from
unfolding fold
run_follows seed count small =
    let w : ReplayState = (opening replay_input 0).state in
    let all : List events.Event = at_places 1 (episodes seed 0 count) in
    let whole = all_follow seed count small in
    let front = run_front replay_input (take count all) (drop count all) w in
    let split : outputs_of (run_events replay_input all w) ≡ outputs_of (run_events replay_input (take count all) w) ++ front.0 =
    ap (λ (es : List events.Event). outputs_of (run_events replay_input es w)) (sym (take-append-drop count all)) ∙ front.1 in
    follows_front (starts seed) 0 0 ((opening replay_input 0).outputs ++ outputs_of (run_events replay_input (take count all) w)) front.0 (before seed (0 + count)) whole.0
    (subst (λ (outputs : List Output). Follows (starts seed) 0 0 outputs (before seed (0 + count)) whole.0)
    (ap (λ (outputs : List Output). (opening replay_input 0).outputs ++ outputs) split ∙ sym (append_assoc (opening replay_input 0).outputs (outputs_of (run_events replay_input (take count all) w)) front.0))
    whole.1)

small_before : (seed count : ℕ) → count ≤ 200_000 → before seed count + 2 < 2 ^ 62
small_before seed count small = let h = before_bound seed count in omega (arith, h)

fold_honest : (seed count : ℕ) → count ≤ 200_000 → IsHonest (server seed count) replay_input.setup (generated seed count) (fold replay_input 0 (generated seed count))
fold_honest seed count small =
    let follows = run_follows seed count small in
    record {
      lists = lists_whole seed count;
      first = tt;
      later = follows_starts (starts seed) 0 0 (all_outputs (fold replay_input 0 (generated seed count))) follows.0 follows.1 follows.2;
      arrivals = arrivals_honest seed count (small_before seed count small);
    }

-- the server is honest to each replay
pub served : (seed count : ℕ) → count ≤ 200_000 → IsServed seed count (generated seed count)
served seed count small run replay =
    subst (λ (run : Run). IsHonest (server seed count) replay_input.setup (generated seed count) run) (sym replay.folded) (fold_honest seed count small)

fold_counts : (seed count : ℕ) → count ≤ 200_000 → (summary (fold replay_input 0 (generated seed count))).yields ≡ (summary (fold replay_input 0 (generated seed count))).last
fold_counts seed count small =
    let follows = run_follows seed count small in
    let same = follows_count (starts seed) 0 0 (all_outputs (fold replay_input 0 (generated seed count))) follows.0 follows.1 follows.2 in
    omega (arith, same)

-- and as many are yielded as the last sequence says
pub yields_last : (seed count : ℕ) → count ≤ 200_000 → YieldsItsLast (generated seed count)
yields_last seed count small run replay =
    subst (λ (run : Run). (summary run).yields ≡ (summary run).last) (sym replay.folded) (fold_counts seed count small)

-- ---- valid input

not_early : (n place before index : ℕ) (whats : List EventKind) → before ≤ place * 1_000_000 → first_early index before (take n (at_places place whats)) ≡ None
not_early zero place before index whats order = refl
not_early (suc n) place before index [] order = refl
not_early (suc n) place before index (what ∷ whats) order =
    let later : nat_lt (place * 1_000_000) before ≡ false = grind (arith, nat_tests) in
    rw later (not_early n (place + 1) (place * 1_000_000) (index + 1) whats (omega arith))

pub valid : (seed count : ℕ) → count ≤ 200_000 → IsValid replay_input 0 (generated seed count)
valid seed count small = record {
  subject = refl;
  settings = refl;
  moments = not_early count 1 0 0 (episodes seed 0 count) (omega arith);
  arrivals = arrivals_below seed count (small_before seed count small);
}

-- ---- of values that are equal

pub if_ok : {A E : Type 0} {P Q : A → Type 0} (r : Result A E) → ((x : A) → P x → Q x) → IfOk r P → IfOk r Q
if_ok (Ok x) f h = f x h
if_ok (Err e) f h = tt

pub still_valid : (g : ReplayInput) (es : List events.Event) (seed count : ℕ) → count ≤ 200_000 → g ≡ replay_input → es ≡ generated seed count → IsValid g 0 es
still_valid g es seed count small is_given is_generated =
    subst (λ (g : ReplayInput). IsValid g 0 es) (sym is_given) (subst (λ (es : List events.Event). IsValid replay_input 0 es) (sym is_generated) (valid seed count small))

pub counted : (g : ReplayInput) (es : List events.Event) (seed count : ℕ) (run : Run) → IsReplay g 0 es run → g ≡ replay_input → es ≡ generated seed count
    → summary run ≡ summary (fold replay_input 0 (generated seed count))
counted g es seed count run replay is_given is_generated =
    ap summary (replay.folded ∙ ap (λ (g : ReplayInput). fold g 0 es) is_given ∙ ap (λ (es : List events.Event). fold replay_input 0 es) is_generated)

pub whole : (g : ReplayInput) (es : List events.Event) (seed count : ℕ) (run : Run) (s : Summary) → count ≤ 200_000 → IsReplay g 0 es run → g ≡ replay_input → es ≡ generated seed count
    → s ≡ summary run → s.yields ≡ s.last
whole g es seed count run s small replay is_given is_generated is =
    let same : s ≡ summary (fold replay_input 0 (generated seed count)) = is ∙ counted g es seed count run replay is_given is_generated in
    subst (λ (s : Summary). s.yields ≡ s.last) (sym same) (fold_counts seed count small)
