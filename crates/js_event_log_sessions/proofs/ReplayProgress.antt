-- What a session has come to with one line more, and its begin and end.
use Rattle.std.proofs.Common.{◌≡◌, ℕ, ◌+◌, Bool, true, false, List, [], ◌∷◌, ◌++◌, length, Option, Some, None, refl, sym, ap, ◌∙◌, subst, append-nil, length-append, nat_eq, arith}
use Rattle.std.proofs.lemmas.Bool.{eq-eqb}
use Rattle.std.specs.Prelude.{◌&&◌, unwrap_or, if◌then◌else◌}
use Rattle.std.specs.Cmp.Lexicographic.{pointwise}
use Rattle.js_ordered.specs.declared.incremental_replay.IncrementalReplay.{IncrementalReplay}
use Rattle.js_ordered.specs.IncrementalReplay.{HasCome, last}
use Rattle.js_ordered.proofs.EventByEvent.{no_steps, opening_is}
use Rattle.js_ordered_table.specs.declared.consumer.ReplayInput.{ReplayInput}
use Rattle.js_ordered_table.specs.declared.event.Event.{Event}
use Rattle.js_ordered_table.specs.declared.run.Output.{Output}
use Rattle.js_ordered_table.specs.declared.run.ReplayError.{ReplayError}
use Rattle.js_ordered_table.specs.declared.run.ReplayError.TheVariants as replay_error
use Rattle.js_ordered_table.specs.declared.run.Step.{Step}
use Rattle.js_ordered_table.specs.Fold.{fold}
use Rattle.js_ordered_table.specs.Gapless.{Entry, yields, joined, all_outputs}
use Rattle.js_ordered_table.specs.Refusal.{refuse}
use Rattle.js_ordered_table.specs.Texts.{configured_start}
use Rattle.js_event_log_sessions.specs.declared.session_replay.SessionReplay.{SessionReplay}
use Rattle.js_event_log_sessions.specs.declared.session_replay.SessionEnd.{SessionEnd}
use Rattle.js_event_log_sessions.specs.declared.session_replay.Sessions.{Sessions}
use Rattle.js_event_log_sessions.specs.declared.error.SessionsError.TheVariants as error
use Rattle.js_event_log_sessions.specs.declared.mark.Mark.{Mark}
use Rattle.js_event_log_sessions.specs.declared.scope.Scope.{Scope}
use Rattle.js_event_log_sessions.specs.declared.session.Line.{Line}
use Rattle.js_event_log_sessions.specs.declared.session.Line.TheVariants as line
use Rattle.js_event_log_sessions.specs.declared.session.Session.{Session}
use Rattle.js_event_log_sessions.specs.Bookmark.{events_of, saved, committed_of, bookmark, has_last}
use Rattle.js_event_log_sessions.specs.SessionReplay.{agreed, bookmark_within, mark_of, first_scope, HaveEnded, with_line, scope_for, HasComeTo, HasEnded}
use Rattle.js_event_log_sessions.specs.Runs.{replay_input_of, run_of, committed, all_committed, is_at, scope_of, same_scope, replay_refusal, refuse_sessions, IsRefusal}
use Rattle.js_event_log_sessions.proofs.Refusals.{replay_refused, bookmark_ends, one_accepted}
use Rattle.js_event_log_sessions.proofs.Saves.{events_event, events_save, saved_event, saved_save, saved_within, yields_grow, committed_grow, committed_all}
use Rattle.js_event_log_sessions.proofs.NextSession.{committed_on, bookmark_on}

-- ---- what sessions read

same_all : {A : Type 0} (eq : A → A → Bool) → ((x : A) → eq x x ≡ true) → (xs : List A) → pointwise eq xs xs ≡ true
same_all eq same [] = refl
same_all eq same (x ∷ xs) = ap (λ (b : Bool). b && pointwise eq xs xs) (same x) ∙ same_all eq same xs

same_text : (xs : List ℕ) → pointwise nat_eq xs xs ≡ true
same_text xs = same_all nat_eq (λ n. eq-eqb n n refl) xs

same_self : (scope : Scope) → same_scope scope scope ≡ true
same_self scope =
    ap (λ (b : Bool). b && pointwise (pointwise nat_eq) scope.filters scope.filters) (same_text scope.stream)
    ∙ same_all (pointwise nat_eq) same_text scope.filters

-- where a session reads the same, that is kept
pub agreed_is : (first : Option Scope) (scope kept : Scope) → agreed first scope ≡ Some kept → kept ≡ unwrap_or first scope
agreed_is None scope kept is = cc
agreed_is (Some first) scope kept is = by_test (same_scope first scope) is
  where
    by_test : (b : Bool) → (if b then Some first else None) ≡ Some kept → kept ≡ first
    by_test true is = cc
    by_test false is = cc

pub agreed_same : (first : Option Scope) (scope kept : Scope) → agreed first scope ≡ Some kept → same_scope (unwrap_or first scope) scope ≡ true
agreed_same None scope kept is = same_self scope
agreed_same (Some first) scope kept is = by_test (same_scope first scope) is
  where
    by_test : (b : Bool) → (if b then Some first else None) ≡ Some kept → b ≡ true
    by_test true is = refl
    by_test false is = cc

pub agreed_none : (first : Option Scope) (scope : Scope) → agreed first scope ≡ None → same_scope (unwrap_or first scope) scope ≡ false
agreed_none None scope is = cc
agreed_none (Some first) scope is = by_test (same_scope first scope) is
  where
    by_test : (b : Bool) → (if b then Some first else None) ≡ None → b ≡ false
    by_test true is = cc
    by_test false is = refl

-- ---- the begin

yields_first : (g : ReplayInput) (start : ℕ) → yields (all_outputs (fold g start [])) ≡ yields (last g start []).outputs
yields_first g start =
    ap (λ (steps : List Step). yields ((fold g start []).opening.outputs ++ joined steps)) (no_steps g start)
    ∙ ap yields (append-nil (fold g start []).opening.outputs)
    ∙ ap (λ (step : Step). yields step.outputs) (opening_is g start [])

pub begun : (next : ℕ) (done : List Session) (s : Session) (old : Sessions) (c : SessionReplay) (kept : Scope) → HaveEnded next done old
    → s.lines ≡ [] → c.number ≡ old.count + 1 → is_at old.next (configured_start s.setup) ≡ true → agreed old.scope (scope_of s.setup s.first) ≡ Some kept
    → c.before ≡ old.committed → c.scope ≡ kept → HasCome (replay_input_of s) s.start [] c.replay
    → c.saved ≡ mark_of old.next [] → c.yielded ≡ mark_of old.next (yields c.replay.outputs) → c.has_failed ≡ false
    → HasComeTo next done s c
begun next done s old c kept ended empty number starts agrees before scope come saved_none yielded sound =
    let no_events : [] ≡ events_of s.lines = ap events_of (sym empty) in
    let b : ℕ = bookmark next (all_committed done) in
    let first : agreed (first_scope done) (scope_of s.setup s.first) ≡ Some kept = ap (λ (o : Option Scope). agreed o (scope_of s.setup s.first)) (sym ended.scope) ∙ agrees in
    record {
      number = number ∙ ap (λ (n : ℕ). n + 1) ended.count;
      before = before ∙ ended.committed;
      scope = scope ∙ agreed_is (first_scope done) (scope_of s.setup s.first) kept first;
      accepted = ended.accepted;
      starts = ap (λ (n : ℕ). is_at n (configured_start s.setup)) (sym ended.goes_on) ∙ starts;
      matches = agreed_same (first_scope done) (scope_of s.setup s.first) kept first;
      replay = subst (λ (es : List Event). HasCome (replay_input_of s) s.start es c.replay) no_events come;
      yielded =
          yielded ∙ ap (λ (n : ℕ). mark_of n (yields c.replay.outputs)) ended.goes_on
          ∙ ap (λ (outputs : List Output). mark_of b (yields outputs)) come.outputs
          ∙ ap (mark_of b) (sym (yields_first (replay_input_of s) s.start))
          ∙ ap (λ (es : List Event). mark_of b (yields (all_outputs (fold (replay_input_of s) s.start es)))) no_events;
      saved =
          saved_none ∙ ap (λ (n : ℕ). mark_of n []) ended.goes_on
          ∙ ap (λ (lines : List Line). mark_of b (committed_of (saved lines) (fold (replay_input_of s) s.start (events_of lines)))) (sym empty);
      sound = sound;
    }

-- ---- one line more

-- an event is passed
pub comes_event : (next : ℕ) (done : List Session) (s : Session) (e : Event) (c new : SessionReplay) → HasComeTo next done s c
    → new.number ≡ c.number → new.before ≡ c.before → new.scope ≡ c.scope
    → HasCome (replay_input_of s) s.start (events_of s.lines ++ e ∷ []) new.replay
    → ((at : ℕ) (entries : List Entry) → c.yielded ≡ mark_of at entries → new.yielded ≡ mark_of at (entries ++ yields new.replay.outputs))
    → new.saved ≡ c.saved → new.has_failed ≡ false → HasComeTo next done (with_line s (line.Event e)) new
comes_event next done s e c new come number before scope replay yielded same sound =
    let g : ReplayInput = replay_input_of s in
    let es : List Event = events_of s.lines in
    let one : es ++ e ∷ [] ≡ events_of (s.lines ++ line.Event e ∷ []) = sym (events_event s.lines e) in
    let b : ℕ = bookmark next (all_committed done) in
    record {
      number = number ∙ come.number;
      before = before ∙ come.before;
      scope = scope ∙ come.scope;
      accepted = come.accepted;
      starts = come.starts;
      matches = come.matches;
      replay = subst (λ (all : List Event). HasCome g s.start all new.replay) one replay;
      yielded =
          yielded b (yields (all_outputs (run_of s))) come.yielded
          ∙ ap (λ (outputs : List Output). mark_of b (yields (all_outputs (run_of s)) ++ yields outputs)) replay.outputs
          ∙ ap (mark_of b) (sym (yields_grow g s.start es e))
          ∙ ap (λ (all : List Event). mark_of b (yields (all_outputs (fold g s.start all)))) one;
      saved =
          same ∙ come.saved
          ∙ ap (mark_of b) (sym (committed_grow (saved s.lines) g s.start es e (saved_within s.lines)))
          ∙ ap (λ (n : Option ℕ). mark_of b (committed_of n (fold g s.start (es ++ e ∷ [])))) (sym (saved_event s.lines e))
          ∙ ap (λ (all : List Event). mark_of b (committed_of (saved (s.lines ++ line.Event e ∷ [])) (fold g s.start all))) one;
      sound = sound;
    }

-- or all is committed
pub comes_save : (next : ℕ) (done : List Session) (s : Session) (c new : SessionReplay) → HasComeTo next done s c
    → new.number ≡ c.number → new.before ≡ c.before → new.scope ≡ c.scope → new.replay ≡ c.replay → new.yielded ≡ c.yielded → new.saved ≡ c.yielded → new.has_failed ≡ c.has_failed
    → HasComeTo next done (with_line s line.Save) new
comes_save next done s c new come number before scope replay yielded same sound =
    let g : ReplayInput = replay_input_of s in
    let es : List Event = events_of s.lines in
    let one : es ≡ events_of (s.lines ++ line.Save ∷ []) = sym (events_save s.lines) in
    let b : ℕ = bookmark next (all_committed done) in
    record {
      number = number ∙ come.number;
      before = before ∙ come.before;
      scope = scope ∙ come.scope;
      accepted = come.accepted;
      starts = come.starts;
      matches = come.matches;
      replay =
          subst (λ (all : List Event). HasCome g s.start all new.replay) one
          (subst (λ (replay : IncrementalReplay). HasCome g s.start es replay) (sym replay) come.replay);
      yielded = yielded ∙ come.yielded ∙ ap (λ (all : List Event). mark_of b (yields (all_outputs (fold g s.start all)))) one;
      saved =
          same ∙ come.yielded
          ∙ ap (mark_of b) (sym (committed_all g s.start es))
          ∙ ap (λ (n : Option ℕ). mark_of b (committed_of n (fold g s.start es))) (sym (saved_save s.lines))
          ∙ ap (λ (all : List Event). mark_of b (committed_of (saved (s.lines ++ line.Save ∷ [])) (fold g s.start all))) one;
      sound = sound ∙ come.sound;
    }

-- ---- the end

-- its replay is refused,
pub ends_refused : (next : ℕ) (done : List Session) (s : Session) (c : SessionReplay) (refusal : ReplayError) → HasComeTo next done s c → refuse (replay_input_of s) s.start (events_of s.lines) ≡ Some refusal
    → IsRefusal next (done ++ s ∷ []) (replay_refusal c.number refusal)
ends_refused next done s c replay_error.OutOfMemory come refused = tt
ends_refused next done s c replay_error.NoDeliverSubject come refused = replay_refused next c.number done s replay_error.NoDeliverSubject come.accepted come.number come.starts come.matches refused
ends_refused next done s c (replay_error.BadSettings field) come refused = replay_refused next c.number done s (replay_error.BadSettings field) come.accepted come.number come.starts come.matches refused
ends_refused next done s c (replay_error.BadEvent place) come refused = replay_refused next c.number done s (replay_error.BadEvent place) come.accepted come.number come.starts come.matches refused
ends_refused next done s c (replay_error.SequenceEnd place) come refused = replay_refused next c.number done s (replay_error.SequenceEnd place) come.accepted come.number come.starts come.matches refused

within_none : (b : Bool) (at : ℕ) → (if b then None else Some at) ≡ None → b ≡ true
within_none true at is = refl
within_none false at is = cc

within_some : (b : Bool) (at next : ℕ) → (if b then None else Some at) ≡ Some next → b ≡ false
within_some true at next is = cc
within_some false at next is = refl

within_at : (b : Bool) (at next : ℕ) → (if b then None else Some at) ≡ Some next → next ≡ at
within_at true at next is = cc
within_at false at next is = cc

saved_next : (next : ℕ) (done : List Session) (s : Session) (c : SessionReplay) → HasComeTo next done s c → c.saved.next ≡ bookmark_within (bookmark next (all_committed done)) (committed s)
saved_next next done s c come = ap (λ (m : Mark). m.next) come.saved

-- it commits the last of all sequences,
pub ends_last : (next : ℕ) (done : List Session) (s : Session) (c : SessionReplay) → HasComeTo next done s c → refuse (replay_input_of s) s.start (events_of s.lines) ≡ None → c.saved.next ≡ None
    → refuse_sessions next (done ++ s ∷ []) ≡ Some (error.BookmarkEnd c.number)
ends_last next done s c come accepted none =
    bookmark_ends next c.number done s come.accepted come.number come.starts come.matches accepted
    (within_none (has_last (committed s)) (bookmark (bookmark next (all_committed done)) (committed s)) (sym (saved_next next done s c come) ∙ none))

first_on : (done : List Session) (s : Session) → Some (scope_for done s) ≡ first_scope (done ++ s ∷ [])
first_on [] s = refl
first_on (first ∷ done) s = refl

count_on : (done : List Session) (s : Session) → length done + 1 ≡ length (done ++ s ∷ [])
count_on done s = sym (simp length-append (omega arith))

-- or has ended
pub ends_well : (next : ℕ) (done : List Session) (s : Session) (c : SessionReplay) (end : SessionEnd) (at : ℕ) → HasComeTo next done s c
    → refuse (replay_input_of s) s.start (events_of s.lines) ≡ None → end.ended ≡ (run_of s).ended → c.saved.next ≡ Some at
    → end.committed ≡ c.saved.count → end.sessions ≡ record { count = c.number; next = at; committed = c.before + c.saved.count; scope = Some c.scope }
    → HasEnded next done s end
ends_well next done s c end at come accepted ended some count is =
    let b : ℕ = bookmark next (all_committed done) in
    let now : bookmark_within b (committed s) ≡ Some at = sym (saved_next next done s c come) ∙ some in
    let same : at ≡ bookmark b (committed s) = within_at (has_last (committed s)) (bookmark b (committed s)) at now in
    let counted : c.saved.count ≡ length (committed s) = ap (λ (m : Mark). m.count) come.saved in
    let behind : end.sessions.next ≡ bookmark b (committed s) = ap (λ (all : Sessions). all.next) is ∙ same in
    record {
      sessions = record {
        count = ap (λ (all : Sessions). all.count) is ∙ come.number ∙ count_on done s;
        goes_on = behind ∙ sym (bookmark_on next done s);
        committed =
            ap (λ (all : Sessions). all.committed) is
            ∙ ap (λ (n : ℕ). n + c.saved.count) come.before
            ∙ ap (λ (n : ℕ). length (all_committed done) + n) counted
            ∙ sum_on;
        scope = ap (λ (all : Sessions). all.scope) is ∙ ap (λ (scope : Scope). Some scope) come.scope ∙ first_on done s;
        accepted = one_accepted next done s come.accepted come.starts come.matches accepted (within_some (has_last (committed s)) (bookmark b (committed s)) at now);
      };
      ended = ended;
      count = count ∙ counted;
      goes_on = behind;
    }
  where
    sum_on : length (all_committed done) + length (committed s) ≡ length (all_committed (done ++ s ∷ []))
    sum_on = sym (ap (λ (entries : List Entry). length entries) (committed_on done s) ∙ length-append (all_committed done) (committed s))
