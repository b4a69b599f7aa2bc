-- The steps of a session, its run, and all runs.
use Rattle.std.proofs.Common.{◌≡◌, ℕ, ◌+◌, ◌<◌, List, [], ◌∷◌, ◌++◌, length, take, drop, get_or, sym, ap, ◌∙◌, subst, take-append-drop}
use Rattle.std.proofs.lemmas.List.{take_more}
use Rattle.std.specs.Prelude.{Bool, Result, Ok, Err, OnOk}
use Rattle.js_ordered.specs.IncrementalReplay.{last}
use Rattle.js_ordered.proofs.EventByEvent.{no_steps, opening_is, steps_on}
use Rattle.js_ordered_table.specs.declared.consumer.ReplayInput.{ReplayInput}
use Rattle.js_ordered_table.specs.declared.event.Event.{Event}
use Rattle.js_ordered_table.specs.declared.run.Output.{Output}
use Rattle.js_ordered_table.specs.declared.run.Step.{Step}
use Rattle.js_ordered_table.specs.Fold.{fold, step_of}
use Rattle.js_event_log_sessions.specs.declared.session_replay.SessionReplay.{SessionReplay}
use Rattle.js_event_log_sessions.specs.declared.session_replay.SessionEnd.{SessionEnd}
use Rattle.js_event_log_sessions.specs.declared.error.SessionsError.{SessionsError}
use Rattle.js_event_log_sessions.specs.declared.session.Line.{Line}
use Rattle.js_event_log_sessions.specs.declared.session.Line.TheVariants as line
use Rattle.js_event_log_sessions.specs.declared.session.Session.{Session}
use Rattle.js_event_log_sessions.specs.declared.session.SessionRun.{SessionRun}
use Rattle.js_event_log_sessions.specs.Bookmark.{events_of, bookmark}
use Rattle.js_event_log_sessions.specs.SessionReplay.{with_line, with_lines, HasComeTo, HasEnded, HasStepped}
use Rattle.js_event_log_sessions.specs.Runs.{replay_input_of, run_of, committed, all_committed, session_run, runs, IsRefusal}
use Rattle.js_event_log_sessions.proofs.Refusals.{refusal_stays}
use Rattle.js_event_log_sessions.proofs.Saves.{events_event, events_save}
use Rattle.js_event_log_sessions.proofs.NextSession.{runs_on}

-- ---- steps

-- without lines there are none
pub steps_none : (s : Session) → [] ≡ (run_of (with_lines s [])).steps
steps_none s = sym (no_steps (replay_input_of s) s.start)

-- an event adds the step that it puts out
pub steps_event : (next : ℕ) (done : List Session) (s : Session) (e : Event) (new : SessionReplay) (before steps : List Step) (step : Step) (outputs : List Output)
    → HasComeTo next done (with_line s (line.Event e)) new → before ≡ (run_of s).steps → outputs ≡ new.replay.outputs → step.outputs ≡ outputs → steps ≡ before ++ step ∷ []
    → steps ≡ (run_of (with_line s (line.Event e))).steps
steps_event next done s e new before steps step outputs come were put copied added =
    let g : ReplayInput = replay_input_of s in
    let es : List Event = events_of s.lines in
    let all : List Event = events_of (s.lines ++ line.Event e ∷ []) in
    let one : es ++ e ∷ [] ≡ all = sym (events_event s.lines e) in
    let made : List Output → Step = λ some. record { outputs = some } in
    let is : step ≡ step_of (last g s.start all) = ap made (copied ∙ put ∙ come.replay.outputs) in
    added
    ∙ ap (λ (some : List Step). some ++ step ∷ []) were
    ∙ ap (λ (x : Step). (fold g s.start es).steps ++ x ∷ []) is
    ∙ ap (λ (some : List Event). (fold g s.start es).steps ++ step_of (last g s.start some) ∷ []) (sym one)
    ∙ sym (steps_on g s.start es e)
    ∙ ap (λ (some : List Event). (fold g s.start some).steps) one

-- a save adds none
pub steps_save : (s : Session) (steps : List Step) → steps ≡ (run_of s).steps → steps ≡ (run_of (with_line s line.Save)).steps
steps_save s steps were = were ∙ ap (λ (es : List Event). (fold (replay_input_of s) s.start es).steps) (sym (events_save s.lines))

-- with an event
pub stepped_event : {E : Type 0} (next : ℕ) (done : List Session) (s : Session) (e : Event) (c new : SessionReplay) (before steps : List Step) (step : Step) (outputs : List Output) (l : Line) (result : Result (Unit {0}) E)
    → l ≡ line.Event e → HasStepped next done s c before → HasComeTo next done (with_line s (line.Event e)) new → outputs ≡ new.replay.outputs → step.outputs ≡ outputs
    → OnOk result (steps ≡ before ++ step ∷ []) → OnOk result (HasStepped next done (with_line s l) new steps)
stepped_event next done s e c new before steps step outputs l (Ok u) is stepped come put copied added =
    subst (λ (l : Line). HasStepped next done (with_line s l) new steps) (sym is)
    (record { come = come; so_far = steps_event next done s e new before steps step outputs come stepped.so_far put copied added })
stepped_event next done s e c new before steps step outputs l (Err error) is stepped come put copied added = tt

-- with a save
pub stepped_save : (next : ℕ) (done : List Session) (s : Session) (c new : SessionReplay) (steps : List Step) (l : Line)
    → l ≡ line.Save → HasStepped next done s c steps → HasComeTo next done (with_line s line.Save) new → HasStepped next done (with_line s l) new steps
stepped_save next done s c new steps l is stepped come =
    subst (λ (l : Line). HasStepped next done (with_line s l) new steps) (sym is)
    (record { come = come; so_far = steps_save s steps stepped.so_far })

-- ---- the run

-- what a session has come to is its run
pub run_is : (next : ℕ) (done : List Session) (s : Session) (began : SessionReplay) (end : SessionEnd) (opening : Step) (steps : List Step) (outputs : List Output) (at : ℕ)
    → HasComeTo next done (with_lines s []) began → outputs ≡ began.replay.outputs → opening.outputs ≡ outputs → steps ≡ (run_of s).steps → HasEnded next done s end → at ≡ end.sessions.next
    → record { run = record { opening = opening; steps = steps; ended = end.ended }; committed = end.committed; next = at } ≡ session_run (bookmark next (all_committed done)) s
run_is next done s began end opening steps outputs at come put copied were ended behind =
    let g : ReplayInput = replay_input_of s in
    let made : List Output → Step = λ some. record { outputs = some } in
    let first : opening ≡ (run_of s).opening = ap made (copied ∙ put ∙ come.replay.outputs) ∙ sym (opening_is g s.start (events_of s.lines)) in
    let of : Step → List Step → Bool → ℕ → ℕ → SessionRun = λ opening steps ended count at. record { run = record { opening = opening; steps = steps; ended = ended }; committed = count; next = at } in
    ap (λ (x : Step). of x steps end.ended end.committed at) first
    ∙ ap (λ (x : List Step). of (run_of s).opening x end.ended end.committed at) were
    ∙ ap (λ (x : Bool). of (run_of s).opening (run_of s).steps x end.committed at) ended.ended
    ∙ ap (λ (x : ℕ). of (run_of s).opening (run_of s).steps (run_of s).ended x at) ended.count
    ∙ ap (λ (x : ℕ). of (run_of s).opening (run_of s).steps (run_of s).ended (length (committed s)) x) (behind ∙ ended.goes_on)

-- it stands behind the others
pub runs_more : (next : ℕ) (done : List Session) (s : Session) (before all : List SessionRun) (run : SessionRun) → before ≡ runs next done
    → run ≡ session_run (bookmark next (all_committed done)) s → all ≡ before ++ run ∷ [] → all ≡ runs next (done ++ s ∷ [])
runs_more next done s before all run were is added =
    added
    ∙ ap (λ (some : List SessionRun). some ++ run ∷ []) were
    ∙ ap (λ (x : SessionRun). runs next done ++ x ∷ []) is
    ∙ sym (runs_on next done s)

-- ---- lists

pub front_more : {A : Type 0} (xs : List A) (i : ℕ) (x : A) → i < length xs → x ≡ get_or xs i x → take i xs ++ x ∷ [] ≡ take (i + 1) xs
front_more {A} xs i x within is = sym (take_more xs i x within ∙ ap (λ (y : A). take i xs ++ y ∷ []) (sym is))

-- what refuses one of the sessions refuses all
pub refused_at : (next : ℕ) (sessions : List Session) (i : ℕ) (s : Session) (refusal : SessionsError) → i < length sessions → s ≡ get_or sessions i s
    → IsRefusal next (take i sessions ++ s ∷ []) refusal → IsRefusal next sessions refusal
refused_at next sessions i s refusal within is refused =
    let whole : (take i sessions ++ s ∷ []) ++ drop (i + 1) sessions ≡ sessions =
    ap (λ (front : List Session). front ++ drop (i + 1) sessions) (front_more sessions i s within is) ∙ take-append-drop (i + 1) sessions in
    subst (λ (all : List Session). IsRefusal next all refusal) whole (refusal_stays next (take i sessions ++ s ∷ []) (drop (i + 1) sessions) refusal refused)
