-- The text of sessions as it grows.
use Rattle.std.proofs.Common.{◌≡◌, ℕ, Bool, List, [], ◌∷◌, ◌++◌, length, flat_map, sym, ap, ◌∙◌, subst, append_assoc, append-nil}
use Rattle.std.proofs.lemmas.Grind.{flat_map-append}
use Rattle.js_ordered.specs.IncrementalReplay.{last}
use Rattle.js_ordered_table.specs.declared.consumer.ReplayInput.{ReplayInput}
use Rattle.js_ordered_table.specs.declared.event.Event.{Event}
use Rattle.js_ordered_table.specs.declared.run.Output.{Output}
use Rattle.js_ordered_table.specs.Fold.{fold}
use Rattle.js_event_log_sessions.specs.declared.session_replay.SessionReplay.{SessionReplay}
use Rattle.js_event_log_sessions.specs.declared.session_replay.SessionEnd.{SessionEnd}
use Rattle.js_event_log_sessions.specs.declared.session.Line.{Line}
use Rattle.js_event_log_sessions.specs.declared.session.Line.TheVariants as line
use Rattle.js_event_log_sessions.specs.declared.session.Session.{Session}
use Rattle.js_event_log_sessions.specs.declared.session.SessionRun.{SessionRun}
use Rattle.js_event_log_sessions.specs.Bookmark.{events_of, bookmark}
use Rattle.js_event_log_sessions.specs.SessionReplay.{HasComeTo, HasEnded, with_line}
use Rattle.js_event_log_sessions.specs.Runs.{replay_input_of, run_of, committed, all_committed, session_run, runs}
use Rattle.js_event_log_sessions.proofs.Saves.{events_event, events_save}
use Rattle.js_event_log_sessions.proofs.NextSession.{runs_on}
use Rattle.js_tool_transcript.specs.declared.transcript.setup.Setup.{Setup}
use Rattle.js_tool_transcript.specs.Text.{text_so_far, output_text, last_line, run_text}
use Rattle.js_tool.proofs.RunText.{text_first, text_on, text_ends}
use Rattle.js_tool_event_log.specs.declared.sessions.session.SessionText.{SessionText}
use Rattle.js_tool_event_log.specs.SessionProgress.{HasText}
use Rattle.js_tool_event_log.specs.SessionInput.{session_of}
use Rattle.js_tool_event_log.specs.SessionTexts.{bookmark_text, session_text, texts}

-- ---- the opening

pub text_begins : (next : ℕ) (done : List Session) (setup : Setup) (replay : SessionReplay) (outputs : List Output) (before text : List ℕ) → before ≡ texts next done
    → HasComeTo next done (session_of setup []) replay → outputs ≡ replay.replay.outputs → text ≡ before ++ flat_map (output_text 0) outputs
    → text ≡ texts next done ++ text_so_far (run_of (session_of setup []))
text_begins next done setup replay outputs before text were come put says =
    let g : ReplayInput = replay_input_of (session_of setup []) in
    says
    ∙ ap (λ (some : List ℕ). some ++ flat_map (output_text 0) outputs) were
    ∙ ap (λ (some : List Output). texts next done ++ flat_map (output_text 0) some) (put ∙ come.replay.outputs)
    ∙ ap (λ (some : List ℕ). texts next done ++ some) (sym (text_first g setup.start))

-- ---- one line more

pub text_event : (next : ℕ) (done : List Session) (setup : Setup) (lines : List Line) (e : Event) (replay : SessionReplay) (number : ℕ) (outputs : List Output) (before text : List ℕ)
    → before ≡ texts next done ++ text_so_far (run_of (session_of setup lines)) → HasComeTo next done (session_of setup (lines ++ line.Event e ∷ [])) replay
    → number ≡ replay.replay.count → outputs ≡ replay.replay.outputs → text ≡ before ++ flat_map (output_text number) outputs
    → text ≡ texts next done ++ text_so_far (run_of (session_of setup (lines ++ line.Event e ∷ [])))
text_event next done setup lines e replay number outputs before text were come counted put says =
    let g : ReplayInput = replay_input_of (session_of setup lines) in
    let start : ℕ = setup.start in
    let es : List Event = events_of lines in
    let all : List Event = events_of (lines ++ line.Event e ∷ []) in
    let one : es ++ e ∷ [] ≡ all = sym (events_event lines e) in
    let so_far : List ℕ = text_so_far (fold g start es) in
    let more : List Event → List ℕ = λ some. flat_map (output_text (length some)) (last g start some).outputs in
    let grown : so_far ++ more all ≡ text_so_far (fold g start all) =
    ap (λ (some : List Event). so_far ++ more some) (sym one) ∙ sym (text_on g start es e) ∙ ap (λ (some : List Event). text_so_far (fold g start some)) one in
    says
    ∙ ap (λ (some : List ℕ). some ++ flat_map (output_text number) outputs) were
    ∙ ap (λ (n : ℕ). (texts next done ++ so_far) ++ flat_map (output_text n) outputs) (counted ∙ come.replay.count)
    ∙ ap (λ (some : List Output). (texts next done ++ so_far) ++ flat_map (output_text (length all)) some) (put ∙ come.replay.outputs)
    ∙ append_assoc (texts next done) so_far (more all)
    ∙ ap (λ (some : List ℕ). texts next done ++ some) grown

pub text_save : (next : ℕ) (done : List Session) (setup : Setup) (lines : List Line) (text : List ℕ) → text ≡ texts next done ++ text_so_far (run_of (session_of setup lines))
    → text ≡ texts next done ++ text_so_far (run_of (session_of setup (lines ++ line.Save ∷ [])))
text_save next done setup lines text were =
    were ∙ ap (λ (es : List Event). texts next done ++ text_so_far (fold (replay_input_of (session_of setup lines)) setup.start es)) (sym (events_save lines))

-- ---- the end

-- the texts of sessions and of one more
pub texts_on : (next : ℕ) (done : List Session) (s : Session) → texts next (done ++ s ∷ []) ≡ texts next done ++ session_text (session_run (bookmark next (all_committed done)) s)
texts_on next done s =
    let run : SessionRun = session_run (bookmark next (all_committed done)) s in
    ap (flat_map session_text) (runs_on next done s)
    ∙ flat_map-append session_text (runs next done) (run ∷ [])
    ∙ ap (λ (some : List ℕ). texts next done ++ some) (append-nil (session_text run))

pub text_ended : (next : ℕ) (done : List Session) (setup : Setup) (lines : List Line) (p : SessionText) (end : SessionEnd) (number at : ℕ) (with_end text : List ℕ)
    → HasText next done setup lines p → HasEnded next done (session_of setup lines) end → number ≡ p.replay.replay.count → at ≡ end.sessions.next
    → with_end ≡ p.text.items ++ last_line end.ended number → text ≡ with_end ++ bookmark_text end.committed at → text ≡ texts next (done ++ session_of setup lines ∷ [])
text_ended next done setup lines p end number at with_end text has ended counted behind ends says =
    let s : Session = session_of setup lines in
    let g : ReplayInput = replay_input_of s in
    let es : List Event = events_of lines in
    let so_far : List ℕ = text_so_far (run_of s) in
    let run : run_text (run_of s) ≡ so_far ++ last_line (run_of s).ended (length es) = text_ends g setup.start es in
    let here : ℕ = bookmark (bookmark next (all_committed done)) (committed s) in
    let mark : bookmark_text end.committed at ≡ bookmark_text (length (committed s)) here =
    ap (λ (n : ℕ). bookmark_text n at) ended.count ∙ ap (λ (n : ℕ). bookmark_text (length (committed s)) n) (behind ∙ ended.goes_on) in
    let whole : with_end ≡ texts next done ++ run_text (run_of s) =
    ends
    ∙ ap (λ (some : List ℕ). some ++ last_line end.ended number) has.text
    ∙ ap (λ (b : Bool). (texts next done ++ so_far) ++ last_line b number) ended.ended
    ∙ ap (λ (n : ℕ). (texts next done ++ so_far) ++ last_line (run_of s).ended n) (counted ∙ has.come.replay.count)
    ∙ append_assoc (texts next done) so_far (last_line (run_of s).ended (length es))
    ∙ ap (λ (some : List ℕ). texts next done ++ some) (sym run) in
    says
    ∙ ap (λ (some : List ℕ). some ++ bookmark_text end.committed at) whole
    ∙ ap (λ (some : List ℕ). (texts next done ++ run_text (run_of s)) ++ some) mark
    ∙ append_assoc (texts next done) (run_text (run_of s)) (bookmark_text (length (committed s)) here)
    ∙ sym (texts_on next done s)

-- ---- what has its text

pub event_passes : (old new : SessionText) (l : Line) (e : Event) (number : ℕ) (outputs : List Output) → l ≡ line.Event e
    → ((next : ℕ) (done : List Session) (s : Session) → HasComeTo next done s old.replay → HasComeTo next done (with_line s (line.Event e)) new.replay)
    → number ≡ new.replay.replay.count → outputs ≡ new.replay.replay.outputs → new.text.items ≡ old.text.items ++ flat_map (output_text number) outputs
    → (next : ℕ) (done : List Session) (setup : Setup) (some : List Line) → HasText next done setup some old → HasText next done setup (some ++ l ∷ []) new
event_passes old new l e number outputs is comes counted put says next done setup some has =
    let come : HasComeTo next done (session_of setup (some ++ line.Event e ∷ [])) new.replay = comes next done (session_of setup some) has.come in
    subst (λ (l : Line). HasText next done setup (some ++ l ∷ []) new) (sym is)
    (record {
      come = come;
      text = text_event next done setup some e new.replay number outputs old.text.items new.text.items has.text come counted put says;
    })

pub save_passes : (old new : SessionText) (l : Line) → l ≡ line.Save
    → ((next : ℕ) (done : List Session) (s : Session) → HasComeTo next done s old.replay → HasComeTo next done (with_line s line.Save) new.replay)
    → new.text.items ≡ old.text.items → (next : ℕ) (done : List Session) (setup : Setup) (some : List Line) → HasText next done setup some old → HasText next done setup (some ++ l ∷ []) new
save_passes old new l is comes says next done setup some has =
    subst (λ (l : Line). HasText next done setup (some ++ l ∷ []) new) (sym is)
    (record {
      come = comes next done (session_of setup some) has.come;
      text = text_save next done setup some new.text.items (says ∙ has.text);
    })
