-- What a replay answers to a line.
use Rattle.std.proofs.Common.{◌≡◌, ℕ, ◌+◌, List, [], ◌∷◌, ◌++◌, length, Bool, if◌then◌else◌, Option, Some, None, Result, Ok, Err, refl, sym, ap, subst, ◌∙◌, append-nil}
use Rattle.std.specs.Prelude.{IfOk}
use Rattle.js_base.specs.declared.message.Message.{Message}
use Rattle.js_ordered.specs.IncrementalReplay.{HasCome}
use Rattle.js_ordered_table.specs.declared.consumer.Phase.{Phase}
use Rattle.js_ordered_table.specs.declared.event.Event.{Event}
use Rattle.js_ordered_table.specs.declared.run.ReplayError.{ReplayError}
use Rattle.js_ordered_table.specs.Fold.{fold}
use Rattle.js_ordered_table.specs.Refusal.{refuse}
use Rattle.js_tool.specs.declared.status.Status.{Status}
use Rattle.js_tool.specs.declared.status.Status.TheVariants as status
use Rattle.js_tool_transcript.specs.declared.transcript.setup.Setup.{Setup}
use Rattle.js_tool_transcript.specs.Event.{event_line}
use Rattle.js_tool_transcript.specs.TranscriptReplay.{replay_input}
use Rattle.js_tool_transcript.specs.Setup.{setup_line}
use Rattle.js_tool_transcript.specs.Text.{last_line}
use Rattle.js_tool_transcript.specs.Transcript.{numbered}
use Rattle.js_tool.specs.declared.command.FollowOptions.{FollowOptions}
use Rattle.js_tool_follow.specs.declared.answer.Answer.{Answer}
use Rattle.js_tool_follow.specs.declared.answer.Listener.{Listener}
use Rattle.js_tool_follow.specs.Answer.{AnswersEvents, AnswersLine, AnswersEnd, IsEnding, IsTold}
use Rattle.js_tool_follow.specs.AnswerText.{answer_text, last_phase, messages_behind, text_to}
use Rattle.js_tool_follow.specs.Details.{messages_at}
use Rattle.js_tool_follow.proofs.AnswerTexts.{answer_same, text_first, text_more}
use Rattle.js_tool_follow.specs.Standing.{Standing, Going, Over, passed, opened, went_on, next, standing, said, said_in_all, end_of, answered}
use Rattle.js_tool_follow.proofs.LinesTold.{one_more, one_told, is_run}

-- events that were answered behind a text stand so
answered_events : (asked : FollowOptions) (messages : List Message) (setup : Setup) (es : List Event) (before text : List ℕ) (lines : List (List ℕ)) (ending : Option Status) (listener : Listener)
    → standing asked lines ≡ passed setup es before (refuse (replay_input setup) setup.start es) → text_to asked setup es ≡ before ++ answer_text asked messages setup es → listener.options ≡ asked → HasCome (replay_input setup) setup.start es listener.replay.value
    → AnswersEvents asked messages setup es text ending
    → AnswersLine asked before lines text ending listener
answered_events asked messages setup es before text lines None listener stands adds options come (accepted, says) =
    let goes : standing asked lines ≡ Going setup es = stands ∙ ap (passed setup es before) accepted in
    (ap (said asked) goes ∙ adds ∙ ap (λ (t : List ℕ). before ++ t) (sym says), record { options = options; setup = setup; es = es; stands = goes; come = come })
answered_events asked messages setup es before text lines (Some s) listener stands adds options come (refusal, refuses, says, is) = (
  stands ∙ ap (passed setup es before) refuses ∙ ap (λ (t : List ℕ). Over (before ++ t) status.Refused) (sym says) ∙ ap (Over (before ++ text)) (sym is),
  ends_so s is,
)
  where
    ends_so : (s : Status) → s ≡ status.Refused → IsEnding s
    ends_so s is = subst (λ (x : Status). IsEnding x) (sym is) tt

-- the opening
pub answered_opening : (asked : FollowOptions) (setup : Setup) (line text : List ℕ) (ending : Option Status) (listener : Listener) → listener.options ≡ asked → HasCome (replay_input setup) setup.start [] listener.replay.value
    → numbered 1 (setup_line line) ≡ Ok setup → AnswersEvents asked [] setup [] text ending → AnswersLine asked [] (line ∷ []) text ending listener
answered_opening asked setup line text ending listener options come reads answers =
    answered_events asked [] setup [] [] text (line ∷ []) ending listener (one_told asked line ∙ ap opened reads) (text_first asked setup) options come answers

-- an event more
pub answered_event : (asked : FollowOptions) (lines : List (List ℕ)) (line text : List ℕ) (setup : Setup) (es : List Event) (e : Event) (ending : Option Status) (listener : Listener) → standing asked lines ≡ Going setup es
    → numbered (length es + 2) (event_line line) ≡ Ok e → listener.options ≡ asked → HasCome (replay_input setup) setup.start (es ++ e ∷ []) listener.replay.value
    → AnswersEvents asked (messages_behind setup es e) setup (es ++ e ∷ []) text ending
    → AnswersLine asked (answered asked lines) (lines ++ line ∷ []) text ending listener
answered_event asked lines line text setup es e ending listener stands reads options come answers =
    subst (λ (before : List ℕ). AnswersLine asked before (lines ++ line ∷ []) text ending listener) (sym (ap (said asked) stands))
    (answered_events asked (messages_behind setup es e) setup (es ++ e ∷ []) (text_to asked setup es) text (lines ++ line ∷ []) ending listener
    (one_more asked lines line ∙ ap (λ (s : Standing). next asked s line) stands ∙ ap (went_on asked setup es) reads) (text_more asked setup es e) options come answers)

-- a line that does not read
pub answered_unread : (asked : FollowOptions) (lines : List (List ℕ)) (line text : List ℕ) (setup : Setup) (es : List Event) (n : ℕ) (ending : Option Status) (listener : Listener) → standing asked lines ≡ Going setup es
    → numbered (length es + 2) (event_line line) ≡ Err n → text ≡ [] → ending ≡ Some (status.BadLine n) → AnswersLine asked (answered asked lines) (lines ++ line ∷ []) text ending listener
answered_unread asked lines line text setup es n ending listener stands fails none is =
    subst (λ (e : Option Status). AnswersLine asked (answered asked lines) (lines ++ line ∷ []) text e listener) (sym is) (
      one_more asked lines line ∙ ap (λ (s : Standing). next asked s line) stands ∙ ap (went_on asked setup es) fails
          ∙ ap (λ (t : List ℕ). Over t (status.BadLine n)) (sym (ap (λ (t : List ℕ). answered asked lines ++ t) none ∙ append-nil (answered asked lines) ∙ ap (said asked) stands)),
      tt,
    )

-- no more lines come
pub answered_end : (asked : FollowOptions) (lines : List (List ℕ)) (listener : Listener) (ended : Bool) (number : ℕ) (text : List ℕ) (ending : Option Status) (told : IsTold asked lines listener) → ended ≡ (fold (replay_input told.setup) told.setup.start told.es).ended
    → number ≡ length told.es → text ≡ last_line ended number → ending ≡ Some status.Done → AnswersEnd asked lines text ending
answered_end asked lines listener ended number text ending told ends counted says is =
    let g = replay_input told.setup in
    let start = told.setup.start in
    subst (λ (e : Option Status). AnswersEnd asked lines text e) (sym is) (
      ap (said_in_all asked) told.stands
          ∙ ap (λ (t : List ℕ). t ++ last_line (fold g start told.es).ended (length told.es)) (sym (ap (said asked) told.stands))
          ∙ ap (λ (b : Bool). answered asked lines ++ last_line b (length told.es)) (sym ends)
          ∙ ap (λ (n : ℕ). answered asked lines ++ last_line ended n) (sym counted)
          ∙ ap (λ (t : List ℕ). answered asked lines ++ t) (sym says),
      ap end_of told.stands,
      refl,
    )

-- what is told is not refused
pub told_accepted : (asked : FollowOptions) (lines : List (List ℕ)) (setup : Setup) (es : List Event) → standing asked lines ≡ Going setup es → refuse (replay_input setup) setup.start es ≡ None
told_accepted asked lines setup es stands = (is_run asked lines setup es stands).accepted

never_both : (refusal : ReplayError) → ◌≡◌ {A = Option ReplayError} None (Some refusal) → ⊥
never_both refusal same = cc

-- so it is not refused at the end
pub never_refused : (asked : FollowOptions) (lines : List (List ℕ)) (listener : Listener) (refusal : ReplayError) (told : IsTold asked lines listener) → refuse (replay_input told.setup) told.setup.start told.es ≡ Some refusal → ⊥
never_refused asked lines listener refusal told refuses = never_both refusal (sym (told_accepted asked lines told.setup told.es told.stands) ∙ refuses)

-- ---- where memory lasts

pub end_so : {E : Type 0} (asked : FollowOptions) (result : Result Answer E) (lines : List (List ℕ)) (listener : Listener) (ended : Bool) (number : ℕ) (told : IsTold asked lines listener) → ended ≡ (fold (replay_input told.setup) told.setup.start told.es).ended
    → number ≡ length told.es → IfOk result (λ answer. (answer.text.items ≡ last_line ended number) × (answer.ending ≡ Some status.Done)) → IfOk result (λ answer. AnswersEnd asked lines answer.text.items answer.ending)
end_so asked (Ok answer) lines listener ended number told ends counted says = answered_end asked lines listener ended number answer.text.items answer.ending told ends counted says.0 says.1
end_so asked (Err e) lines listener ended number told ends counted says = tt

-- the messages that were copied are those that the event could hand out, where details are asked for
pub asked_so : {E : Type 0} (asked : FollowOptions) (result : Result Answer E) (copies : List Message) (phase : Phase) (setup : Setup) (es : List Event) (e : Event)
    → copies ≡ (if asked.details then messages_at phase e else []) → phase ≡ last_phase setup es → IfOk result (λ answer. AnswersEvents asked copies setup (es ++ e ∷ []) answer.text.items answer.ending)
    → IfOk result (λ answer. AnswersEvents asked (messages_behind setup es e) setup (es ++ e ∷ []) answer.text.items answer.ending)
asked_so asked (Ok answer) copies phase setup es e are at says = by_ending answer.ending says
  where
    by_ending : (ending : Option Status) → AnswersEvents asked copies setup (es ++ e ∷ []) answer.text.items ending → AnswersEvents asked (messages_behind setup es e) setup (es ++ e ∷ []) answer.text.items ending
    by_ending None (accepted, text) = (
      accepted,
      text ∙ ap (λ (messages : List Message). answer_text asked messages setup (es ++ e ∷ [])) (are ∙ ap (λ (p : Phase). if asked.details then messages_at p e else []) at)
          ∙ answer_same asked (messages_behind setup es e) setup (es ++ e ∷ []),
    )
    by_ending (Some s) refuses = refuses
asked_so asked (Err error) copies phase setup es e are at says = tt

pub passed_so : {E : Type 0} (asked : FollowOptions) (result : Result Answer E) (lines : List (List ℕ)) (line : List ℕ) (setup : Setup) (es : List Event) (e : Event) (number : ℕ) (old new : Listener) → standing asked lines ≡ Going setup es
    → number ≡ length es + 2 → numbered number (event_line line) ≡ Ok e → old.options ≡ asked → new.options ≡ old.options
    → IfOk result (λ answer. HasCome (replay_input setup) setup.start (es ++ e ∷ []) new.replay.value)
    → IfOk result (λ answer. AnswersEvents old.options (messages_behind setup es e) setup (es ++ e ∷ []) answer.text.items answer.ending)
    → IfOk result (λ answer. AnswersLine asked (answered asked lines) (lines ++ line ∷ []) answer.text.items answer.ending new)
passed_so asked (Ok answer) lines line setup es e number old new stands counted reads options kept come says =
    answered_event asked lines line answer.text.items setup es e answer.ending new stands (subst (λ (n : ℕ). numbered n (event_line line) ≡ Ok e) counted reads) (kept ∙ options) come
    (subst (λ (o : FollowOptions). AnswersEvents o (messages_behind setup es e) setup (es ++ e ∷ []) answer.text.items answer.ending) options says)
passed_so asked (Err error) lines line setup es e number old new stands counted reads options kept come says = tt

pub unread_so : (asked : FollowOptions) (lines : List (List ℕ)) (line text : List ℕ) (setup : Setup) (es : List Event) (n number : ℕ) (ending : Option Status) (listener : Listener) → standing asked lines ≡ Going setup es → number ≡ length es + 2
    → numbered number (event_line line) ≡ Err n → text ≡ [] → ending ≡ Some (status.BadLine n) → AnswersLine asked (answered asked lines) (lines ++ line ∷ []) text ending listener
unread_so asked lines line text setup es n number ending listener stands counted fails none is =
    answered_unread asked lines line text setup es n ending listener stands (subst (λ (k : ℕ). numbered k (event_line line) ≡ Err n) counted fails) none is
