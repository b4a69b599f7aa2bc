-- What the polls of a recorder come to.
use Rattle.std.proofs.Common.{◌≡◌, ℕ, ◌∙◌, List, [], ◌∷◌, ◌++◌, Option, None, refl, sym, ap, subst, append_assoc, append-nil}
use Rattle.std.specs.List.{AllByRecursion}
use Rattle.std.proofs.lemmas.List.Elements.{filter-append}
use Rattle.js_ordered_recorder.proofs.Delivery.{answers_deliver}
use Rattle.js_ordered_recorder.proofs.GaplessFront.{worked_gapless}
use Rattle.js_ordered_recorder.proofs.HandedOut.{Owns, new_owns, poll_hands, said_owns}
use Rattle.js_ordered_recorder.proofs.RecorderStates.{answers_come, at_same}
use Rattle.js_ordered_recorder.proofs.Written.{writes_on}
use Rattle.js_ordered_recorder.specs.Acts.{World, queue}
use Rattle.js_ordered_recorder.specs.Life.{ArePolls, HandsOutAll, HasLife, IsLife, IsNew, Poll, Sends, begun, events_in, outputs_in}
use Rattle.js_ordered_recorder.specs.Recorder.{IsAt}
use Rattle.js_ordered_recorder.specs.Recording.{WritesAll}
use Rattle.js_ordered_recorder.specs.declared.recorder.Recorder.{Recorder}
use Rattle.js_ordered_recorder.specs.declared.recording.RecordingFault.{RecordingFault}
use Rattle.js_ordered_table.specs.Fold.{fold}
use Rattle.js_ordered_table.specs.Gapless.{all_outputs}
use Rattle.js_ordered_table.specs.Walk.{handed, is_handed, is_sent, sent}
use Rattle.js_ordered_table.specs.declared.consumer.ReplayInput.{ReplayInput}
use Rattle.js_ordered_table.specs.declared.event.Event.{Event}
use Rattle.js_ordered_table.specs.declared.run.Output.{Output}

abbrev to : Recorder → Poll → World
to r poll = record { recorder = r; link = poll.after }

-- what the caller says of the link leaves the rest as it is
said_at : (g : ReplayInput) (start : ℕ) (es : List Event) (done : List Output) (r : Recorder) (poll : Poll) → IsAt g start es done r → IsAt g start es done (begun r poll).recorder
said_at g start es done r poll at = record { passed = at.passed; written = at.written; stands = at.stands; outputs = at.outputs; brought = at.brought; empty = at.empty }

polls_at : {R : Type 0} (writes : R → Event → Option RecordingFault → R → Type 0) (g : ReplayInput) (start : ℕ) (es : List Event) (done : List Output) (polls : List Poll) (r s : Recorder) (first last : R) → ArePolls writes r first polls s last
    → IsAt g start es done r → IsAt g start (es ++ events_in polls) (done ++ outputs_in polls) s
polls_at writes g start es done [] r s first last are at =
    let P : Recorder → Type 0 = λ x. IsAt g start (es ++ []) (done ++ []) x in
    subst P (sym are.0) (at_same g start es (es ++ []) done (done ++ []) r (sym (append-nil es)) (sym (append-nil done)) at)
polls_at writes g start es done (poll ∷ polls) r s first last are at =
    let come = answers_come poll.now poll.answer (begun r poll) (to are.0 poll) poll.events poll.worked are.2 g start es done (said_at g start es done r poll at) in
    at_same g start ((es ++ poll.events) ++ events_in polls) (es ++ (poll.events ++ events_in polls)) ((done ++ poll.worked) ++ outputs_in polls) (done ++ (poll.worked ++ outputs_in polls)) s
    (append_assoc es poll.events (events_in polls)) (append_assoc done poll.worked (outputs_in polls))
    (polls_at writes g start (es ++ poll.events) (done ++ poll.worked) polls are.0 s are.1 last are.4 come)

polls_write : {R : Type 0} (writes : R → Event → Option RecordingFault → R → Type 0) (polls : List Poll) (r s : Recorder) (first last : R) → ArePolls writes r first polls s last → WritesAll writes r.fault (events_in polls) s.fault first last
polls_write writes [] r s first last are = (are.1, ap (λ (x : Recorder). x.fault) are.0)
polls_write writes (poll ∷ polls) r s first last are =
    writes_on writes poll.events (events_in polls) r.fault are.0.fault s.fault first are.1 last are.3 (polls_write writes polls are.0 s are.1 last are.4)

polls_hand : {R : Type 0} (writes : R → Event → Option RecordingFault → R → Type 0) (g : ReplayInput) (start : ℕ) (earlier : List Event) (polls : List Poll) (r s : Recorder) (first last : R) → ArePolls writes r first polls s last
    → Owns g start earlier r → HandsOutAll earlier polls
polls_hand writes g start earlier [] r s first last are owns = tt
polls_hand writes g start earlier (poll ∷ polls) r s first last are owns =
    let hands = poll_hands g start poll.now earlier poll.answer (begun r poll) (to are.0 poll) poll.events poll.worked are.2 (said_owns g start earlier r poll.up owns) in
    (hands.0, polls_hand writes g start (earlier ++ poll.events) polls are.0 s are.1 last are.4 hands.1)

polls_send : {R : Type 0} (writes : R → Event → Option RecordingFault → R → Type 0) (polls : List Poll) (r s : Recorder) (first last : R) → ArePolls writes r first polls s last → AllByRecursion Sends polls
polls_send writes [] r s first last are = tt
polls_send writes (poll ∷ polls) r s first last are =
    let sends = answers_deliver poll.now poll.answer (begun r poll) (to are.0 poll) poll.events poll.worked are.2 in
    ((sends.all, sends.are, sends.told, sends.whole), polls_send writes polls are.0 s are.1 last are.4)

-- every life of a new recorder
pub new_lives : {R : Type 0} (writes : R → Event → Option RecordingFault → R → Type 0) (g : ReplayInput) (start : ℕ) (r : Recorder) → IsNew g start r → HasLife writes g start r
new_lives {R} writes g start r new = λ first last polls s are.
    let at : IsAt g start (events_in polls) (outputs_in polls) s = polls_at writes g start [] [] polls r s first last are new.stands in
    let W : Option RecordingFault → Type 0 = λ f. WritesAll writes f (events_in polls) s.fault first last in (
      record {
        at = at;
        handed_out = sym (filter-append is_handed (outputs_in polls) (queue s)) ∙ ap (λ (os : List Output). handed os) (sym at.outputs);
        asked = sym (filter-append is_sent (outputs_in polls) (queue s)) ∙ ap (λ (os : List Output). sent os) (sym at.outputs);
        hands = polls_hand writes g start [] polls r s first last are (new_owns g start r new.come new.taken new.event new.worked);
        sends = polls_send writes polls r s first last are;
        gapless = λ server honest. worked_gapless g start server at.passed (events_in polls) s.event (outputs_in polls) (queue s) at.written at.outputs honest;
      },
      subst W new.fault (polls_write writes polls r s first last are),
    )
